-- What a rule owes the engine, and no more: stated of its script alone. Assumes nothing.
use Rattle.std.specs.Prelude.{◌≡◌, ℕ, ◌<◌, Bool, List}
use Rattle.orders.specs.declared.order.Order.{Order}
use Rattle.diagrams.specs.declared.Node.{Node}
use Rattle.diagrams.specs.Moves.{Moves}
use Rattle.diagrams.specs.Table.{Exists, mem}
use Rattle.diagrams.specs.Rules.{Asks, NodeSet, Made}
use Rattle.diagrams.specs.Script.{Script, answer, make, enter}
use Rattle.diagrams.specs.Work.{Valid, Set, measure}

module _ (g : Moves) where
  -- From the table M on, a script ends in the set P. It asks only for nodes that keep the rules, and enters only tasks that
  -- may be asked and go less deep than m; of their answers it knows the sets.
  abbrev pub Meets : (Order → Bool) → ℕ → List Node → Script → Type 0
  Meets P m M (answer r) = Exists M r × ((o : Order) → mem g M r o ≡ P o)
  Meets P m M (make x y lo hi k) = Asks M x y lo hi × ((K : List Node) (r : ℕ) → Made g M (NodeSet g M x y lo hi) K r → Meets P m K (k r))
  Meets P m M (enter t k) = Valid M t × (measure M t < m) × ((K : List Node) (r : ℕ) → Made g M (Set g M t) K r → Meets P m K (k r))

  -- a script that ends in some set, over some depth
  abbrev pub Owed : List Node → Script → Type 0
  Owed N s = (P : Order → Bool) × (m : ℕ) × Meets P m N s
