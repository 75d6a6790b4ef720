-- What is remembered stays right: as the table grows, and as the cache is told. Assumes nothing.
use Rattle.std.proofs.Common.{◌≡◌, ℕ, ◌≤◌, Bool, List, Some, None, Ok, Err, Option, Result, sym, ap, ◌∙◌, subst, ⊎_elim, arith}
use Rattle.std.proofs.lemmas.Bool.{cases_eq}
use Rattle.std.proofs.Math.Logic.{∥∥₁_map}
use Rattle.orders.specs.declared.order.Order.{Order}
use Rattle.orders.specs.declared.refusal.Refusal.{Refusal}
use Rattle.orders.specs.Chains.{ChainLaws}
use Rattle.caches.specs.Recall.{Recalls, Told, Emptied}
use Rattle.diagrams.specs.declared.Node.{Node}
use Rattle.diagrams.specs.declared.Task.{Task}
use Rattle.diagrams.specs.Moves.{Moves}
use Rattle.diagrams.specs.Table.{Extends, Sound}
use Rattle.diagrams.specs.Rules.{Outcome, done, full, node, Asks}
use Rattle.diagrams.specs.Rules as Rules
use Rattle.diagrams.specs.Bodies.{first_of}
use Rattle.diagrams.specs.Work.{Valid, task}
use Rattle.diagrams.specs.Outright.{kind_of, right_of}
use Rattle.diagrams.proofs.Rows.{still_valid}
use Rattle.diagrams.proofs.Engine.{AtLeast, task_stable, task_least}
use Rattle.diagrams.proofs.Keys.{key_tells}
use Rattle.diagrams.proofs.Pushes.{node_makes}
use Rattle.tables.specs.declared.table.Table.{Table}
use Rattle.tables.specs.Rows.{rows, Makes}
use Rattle.tables.proofs.Rows.{sound_of}
use Rattle.engine.specs.Kept.{Right, Kept}

pub never : (o : Option ℕ) (r : ℕ) → o ≡ Some r → o ≡ None → ⊥
never o r e f = let z : ◌≡◌ {A = ℕ} 0 1 = cc in omega arith

module _ (g : Moves) (cap : ℕ) (N : List Node) (rc : Recalls) where
  -- a cache that remembers nothing
  pub kept_empty : Emptied rc → Kept g cap N rc
  kept_empty none = record { right = λ k a b r e. absurd (never (rc k a b) r e (none k a b)) }

  module _ (kept : Kept g cap N rc) where
    -- a longer table
    pub kept_grown : ChainLaws g → (M : List Node) → Sound N → Sound M → Extends N M → Kept g cap M rc
    kept_grown laws M S T X = record {
      right = λ k a b r e.
          let w = kept.right k a b r e in
          record {
            of = w.of;
            kind = w.kind;
            left = w.left;
            right = w.right;
            valid = still_valid N M w.of X w.valid;
            entries = w.entries;
            answer = task_stable g laws cap N w.of S w.valid M r w.entries T X w.answer;
          };
    }

    -- one more pair, which is right
    module _ (after : Recalls) (sure : ℕ) (u : Task) (r n : ℕ) (told : Told sure rc after (kind_of u) (first_of u) (right_of u) r)
        (valid : Valid N u) (is : task g cap N u ≡ done N r n) where
      here_right : (k a b s : ℕ) → after k a b ≡ Some s → k ≡ kind_of u → a ≡ first_of u → b ≡ right_of u → Right g cap N k a b s
      here_right k a b s e ek ea eb =
          let here : after (kind_of u) (first_of u) (right_of u) ≡ Some s = cc in
          let es : r ≡ s =
          ⊎_elim (λ (f : after (kind_of u) (first_of u) (right_of u) ≡ Some r). let z : r ≡ s = cc in z)
          (λ (f : after (kind_of u) (first_of u) (right_of u) ≡ None). absurd (never _ s here f)) told.here
          in
          record { of = u; kind = sym ek; left = sym ea; right = sym eb; valid = valid; entries = n; answer = is ∙ ap (λ v. done N v n) es }

      other_right : (k a b s : ℕ) → after k a b ≡ Some s → ((k ≡ kind_of u) × (a ≡ first_of u) × (b ≡ right_of u) → ⊥) → Right g cap N k a b s
      other_right k a b s e ne = ⊎_elim
          (λ f. kept.right k a b s (sym f ∙ e))
          (λ (f : after k a b ≡ None). absurd (never _ s e f))
          (told.elsewhere k a b ne)

      pub kept_told : Kept g cap N after
      kept_told = record {
        right = λ k a b s e.
            ⊎_elim (λ ek. ⊎_elim (λ ea. ⊎_elim (λ eb. here_right k a b s e ek ea eb)
            (λ ne. other_right k a b s e (λ z. ne z.2)) (cases_eq b (right_of u)))
            (λ ne. other_right k a b s e (λ z. ne z.1)) (cases_eq a (first_of u)))
            (λ ne. other_right k a b s e (λ z. ne z.0)) (cases_eq k (kind_of u));
      }

    -- an answer that is remembered is that of the task
    pub record Known (u : Task) (r : ℕ) : Type 0 where
      pub n : ℕ
      pub is : task g cap N u ≡ done N r n
      pub some : 1 ≤ n

    pub known : ChainLaws g → Sound N → (u : Task) (r : ℕ) → Valid N u → rc (kind_of u) (first_of u) (right_of u) ≡ Some r → Known u r
    known laws S u r v e =
        let w = kept.right (kind_of u) (first_of u) (right_of u) r e in
        let same : w.of ≡ u = key_tells N N w.of u w.valid v w.kind w.left w.right in
        let is : task g cap N u ≡ done N r w.entries = ap (task g cap N) (sym same) ∙ w.answer in
        record { n = w.entries; is = is; some = subst (AtLeast 1) is (task_least g laws cap N u S v) }

-- a node found or made, or refused: what is remembered stays right
module _ (g : Moves) (laws : ChainLaws g) (cap : ℕ) (T K : Table) where
  grown : (P : Order → Bool) (o : Outcome) (n : ℕ) (r : Result ℕ Refusal) → Rules.Makes g cap (rows T) P o → Makes o (rows K) n r → Extends (rows T) (rows K)
  grown P (done M s m) n (Ok v) a h = subst (Extends (rows T)) (sym h.0) a.extends
  grown P (done M s m) n (Err e) a h = absurd h
  grown P (full M) n (Ok v) a h = absurd h
  grown P (full M) n (Err e) a h = subst (Extends (rows T)) (sym h.0) a.extends

  pub node_kept : (rc : Recalls) (x y lo hi : ℕ) (r : Result ℕ Refusal) → Asks (rows T) x y lo hi → Makes (node cap (rows T) x y lo hi 0) (rows K) 0 r → ∥ Kept g cap (rows T) rc ∥₁ → ∥ Kept g cap (rows K) rc ∥₁
  node_kept rc x y lo hi r a h kept = ∥∥₁_map kept (λ k. kept_grown g cap (rows T) rc k laws (rows K) (sound_of T) (sound_of K) (grown _ _ 0 r (node_makes g cap (rows T) (sound_of T) x y lo hi 0 a) h))
