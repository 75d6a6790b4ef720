-- The rule of each kind, by the rows that were read. Assumes nothing.
use Rattle.std.proofs.Common.{◌≡◌, ℕ, ◌<◌, ◌≤◌, false, eqb, ltb, List, None, sym, ap, ◌∙◌, le-ltb, lt-ltb, eq-eqb, ne_eqb}
use mathlib.Core.Path.{fun_ext}
use Rattle.orders.specs.declared.order.Order.{Order}
use Rattle.orders.specs.Orders.{place}
use Rattle.orders.specs.Dimension.{dimension}
use Rattle.diagrams.specs.declared.Node.{Node}
use Rattle.std.specs.declared.cmp.Ordering.{Ordering}
use Rattle.diagrams.specs.declared.Task.{Task}
use Rattle.diagrams.specs.declared.Task.TheVariants.{Join, Carry, Follow}
use Rattle.diagrams.specs.Moves.{Moves, back}
use Rattle.diagrams.specs.Script.{Script, answer, make, enter}
use Rattle.diagrams.specs.Bodies.{carry_body, follow_body, pick_body, from_of, moved_by, high_body, lift_script, body}
use Rattle.diagrams.specs.Outright.{outright}

-- of the kinds that are on two numbers
pub read_two : (f : Node → Node → Ordering → Script) {p p' q q' : Node} {w w' : Ordering} → p ≡ p' → q ≡ q' → w ≡ w' → f p q w ≡ f p' q' w'
read_two f ep eq ew = cc

module _ (g : Moves) where
  -- a task t that is the kind u, by the rule of that kind
  pub read_kind : (N : List Node) {t u : Task} {s x : Script} → t ≡ u → s ≡ x → outright t ≡ None → (outright u ≡ None → body g N u ≡ x) → s ≡ body g N t
  read_kind N e f o w = f ∙ sym (w (sym (ap outright e) ∙ o)) ∙ sym (ap (body g N) e)

  pub read_pick : (a k z from : ℕ) {p p' : Node} → p ≡ p' → from ≡ from_of g p z
      → pick_body p a k z from false false (eqb k z) ≡ pick_body p' a k z (from_of g p' z) false false (eqb k z)
  read_pick a k z from {p} {p'} ep ef =
      ap (λ f. pick_body p a k z f false false (eqb k z)) ef ∙ ap (λ (n : Node). pick_body n a k z (from_of g n z) false false (eqb k z)) ep

  pub read_follow : (a b : ℕ) {q q' : Node} (m : Order) → q ≡ q' → m ≡ g q.x q.y
      → enter (Follow a q.lo) (λ r. enter (Follow a q.hi) (λ s. enter (Carry s m) (λ v. enter (Join r v) answer))) ≡ follow_body g q' a b false false
  read_follow a b {q} {q'} m eq em =
      ap (λ (m : Order). enter (Follow a q.lo) (λ r. enter (Follow a q.hi) (λ s. enter (Carry s m) (λ v. enter (Join r v) answer)))) em
      ∙ ap (λ (n : Node). follow_body g n a b false false) eq

  -- carry, where h moves a piece above those of the row
  pub read_lift : (a : ℕ) (h : Order) {p p' : Node} (d z : ℕ) (low : Order) → p ≡ p' → d ≡ dimension h → z ≡ place h d → low ≡ back g d z h → p.x < d
      → lift_script (Carry a low) d z ≡ carry_body g p' a h false false (ltb p'.x (dimension h))
  read_lift a h {p} {p'} d z low ep ed ez el l =
      ap (λ (k : Order). lift_script (Carry a k) d z) el
      ∙ ap (λ (i : ℕ). lift_script (Carry a (back g d i h)) d i) ez
      ∙ ap (λ (i : ℕ). lift_script (Carry a (back g i (place h i) h)) i (place h i)) ed
      ∙ ap (carry_body g p a h false false) (sym (ap (ltb p.x) (sym ed) ∙ lt-ltb p.x d l))
      ∙ ap (λ (n : Node). carry_body g n a h false false (ltb n.x (dimension h))) ep

  -- and none; k is h after the row's move
  pub read_turn : (a : ℕ) (h : Order) {p p' : Node} (d : ℕ) (k : Order) (rest : ℕ → Script) → p ≡ p' → d ≡ dimension h → k ≡ moved_by g p h → d ≤ p.x
      → ((r : ℕ) → rest r ≡ high_body g p.x (place k p.x) p.hi k r (eqb (place k p.x) p.x))
      → enter (Carry p.lo h) rest ≡ carry_body g p' a h false false (ltb p'.x (dimension h))
  read_turn a h {p} {p'} d k rest ep ed ek l er =
      ap (enter (Carry p.lo h)) (fun_ext er)
      ∙ ap (λ (m : Order). enter (Carry p.lo h) (λ r. high_body g p.x (place m p.x) p.hi m r (eqb (place m p.x) p.x))) ek
      ∙ ap (carry_body g p a h false false) (sym (ap (ltb p.x) (sym ed) ∙ le-ltb p.x d l))
      ∙ ap (λ (n : Node). carry_body g n a h false false (ltb n.x (dimension h))) ep

  module _ (x z hi : ℕ) (k : Order) (ez : z ≡ place k x) (r : ℕ) where
    -- the high part, where k leaves x
    pub read_stay : z ≡ x → enter (Carry hi k) (λ s. enter (Join r s) answer) ≡ high_body g x (place k x) hi k r (eqb (place k x) x)
    read_stay e = ap (high_body g x (place k x) hi k r) (sym (eq-eqb (place k x) x (sym ez ∙ e)))

    -- and where it moves x to z
    pub read_move : (order : Order) → order ≡ back g x z k → ¬ (z ≡ x)
        → enter (Carry hi order) (λ s. make x z 0 s (λ v. enter (Join r v) answer)) ≡ high_body g x (place k x) hi k r (eqb (place k x) x)
    read_move order eo ne =
        ap (λ (m : Order). enter (Carry hi m) (λ s. make x z 0 s (λ v. enter (Join r v) answer))) eo
        ∙ ap (λ (i : ℕ). high_body g x i hi k r false) ez
        ∙ ap (high_body g x (place k x) hi k r) (sym (ne_eqb (place k x) x (λ e. ne (ez ∙ e))))
