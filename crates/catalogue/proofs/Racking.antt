-- The holds in hand, as the pegs change. Assumes nothing.
use Rattle.std.proofs.Common.{◌≡◌, ℕ, zero, suc, ◌<◌, Bool, true, false, not, ◌&&◌, eqb, ltb, ◌⊎◌, [], ◌∷◌, map, length, get_or, set, replicate, is_some, Some, None, Ok, Err, Option, sym, refl, ap, ◌∙◌, inl, inr, arith, length-set, get_or-set_other, get_or-set_same}
use lib.ListN.{length-replicate}
use Rattle.std.proofs.Math.Logic.{∥∥₁_elim}
use base.Stored.{Coded-set}
use Rattle.std.specs.Coded.{coded_option}
use native.Mathlib.Nat.{ℕ_set}
use Rattle.store.specs.contracts.hold.Hold.{the_row}
use Rattle.std.proofs.lemmas.Bool.Decides.{nat_tests}
use Rattle.std.proofs.lemmas.Bool.{cases_eq}
use Rattle.orders.specs.declared.refusal.Refusal.{Refusal}
use Rattle.orders.specs.declared.refusal.Refusal.TheVariants.{NoSuchHold, NoSuchPeg, PegFilled}
use Rattle.diagrams.specs.Moves.{Moves}
use Rattle.sweeps.specs.Sweeping as sweeping
use Rattle.sweeps.specs.Sweeping.{renumbered, pegs_after}
use Rattle.store.specs.declared.hold.Hold.{Hold}
use Rattle.store.specs.declared.shapes.Handle.{Handle}
use Rattle.store.specs.Views.{View, Pegs, with_pegs}
use Rattle.store.specs.Questions.{ask, or_else, on_peg, handle_asked, peg_asked, held_on}
use Rattle.store.specs.Steps.{After, held, released, holds, releases, unless, released_by, swept_view, step}
use Rattle.store.proofs.Racks.{peg_fine, held_some}
use Rattle.catalogue.specs.declared.request.Claim.{Claim}
use Rattle.catalogue.specs.Requests.{hold_named}
use Rattle.catalogue.specs.Racks.{Slots, hold_on, Racked, Lacks}
use Rattle.catalogue.proofs.Slots.{some_within}

abbrev nothing : {A : Type 0} → Option A
nothing = None

none_at : {A : Type 0} (k q : ℕ) → get_or (replicate k (nothing {A = A})) q None ≡ None
none_at zero q = refl
none_at (suc k) zero = refl
none_at (suc k) (suc q) = none_at k q

-- a rack with no hold, of a store with no set on a peg
pub racked_none : (w : View) (R : Slots) → R ≡ replicate 64 None → w.pegs ≡ replicate 64 None → Racked w R
racked_none w R e f = record {
  long = ap length e ∙ length-replicate 64 (nothing {A = Hold});
  each = λ p. ap (λ (r : Slots). get_or r p None) e ∙ none_at 64 p ∙ sym (ap (λ (r : Pegs). hold_on w.plan.mark p (get_or r p None)) f ∙ ap (hold_on w.plan.mark p) (none_at 64 p));
}

-- the same pegs and the same plan
pub racked_same : (w v : View) (R : Slots) → v.pegs ≡ w.pegs → v.plan ≡ w.plan → Racked w R → Racked v R
racked_same w v R e f k = record { long = k.long; each = λ p. k.each p ∙ sym (λ i. hold_on (f i).mark p (get_or (e i) p None)) }

-- a peg is filled or emptied, and its slot with it
module _ (w : View) (R : Slots) (k : Racked w R) (long : length w.pegs ≡ 64) (p : ℕ) (h : p < 64) (v : Option ℕ) where
  each_set : (q : ℕ) → (q ≡ p) ⊎ (q ≡ p → ⊥) → get_or (set R p (hold_on w.plan.mark p v)) q None ≡ hold_on w.plan.mark q (get_or (set w.pegs p v) q None)
  each_set q (inl e) =
      let lt : p < length R = omega (arith, k.long) in
      let less : p < length w.pegs = omega arith in
      ap (λ i. get_or (set R p (hold_on w.plan.mark p v)) i None) e ∙ get_or-set_same R p _ None lt
      ∙ ap (hold_on w.plan.mark p) (sym (get_or-set_same w.pegs p v None less))
      ∙ ap (λ i. hold_on w.plan.mark i (get_or (set w.pegs p v) i None)) (sym e)
  each_set q (inr n) = get_or-set_other R p q _ None n ∙ k.each q ∙ ap (hold_on w.plan.mark q) (sym (get_or-set_other w.pegs p q v None n))

  pub racked_set : Racked (with_pegs w (set w.pegs p v)) (set R p (hold_on w.plan.mark p v))
  racked_set = record { long = length-set R p _ ∙ k.long; each = λ q. each_set q (cases_eq q p) }

-- a sweep renumbers what the pegs have, and fills and empties none
swept_peg : (f : ℕ → ℕ) (P : Pegs) (mark q p : ℕ) → hold_on mark q (get_or (map (sweeping.on_peg f) P) p None) ≡ hold_on mark q (get_or P p None)
swept_peg f [] mark q p = refl
swept_peg f (None ∷ P) mark q zero = refl
swept_peg f (Some n ∷ P) mark q zero = refl
swept_peg f (o ∷ P) mark q (suc p) = swept_peg f P mark q p

pub racked_swept : (w : View) (R : Slots) → Racked w R → Racked (swept_view w) R
unfolding pegs_after
racked_swept w R k = record { long = k.long; each = λ p. k.each p ∙ sym (swept_peg (renumbered w.nodes w.pegs) w.pegs w.plan.mark p p) }

-- a hold in hand is the store's
held_by : (w : View) (c : Claim) → c.peg < 64 → (o : Option ℕ) → get_or w.pegs c.peg None ≡ o → Some (hold_named c) ≡ hold_on w.plan.mark c.peg o → (n : ℕ) × (held_on w c.mark c.peg ≡ Ok n)
held_by w c h None e f = let z : ◌≡◌ {A = ℕ} 0 1 = cc in absurd (omega arith)
held_by w c h (Some n) e f =
    let same : hold_named c ≡ record { mark = w.plan.mark; peg = c.peg } = cc in
    (n, sym (held_some w c.mark c.peg n (ap (λ (d : Hold). d.mark) same) h e))

pub racked_held : (w : View) (R : Slots) → Racked w R → (c : Claim) → get_or R c.peg None ≡ Some (hold_named c) → (n : ℕ) × (held_on w c.mark c.peg ≡ Ok n)
racked_held w R k c e =
    let lt : c.peg < 64 = omega (arith, some_within R c.peg _ e, k.long) in
    held_by w c lt (get_or w.pegs c.peg None) refl (sym e ∙ k.each c.peg)

-- and no other is
lacked_by : (w : View) (R : Slots) → Racked w R → (c : Claim) → Lacks R c → (b : Bool) → eqb c.mark w.plan.mark && ltb c.peg 64 ≡ b
    → (o : Option ℕ) → get_or w.pegs c.peg None ≡ o → on_peg b o ≡ Err NoSuchHold
lacked_by w R k c no_hold false t o e = refl
lacked_by w R k c no_hold true t None e = refl
lacked_by w R k c no_hold true t (Some n) e =
    let m : w.plan.mark ≡ c.mark = grind (arith, nat_tests) in
    absurd (no_hold (k.each c.peg ∙ ap (hold_on w.plan.mark c.peg) e ∙ ap (λ i. Some (record { mark = i; peg = c.peg })) m))

pub racked_lacks : (w : View) (R : Slots) → Racked w R → (c : Claim) → Lacks R c → held_on w c.mark c.peg ≡ Err NoSuchHold
unfolding held_on
racked_lacks w R k c l = lacked_by w R k c l (eqb c.mark w.plan.mark && ltb c.peg 64) refl (get_or w.pegs c.peg None) refl

-- what a hold that was given says
pub record Given (w t : View) (n p : ℕ) (d : Hold) : Type 0 where
  pub within : p < 64
  pub free : get_or w.pegs p None ≡ None
  pub hold : d ≡ record { mark = w.plan.mark; peg = p }
  pub view : t ≡ with_pegs w (set w.pegs p (Some n))

free_by : (b : Bool) (o : Option ℕ) → ask b NoSuchPeg (ask (not (is_some o)) PegFilled None) ≡ None → o ≡ None
free_by true None e = refl
free_by true (Some n) e = let z : ◌≡◌ {A = ℕ} 0 1 = cc in absurd (omega arith)
free_by false o e = let z : ◌≡◌ {A = ℕ} 0 1 = cc in absurd (omega arith)

peg_free : (w : View) (p : ℕ) → peg_asked w p ≡ None → get_or w.pegs p None ≡ None
unfolding peg_asked
peg_free w p e = free_by (ltb p 64) (get_or w.pegs p None) e

both_free : (o q : Option Refusal) → or_else o q ≡ None → q ≡ None
both_free None q e = e
both_free (Some x) q e = let z : ◌≡◌ {A = ℕ} 0 1 = cc in absurd (omega arith)

given_by : (w t : View) (a : Handle) (p : ℕ) (d : Hold) (q : Option Refusal) → or_else (handle_asked w a) (peg_asked w p) ≡ q
    → ◌≡◌ {A = After} (t, held d) (unless q w (with_pegs w (set w.pegs p (Some a.number)), held (record { mark = w.plan.mark; peg = p }))) → Given w t a.number p d
given_by w t a p d (Some x) is e = let f = ap (λ (r : After). r.1) e in let z : ◌≡◌ {A = ℕ} 0 1 = cc in absurd (omega arith)
given_by w t a p d None is e =
    let f : held d ≡ held (record { mark = w.plan.mark; peg = p }) = ap (λ (r : After). r.1) e in
    let asked = both_free (handle_asked w a) (peg_asked w p) is in
    record { within = peg_fine w p asked; free = peg_free w p asked; hold = cc; view = ap (λ (r : After). r.0) e }

pub given : (g : Moves) (w t : View) (a : Handle) (p : ℕ) (d : Hold) → ◌≡◌ {A = After} (t, held d) (step g w (holds a p)) → Given w t a.number p d
given g w t a p d e = given_by w t a p d (or_else (handle_asked w a) (peg_asked w p)) refl e

-- a hold that is the store's is taken back, and its peg is emptied
pub taken_back : (g : Moves) (w t : View) (d : Hold) (n : ℕ) → held_on w d.mark d.peg ≡ Ok n → ◌≡◌ {A = After} (t, released) (step g w (releases d)) → t ≡ with_pegs w (set w.pegs d.peg None)
taken_back g w t d n h e = ap (λ (r : After). r.0) (e ∙ ap (released_by w d) h)

-- The rack's holds are the store's in one way at most, so that a desk can have it for a ghost field.
holds_set : IsSet (Option Hold)
holds_set = Coded-set (coded_option the_row.coded)

pub racked_prop : (w : View) (R : Slots) → IsProp (Racked w R)
racked_prop w R p q = λ i. record { long = ℕ_set _ _ p.long q.long i; each = λ n. holds_set _ _ (p.each n) (q.each n) i }

-- what the ghost field holds
pub racked_out : (w : View) (R : Slots) → ∥ Racked w R ∥₁ → Racked w R
racked_out w R t = ∥∥₁_elim t (racked_prop w R) (λ r. r)
