-- A rack is emptied from its last slot to its first. Assumes nothing.
use Rattle.std.proofs.Common.{◌≡◌, ℕ, zero, suc, ◌<◌, ◌⊎◌, [], ◌∷◌, ◌++◌, length, get_or, set, replicate, Some, None, Ok, Option, sym, refl, ap, ◌∙◌, inl, inr, arith, get_or-set_other, get_or-set_same}
use lib.Seq.{get_or-append_seam}
use Rattle.std.proofs.lemmas.List.{get_or_past}
use Rattle.std.proofs.lemmas.Bool.{cases_eq}
use Rattle.store.specs.declared.hold.Hold.{Hold}
use Rattle.store.specs.Views.{View, Pegs, with_pegs}
use Rattle.store.specs.Questions.{held_on}
use Rattle.store.proofs.Racks.{held_some}
use Rattle.catalogue.specs.Racks.{Slots, hold_on, Holding, no_pegs}
use Rattle.catalogue.proofs.Slots.{all_none}

-- the slots below the last
below_last : (L : Slots) (x : Option Hold) (p : ℕ) → (p ≡ length L → ⊥) → get_or (L ++ x ∷ []) p None ≡ get_or L p None
below_last [] x zero h = absurd (h refl)
below_last [] x (suc p) h = refl
below_last (y ∷ L) x zero h = refl
below_last (y ∷ L) x (suc p) h = below_last L x p (λ e. h (ap suc e))

at_last : (L : Slots) (x : Option Hold) (p : ℕ) → p ≡ length L → get_or (L ++ x ∷ []) p None ≡ x
at_last L x p e = ap (λ i. get_or (L ++ x ∷ []) i None) e ∙ get_or-append_seam L x [] None

past_last : (L : Slots) (p : ℕ) → p ≡ length L → get_or L p None ≡ None
past_last L p e = get_or_past L p None (omega arith)

-- an empty slot goes
module _ (w : View) (L : Slots) (k : Holding w (L ++ None ∷ [])) where
  gone_at : (p : ℕ) → (p ≡ length L) ⊎ (p ≡ length L → ⊥) → get_or L p None ≡ hold_on w.plan.mark p (get_or w.pegs p None)
  gone_at p (inl e) = past_last L p e ∙ sym (at_last L None p e) ∙ k p
  gone_at p (inr h) = sym (below_last L None p h) ∙ k p

  pub gone_none : Holding w L
  gone_none p = gone_at p (cases_eq p (length L))

-- what a hold in a slot says
pub record Last (w : View) (p : ℕ) (d : Hold) : Type 0 where
  pub peg : d.peg ≡ p
  pub held : (n : ℕ) × (held_on w d.mark d.peg ≡ Ok n)

last_by : (w : View) (p : ℕ) → p < 64 → (d : Hold) (o : Option ℕ) → get_or w.pegs p None ≡ o → Some d ≡ hold_on w.plan.mark p o → Last w p d
last_by w p h d None e f = let z : ◌≡◌ {A = ℕ} 0 1 = cc in absurd (omega arith)
last_by w p h d (Some n) e f =
    let same : d ≡ record { mark = w.plan.mark; peg = p } = cc in
    let at = ap (λ (x : Hold). x.peg) same in
    let lt : d.peg < 64 = omega arith in
    record { peg = at; held = (n, sym (held_some w d.mark d.peg n (ap (λ (x : Hold). x.mark) same) lt (ap (λ i. get_or w.pegs i None) at ∙ e))) }

-- a hold goes, and its peg is emptied
module _ (w : View) (L : Slots) (d : Hold) (k : Holding w (L ++ Some d ∷ [])) (long : length w.pegs ≡ 64) (lt : length L < 64) where
  pub last_held : Last w (length L) d
  last_held = last_by w (length L) lt d (get_or w.pegs (length L) None) refl (sym (at_last L (Some d) (length L) refl) ∙ k (length L))

  emptied_at : (p : ℕ) → (p ≡ length L) ⊎ (p ≡ length L → ⊥) → get_or L p None ≡ hold_on w.plan.mark p (get_or (set w.pegs (length L) None) p None)
  emptied_at p (inl e) =
      let less : length L < length w.pegs = omega arith in
      past_last L p e ∙ sym (ap (hold_on w.plan.mark p) (ap (λ i. get_or (set w.pegs (length L) None) i None) e ∙ get_or-set_same w.pegs (length L) None None less))
  emptied_at p (inr h) = sym (below_last L (Some d) p h) ∙ k p ∙ ap (hold_on w.plan.mark p) (sym (get_or-set_other w.pegs (length L) p None None h))

  pub gone_some : Holding (with_pegs w (set w.pegs (length L) None)) L
  gone_some p = emptied_at p (cases_eq p (length L))

-- no slot is left: no peg is filled
none_on : (mark p : ℕ) (o : Option ℕ) → None ≡ hold_on mark p o → o ≡ None
none_on mark p None e = refl
none_on mark p (Some n) e = let z : ◌≡◌ {A = ℕ} 0 1 = cc in absurd (omega arith)

pub none_pegged : (w : View) → length w.pegs ≡ 64 → Holding w [] → w.pegs ≡ no_pegs
none_pegged w long k = all_none w.pegs (λ p. none_on w.plan.mark p (get_or w.pegs p None) (k p)) ∙ ap (λ n. replicate n None) long

-- only the pegs have changed since
pub only_pegs : (start w t : View) (P : Pegs) → w ≡ with_pegs start w.pegs → t ≡ with_pegs w P → t ≡ with_pegs start t.pegs
only_pegs start w t P e f = f ∙ ap (λ (v : View). with_pegs v P) e ∙ ap (with_pegs start) (sym (ap (λ (v : View). v.pegs) f))

pub none_left : (L : Slots) → length L ≡ 0 → L ≡ []
none_left [] e = refl
none_left (x ∷ L) e = absurd (omega arith)
