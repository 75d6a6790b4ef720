-- Slots after a write, and slots that are all empty. Assumes nothing.
use Rattle.std.proofs.Common.{◌≡◌, ℕ, zero, suc, ◌<◌, Bool, true, false, cond, eqb, ◌⊎◌, List, length, get_or, set, replicate, Some, None, Option, sym, refl, ap, ◌∙◌, inl, inr, ⊎_elim, arith, get_or-set_other, get_or-set_same, eq-eqb, ne_eqb}
use Rattle.std.proofs.lemmas.Bool.{cases_eq}
use Rattle.std.proofs.lemmas.Bool.Decides.{nat_tests}
use Rattle.caches.specs.declared.Triple.{Triple}
use Rattle.caches.specs.declared.slots.Pair.{Pair}
use Rattle.caches.specs.Recall.{Recalls, nothing, Emptied, Told}
use Rattle.caches.specs.Slotted.{slot_of, same, answered, held_in, fallen}

abbrev no_pair : Option Pair
no_pair = None

blank_at : (n i : ℕ) → get_or (replicate n no_pair) i None ≡ None
blank_at zero i = refl
blank_at (suc n) zero = refl
blank_at (suc n) (suc i) = blank_at n i

pub all_blank : Emptied (held_in (replicate 512 None))
all_blank k a b = ap (λ p. answered p k a b) (blank_at 512 (slot_of k a b))

same_self : (t : Triple) → same t t.kind t.first t.second ≡ true
same_self t = grind (arith, nat_tests)

not_same : (t : Triple) (k a b : ℕ) → ((k ≡ t.kind) × (a ≡ t.first) × (b ≡ t.second) → ⊥) → same t k a b ≡ false
not_same t k a b apart = grind (arith, nat_tests)

-- what a test picks is the second, or the first where that is nothing
pick : (test : Bool) (x y : Option ℕ) → x ≡ nothing → (cond test x y ≡ y) ⊎ (cond test x y ≡ nothing)
pick true x y none = inr none
pick false x y none = inl refl

-- one pair more, where the others stay unless they are on its slot
module _ (before after : Recalls) (t : Triple) (r : ℕ) (fell : (k a b : ℕ) → after k a b ≡ fallen before t r k a b) where
  abbrev slot : ℕ
  slot = slot_of t.kind t.first t.second

  here : after t.kind t.first t.second ≡ Some r
  here = fell t.kind t.first t.second
      ∙ ap (λ s. cond s (answered (Some (record { triple = t; answer = r })) t.kind t.first t.second) (before t.kind t.first t.second))
      (eq-eqb slot slot refl)
      ∙ ap (λ s. cond s (Some r) None) (same_self t)

  elsewhere : (k a b : ℕ) → ((k ≡ t.kind) × (a ≡ t.first) × (b ≡ t.second) → ⊥) → (after k a b ≡ before k a b) ⊎ (after k a b ≡ nothing)
  elsewhere k a b apart = ⊎_elim (λ e. inl (fell k a b ∙ e)) (λ e. inr (fell k a b ∙ e))
      (pick (eqb (slot_of k a b) slot) (answered (Some (record { triple = t; answer = r })) k a b) (before k a b)
      (ap (λ s. cond s (Some r) None) (not_same t k a b apart)))

  pub fallen_told : Told 1 before after t.kind t.first t.second r
  fallen_told = record { here = inl here; surely = λ _. here; elsewhere = elsewhere }

-- a written slot
module _ (xs : List (Option Pair)) (i : ℕ) (t : Triple) (r : ℕ) (within : i < length xs) (at : i ≡ slot_of t.kind t.first t.second) where
  abbrev new : Option Pair
  new = Some (record { triple = t; answer = r })

  pub set_fallen : (k a b : ℕ) → held_in (set xs i new) k a b ≡ fallen (held_in xs) t r k a b
  set_fallen k a b = ⊎_elim struck missed (cases_eq (slot_of k a b) i)
    where
      struck : slot_of k a b ≡ i → held_in (set xs i new) k a b ≡ fallen (held_in xs) t r k a b
      struck e = ap (λ j. answered (get_or (set xs i new) j None) k a b) e
          ∙ ap (λ o. answered o k a b) (get_or-set_same xs i new None within)
          ∙ sym (ap (λ s. cond s (answered new k a b) (held_in xs k a b)) (eq-eqb (slot_of k a b) _ (e ∙ at)))

      missed : (slot_of k a b ≡ i → ⊥) → held_in (set xs i new) k a b ≡ fallen (held_in xs) t r k a b
      missed ne = ap (λ o. answered o k a b) (get_or-set_other xs i (slot_of k a b) new None ne)
          ∙ sym (ap (λ s. cond s (answered new k a b) (held_in xs k a b)) (ne_eqb (slot_of k a b) _ (λ e. ne (e ∙ sym at))))

-- what is on another slot stays
pub fallen_beside : (before : Recalls) (t : Triple) (r k a b : ℕ) → (slot_of k a b ≡ slot_of t.kind t.first t.second → ⊥)
    → fallen before t r k a b ≡ before k a b
fallen_beside before t r k a b apart =
    ap (λ s. cond s (answered (Some (record { triple = t; answer = r })) k a b) (before k a b)) (ne_eqb (slot_of k a b) _ apart)
