-- Slots of a rack. Assumes nothing.
use Rattle.std.proofs.Common.{◌≡◌, ℕ, zero, suc, ◌<◌, true, false, List, [], ◌∷◌, length, get_or, set, replicate, is_some, Some, None, Option, sym, refl, ap, subst, arith, MatchOption}
use mathlib.Core.Bool.{false≢true}
use Rattle.store.specs.declared.hold.Hold.{Hold}
use Rattle.catalogue.specs.declared.request.Claim.{Claim}
use Rattle.catalogue.specs.Requests.{hold_named}
use Rattle.catalogue.specs.Racks.{Slots, Lacks, Took}

module _ {A : Type 0} where
  -- what is there is not past the end
  pub some_within : (R : List (Option A)) (i : ℕ) (a : A) → get_or R i None ≡ Some a → i < length R
  some_within [] i a e = let z : ◌≡◌ {A = ℕ} 0 1 = cc in absurd (omega arith)
  some_within (x ∷ R) zero a e = omega arith
  some_within (x ∷ R) (suc i) a e = let h = some_within R i a e in omega arith

  -- a list with nothing at any place is as many times nothing
  pub all_none : (R : List (Option A)) → ((i : ℕ) → get_or R i None ≡ None) → R ≡ replicate (length R) None
  all_none [] h = refl
  all_none (x ∷ R) h = λ i. (h zero i) ∷ (all_none R (λ k. h (suc k)) i)

pub lacks_none : (R : Slots) (c : Claim) → get_or R c.peg None ≡ None → Lacks R c
lacks_none R c e f = let z : ◌≡◌ {A = ℕ} 0 1 = cc in omega arith

-- a search that found something says that it is there
pub found_there : {X : Type 0} (f : X → Hold) (R : Slots) (c : Claim) (o : Option X)
    → MatchOption o (Lacks R c) (λ x. (f x ≡ hold_named c) × (get_or R c.peg None ≡ Some (hold_named c))) → is_some o ≡ true → get_or R c.peg None ≡ Some (hold_named c)
found_there f R c None h e = absurd (false≢true e)
found_there f R c (Some x) h e = h.1

pub found_not : {X : Type 0} (f : X → Hold) (R : Slots) (c : Claim) (o : Option X)
    → MatchOption o (Lacks R c) (λ x. (f x ≡ hold_named c) × (get_or R c.peg None ≡ Some (hold_named c))) → is_some o ≡ false → Lacks R c
found_not f R c None h e = h
found_not f R c (Some x) h e = absurd (false≢true (sym e))

-- the claimed hold is taken out of its slot
pub took : (R : Slots) (c : Claim) (r v : Option Hold) (P : Type 0) → get_or R c.peg None ≡ Some (hold_named c) → r ≡ Some (hold_named c) → v ≡ None → MatchOption r P (Took R (set R c.peg v) c)
took R c r v P there e f = subst (λ o. MatchOption o P (Took R (set R c.peg v) c)) (sym e) record { hold = refl; there = there; slots = ap (set R c.peg) f }
