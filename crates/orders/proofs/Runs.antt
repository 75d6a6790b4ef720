-- What `any` over a range answers, number by number, and an array that is made from its places. Assumes nothing.
use Rattle.std.proofs.Common.{◌≡◌, ℕ, zero, suc, ◌+◌, ◌<◌, ◌≤◌, Bool, true, false, List, [], ◌∷◌, ◌++◌, length, take, drop, get_or, sym, refl, ap, ◌∙◌, subst, arith, MatchBool}
use native.Mathlib.Decide.{ℕ_discrete}
use denote.Param.Members.{Mut, Called}
use Rattle.std.specs.Array.{IsFromFnResult, IsFromFnResultFrom}
use Rattle.std.specs.List.{range_with_len, AllWithin, HoldsAt}
use Rattle.std.proofs.lemmas.List.FromFn.{length-range_with_len, get_or-range_with_len}

at : (n k : ℕ) → k < n → get_or (range_with_len 0 n) k 0 ≡ k
at n k h = omega (arith, get_or-range_with_len 0 n k 0 h)

pub any_below : (Yes No : ℕ → Type 0) (n : ℕ) (r : Bool) →
    MatchBool r ((k : ℕ) × (k < length (range_with_len 0 n)) × HoldsAt Yes (range_with_len 0 n) k) (AllWithin No (range_with_len 0 n) 0 (length (range_with_len 0 n))) →
    MatchBool r ((k : ℕ) × (k < n) × Yes k) ((k : ℕ) → k < n → No k)
any_below Yes No n true h =
    let l : h.0 < n = omega (arith, length-range_with_len 0 n, h.1) in (h.0, l, subst Yes (at n h.0 l) (h.2 0))
any_below Yes No n false h = λ k l. subst No (at n k l) (h k 0 (omega arith) (omega (arith, length-range_with_len 0 n)))

-- what a loop from the end has not gone through yet is the front of the list
pub last_of : (xs ys : List ℕ) (d : ℕ) → ys ++ d ∷ [] ≡ take (length (ys ++ d ∷ [])) xs → (ys ≡ take (length ys) xs) × (d ≡ get_or xs (length ys) 0)
last_of [] [] d e = absurd (omega (arith, ap length e))
last_of (x ∷ xs) [] d e = (refl, ap (λ l. get_or l 0 0) e)
last_of [] (y ∷ ys) d e = absurd (omega (arith, ap length e))
last_of (x ∷ xs) (y ∷ ys) d e =
    let r = last_of xs ys d (ap (drop 1) e) in
    let f : y ≡ x = ap (λ l. get_or l 0 0) e in
    ((λ i. f i ∷ r.0 i), r.1)

-- each element is what the closure answers at its place, which leaves the closure as it was
module _ {F : Type 0} (g : Mut F (ℕ × Unit {0}) ℕ) {f : F} (h : ℕ → ℕ) (ys : List ℕ) where
  filled_from : (n i : ℕ) → ((k y : ℕ) (q : F) → i ≤ k → k < i + n → Called g f (k, tt) y q → (q ≡ f) × (y ≡ h k)) →
      IsFromFnResultFrom g f ys i n → (j : ℕ) → i ≤ j → j < i + n → get_or ys j 0 ≡ h j
  filled_from zero i same made j l m = absurd (omega arith)
  filled_from (suc n) i same (q, y, is, called, rest) j l m =
      let e = same i y q (omega arith) (omega arith) called in
      elim (ℕ_discrete j i) [
        | yes here ↦ subst (λ k. get_or ys k 0 ≡ h k) (sym here) (is.1 0 ∙ e.1)
        | no other ↦ filled_from n (i + 1) (λ k y q a b. same k y q (omega arith) (omega arith))
            (subst (λ q. IsFromFnResultFrom g q ys (i + 1) n) e.0 rest) j (omega (arith, other)) (omega arith)
      ]

  pub filled : {n : ℕ} → IsFromFnResult g f ys n → ((k y : ℕ) (q : F) → k < n → Called g f (k, tt) y q → (q ≡ f) × (y ≡ h k)) → (j : ℕ) → j < n → get_or ys j 0 ≡ h j
  filled {n} made same j l = filled_from n 0 (λ k y q a b. same k y q (omega arith)) made.each j (omega arith) (omega arith)
