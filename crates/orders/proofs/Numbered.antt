-- The entries of a row with their numbers, counted from 1.
-- Assumes nothing.
use Rattle.std.specs.Prelude.{◌≡◌, ℕ, ◌+◌, ◌-◌, length, drop, Some, false, true, Bool, slice_index, List, ◌∷◌}
use Rattle.std.specs.declared.ops.RangeInclusive.{RangeInclusive}
use Rattle.std.specs.Range.{range_inclusive_len, range_inclusive_steps, range_inclusive_left, range_inclusive_start, range_inclusive_end, range_inclusive_exhausted}
use Rattle.std.proofs.lemmas.List.{drop_more}
use Rattle.std.proofs.Common.{sym, refl, ap, ◌∙◌, ◌⊎◌, inl, inr, arith}
use Rattle.std.proofs.Math.ListN.{length-drop}

-- after n of them
abbrev pub Numbered : List ℕ → ℕ → List ℕ → RangeInclusive ℕ → Type 0
Numbered row n rest r =
    (length row ≡ 16)
    × (rest ≡ drop n row)
    × (range_inclusive_left (λ a b. b - a) r + n ≡ 16)
    × (range_inclusive_exhausted r ≡ false → range_inclusive_start r ≡ n + 1)

-- a range that still gives a number is not exhausted
still_gives : (e : Bool) (a b m : ℕ) → m + 1 ≡ range_inclusive_len (λ i k. k - i) a b e → e ≡ false
still_gives true a b m h = absurd (omega (arith, h))
still_gives false a b m h = refl

pub next_numbered : (row rest : List ℕ) (n x y : ℕ) (more : List ℕ) (r t : RangeInclusive ℕ) → Numbered row n rest r → rest ≡ y ∷ more
    → range_inclusive_steps (λ a b. b - a) (λ a b. b ≡ a + 1) r (Some x) t
    → (x ≡ n + 1) × (y ≡ slice_index row n) × Numbered row (n + 1) more t
next_numbered row rest n x y more r t h e s =
    let gives : range_inclusive_exhausted r ≡ false = still_gives (range_inclusive_exhausted r) (range_inclusive_start r) (range_inclusive_end r) (range_inclusive_left (λ a b. b - a) t) s.1.1 in
    let first : x ≡ n + 1 = s.1.0 ∙ h.3 gives in
    let left : range_inclusive_left (λ a b. b - a) t + 1 ≡ range_inclusive_left (λ a b. b - a) r = s.1.1 in
    let both : y ∷ more ≡ slice_index row n ∷ drop (n + 1) row = sym e ∙ h.1 ∙ drop_more row n 0 (omega (arith, h.0, h.2, left)) in (
      first,
      cc both,
      (h.0, cc both, omega (arith, h.2, left), λ k. omega (arith, s.1.2 k, s.1.0, first)),
    )

-- where nothing is left, of the row or of the numbers
pub all_numbered : (row rest : List ℕ) (n : ℕ) (r : RangeInclusive ℕ) → Numbered row n rest r
    → (length rest ≡ 0) ⊎ (range_inclusive_left (λ a b. b - a) r ≡ 0) → n ≡ 16
all_numbered row rest n r h e = elim e [
  | inl none ↦ omega (arith, h.0, h.2, sym none ∙ ap length h.1 ∙ length-drop n row)
  | inr none ↦ omega (arith, h.2, none)
]
