-- The places of a list and the lines of a book. Assumes nothing.
use Rattle.std.proofs.Common.{◌≡◌, ℕ, ◌<◌, List, length, Some, arith}
use native.Mathlib.Decide.{dec_lt}
use Rattle.std.specs.List.{slice_get}
use Rattle.std.proofs.lemmas.Option.{slice_get_past}

-- a place that has something is within the list
pub nth_within : (xs : List ℕ) (i x : ℕ) → slice_get xs i ≡ Some x → i < length xs
nth_within xs i x e = elim (dec_lt i (length xs)) [
  | yes h ↦ h
  | no h ↦ let none = slice_get_past xs i (omega (arith, h)) in let z : ◌≡◌ {A = ℕ} 0 1 = cc in absurd (omega arith)
]
