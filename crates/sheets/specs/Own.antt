-- Marks that are the own numbers of their places. Assumes nothing.
use Rattle.std.specs.Prelude.{◌≡◌, ℕ, ◌+◌, ◌<◌, List, slice_index}

-- each place below k has its own number
abbrev pub Own : List ℕ → ℕ → Type 0
Own marks k = (j : ℕ) → j < k → slice_index marks j ≡ j + 2
