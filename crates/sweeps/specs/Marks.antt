-- Marks on the numbers of a table, as the sweep sets and reads them. Assumes nothing.
use Rattle.std.specs.Prelude.{◌≡◌, ℕ, suc, ◌<◌, Bool, true, false, ◌⊎◌, List, length, slice_index, slice_index_or}
use Rattle.diagrams.specs.declared.Node.{Node}
use Rattle.diagrams.specs.Table.{at}
use Rattle.sweeps.specs.Sweeping.{renumber, kept_of}

-- the test that marks make: a number is marked
abbrev pub test : List Bool → ℕ → Bool
test marks n = slice_index_or marks n false

module _ (keep : ℕ → Bool) where
  -- n is 0 or 1, or is kept
  abbrev pub Kept : ℕ → Type 0
  Kept n = (n < 2) ⊎ (keep n ≡ true)

  -- with every kept node its parts are kept
  abbrev pub Closed : List Node → Type 0
  Closed N = (i : ℕ) → i < length N → keep (suc (suc i)) ≡ true → Kept (at N i).lo × Kept (at N i).hi

-- of the first i nodes of N those that are kept were made again, which gave M, and the new number of each is written down
pub record Remaking (N : List Node) (keep : ℕ → Bool) (i : ℕ) (M : List Node) (numbers : List ℕ) : Type 0 where
  pub nodes : M ≡ kept_of keep N i
  pub long : length numbers ≡ 2048
  pub numbered : (n : ℕ) → n < suc (suc i) → Kept keep n → slice_index numbers n ≡ renumber keep n
