-- What the pegs of a store reach. Assumes nothing.
use Rattle.std.specs.Prelude.{◌≡◌, ℕ, zero, suc, ◌≤◌, Bool, false, ◌&&◌, ◌||◌, List, [], ◌∷◌, Some, None, Option, ◌==◌, nat_lt, slice_index_or}
use Rattle.diagrams.specs.declared.Node.{Node}
use Rattle.diagrams.specs.Table.{Exists, lo_of, hi_of}

-- a peg with nothing on it
abbrev pub empty : Option ℕ
empty = None

-- n is on one of the pegs: it is a root
abbrev pub Pegged : List (Option ℕ) → ℕ → Type 0
Pegged pegs n = (p : ℕ) × (slice_index_or pegs p empty ≡ Some n)

-- the numbers on the pegs are numbers of the table
abbrev pub Pegs : List Node → List (Option ℕ) → Type 0
Pegs N pegs = (p n : ℕ) → slice_index_or pegs p empty ≡ Some n → Exists N n

-- the numbers that are reached: those on the pegs, and with a node its lo and its hi; no others
pub data Reached (N : List Node) (pegs : List (Option ℕ)) : ℕ → Type 0 where
  held : {n : ℕ} → Pegged pegs n → Reached N pegs n
  low : {n : ℕ} → 2 ≤ n → Reached N pegs n → Reached N pegs (lo_of N n)
  high : {n : ℕ} → 2 ≤ n → Reached N pegs n → Reached N pegs (hi_of N n)

-- whether n is r, or what the node r leads to, at most d nodes down
unfoldable pub leads : ℕ → List Node → ℕ → ℕ → Bool
leads zero N r n = r == n
leads (suc d) N r n = r == n || (nat_lt 1 r && (leads d N (lo_of N r) n || leads d N (hi_of N r) n))

-- whether n is reached: a number's parts are below it, so a number is as deep as a walk can go
unfoldable pub reached : List Node → List (Option ℕ) → ℕ → Bool
reached N [] n = false
reached N (None ∷ pegs) n = reached N pegs n
reached N (Some r ∷ pegs) n = leads r N r n || reached N pegs n
