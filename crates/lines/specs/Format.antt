-- The text of a number and of a line. Assumes nothing.
use Rattle.std.specs.Prelude.{◌≡◌, ℕ, ◌+◌, ◌-◌, ◌*◌, ◌^◌, ◌<◌, ◌≤◌, List, [], ◌∷◌, ◌++◌, length, decimal, ◌≢◌, slice_index}
use Rattle.std.specs.Int.{IsInRange}
use Rattle.std.specs.List.{AllByRecursion}

abbrev pub Digit : ℕ → Type 0
Digit c = IsInRange 48 57 c

-- no digit stands first
abbrev pub Ends : List ℕ → Type 0
Ends [] = Unit {0}
Ends (c ∷ cs) = Digit c → ⊥

-- at most 14 digits, with no zero in front of another
abbrev pub Plain : List ℕ → Type 0
Plain ds = (0 < length ds) × (length ds ≤ 14) × (slice_index ds 0 ≡ 48 → length ds ≡ 1)

-- the number that digits write, after those of n
abbrev pub read_on : ℕ → List ℕ → ℕ
read_on n [] = n
read_on n (c ∷ cs) = read_on (n * 10 + (c - 48)) cs

-- numbers that follow others, each after one blank
abbrev pub more : List ℕ → List ℕ
more [] = []
more (n ∷ ns) = 32 ∷ (decimal n ++ more ns)

-- the numbers of a line as they are written: one blank between two
abbrev pub written : List ℕ → List ℕ
written [] = []
written (n ∷ ns) = decimal n ++ more ns

-- a line: its numbers, and byte 10
abbrev pub line : List ℕ → List ℕ
line ns = written ns ++ 10 ∷ []

-- each is below 10^14
abbrev pub Values : List ℕ → Type 0
Values ns = AllByRecursion (λ n. n < 10 ^ 14) ns

-- the byte stands nowhere in the text
abbrev pub Without : ℕ → List ℕ → Type 0
Without b bs = AllByRecursion (λ c. c ≢ b) bs
