-- The buckets that nodes fall into, and what an index of a list of nodes holds. Assumes nothing.
use Rattle.std.specs.Prelude.{◌≡◌, ℕ, zero, suc, ◌+◌, ◌*◌, ◌%◌, ◌<◌, cond, List, length, ◌==◌, slice_index_or, Some, None, Option}
use Rattle.hashing.specs.Stirring.{stirred}
use Rattle.diagrams.specs.declared.Node.{Node}
use Rattle.diagrams.specs.Table.{at}

-- the bucket of four values
unfoldable pub bucket : ℕ → ℕ → ℕ → ℕ → ℕ
bucket x y lo hi = stirred 29 (stirred 29 ((x * 256 + y) * 4294967296) lo) hi % 4096

-- the bucket of the node at i
abbrev pub falls : List Node → ℕ → ℕ
falls N i = bucket (at N i).x (at N i).y (at N i).lo (at N i).hi

-- the number of the last node before the place k that falls into b, if there is one
unfoldable pub last : (ℕ → ℕ) → ℕ → ℕ → Option ℕ
last f b zero = None
last f b (suc k) = cond (f k == b) (Some (suc (suc k))) (last f b k)

-- no number
abbrev pub none : Option ℕ
none = None

-- for each bucket its last node
abbrev pub Heads : List (Option ℕ) → List Node → Type 0
Heads heads N = (b : ℕ) → b < 4096 → slice_index_or heads b none ≡ last (falls N) b (length N)

-- for each node the last before it in its bucket
abbrev pub Links : List (Option ℕ) → List Node → Type 0
Links next N = (i : ℕ) → i < length N → slice_index_or next i none ≡ last (falls N) (falls N i) i
