-- A table of which some nodes are kept, numbered anew. Assumes nothing.
use Rattle.std.specs.Prelude.{ℕ, zero, suc, Bool, cond, List, [], ◌∷◌, ◌++◌, map, length, Some, None, Option}
use Rattle.diagrams.specs.declared.Node.{Node}
use Rattle.diagrams.specs.Table.{at}
use Rattle.sweeps.specs.Reaching.{reached}

-- a number on a peg, changed
abbrev pub on_peg : (ℕ → ℕ) → Option ℕ → Option ℕ
on_peg f None = None
on_peg f (Some n) = Some (f n)

-- by the test which numbers are kept
module _ (keep : ℕ → Bool) where
  -- how many of the first i nodes are kept
  unfoldable pub rank : ℕ → ℕ
  rank zero = 0
  rank (suc i) = cond (keep (suc (suc i))) (suc (rank i)) (rank i)

  -- the new number of a node is 2 more than the number of kept nodes before it; 0 and 1 stay
  unfoldable pub renumber : ℕ → ℕ
  renumber zero = 0
  renumber (suc zero) = 1
  renumber (suc (suc i)) = suc (suc (rank i))

  -- a node with the new numbers of its parts
  abbrev pub again : Node → Node
  again a = record { x = a.x; y = a.y; lo = renumber a.lo; hi = renumber a.hi; orders = a.orders }

  -- those of the first i nodes that are kept, in their former order
  unfoldable pub kept_of : List Node → ℕ → List Node
  kept_of N zero = []
  kept_of N (suc i) = cond (keep (suc (suc i))) (kept_of N i ++ (again (at N i) ∷ [])) (kept_of N i)

module _ (N : List Node) (pegs : List (Option ℕ)) where
  -- the nodes that a sweep leaves
  unfoldable pub swept : List Node
  swept = kept_of (reached N pegs) N (length N)

  -- the new number of a number that is reached
  unfoldable pub renumbered : ℕ → ℕ
  renumbered n = renumber (reached N pegs) n

  -- each peg with the new number of its set
  unfoldable pub pegs_after : List (Option ℕ)
  pegs_after = map (on_peg renumbered) pegs
