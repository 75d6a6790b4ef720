-- Worked examples of sweeps, computed from the definitions. Assumes nothing.
use Rattle.std.specs.Prelude.{◌≡◌, ℕ, List, [], ◌∷◌, ◌++◌, Some, None, Option}
use Rattle.std.specs.List.{AllByRecursion}
use Rattle.diagrams.specs.declared.Node.{Node}
use Rattle.diagrams.specs.Examples.{nd, all_six}
use Rattle.sweeps.specs.Sweeping.{swept, pegs_after}

-- A table and its pegs, before a sweep and after it.
pub record Swept : Type 0 where
  pub table : List Node
  pub pegs : List (Option ℕ)
  pub left : List Node
  pub moved : List (Option ℕ)

abbrev pub Sweeps : Swept → Type 0
Sweeps s = (swept s.table s.pegs ≡ s.left) × (pegs_after s.table s.pegs ≡ s.moved)

-- all orders of three pieces as number 4, and those with piece 3 in place 1 as number 5
abbrev pub two_sets : List Node
two_sets = all_six ++ (nd 3 1 0 2 2 ∷ [])

abbrev pub swepts : List Swept
swepts =
    -- the smaller set is held: of four nodes two are left, and its number is 3
    record { table = two_sets; pegs = None ∷ Some 5 ∷ []; left = nd 2 1 1 1 2 ∷ nd 3 1 0 2 2 ∷ []; moved = None ∷ Some 3 ∷ [] }
    -- the greater set is held, and the sets 0 and 1: the smaller set's node goes
    ∷ record { table = two_sets; pegs = Some 4 ∷ Some 0 ∷ Some 1 ∷ []; left = all_six; moved = Some 4 ∷ Some 0 ∷ Some 1 ∷ [] }
    -- no set is held: no node is left
    ∷ record { table = two_sets; pegs = None ∷ []; left = []; moved = None ∷ [] }
    ∷ []

-- Every row of the table.
abbrev pub ExamplesStand : Type 0
ExamplesStand = AllByRecursion Sweeps swepts
