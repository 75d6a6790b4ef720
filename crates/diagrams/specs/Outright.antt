-- What is answered with no work, and the triple that a task is remembered by. Assumes nothing.
use Rattle.std.specs.Prelude.{ℕ, ◌+◌, ◌*◌, cond, ◌||◌, Some, None, Option, ◌==◌}
use Rattle.diagrams.specs.declared.Task.{Task}
use Rattle.diagrams.specs.declared.Task.TheVariants.{Join, Meet, Without, Carry, Follow, Pick}
use Rattle.orders.specs.Orders.{standing}
use Rattle.diagrams.specs.Moves.{same}
use Rattle.diagrams.specs.Script.{Script, answer, make, enter}

-- a script that is just an answer
abbrev pub answered : Script → Option ℕ
answered (answer r) = Some r
answered (make x y lo hi k) = None
answered (enter t k) = None

-- that, of a task's rule (`outright_is` in proofs/): it asks nothing of the table
abbrev pub outright : Task → Option ℕ
outright (Join a b) = cond (a == 0) (Some b) (cond (b == 0 || a == b) (Some a) None)
outright (Meet a b) = cond (a == 0 || b == 0) (Some 0) (cond (a == b) (Some a) None)
outright (Without a b) = cond (a == 0 || a == b) (Some 0) (cond (b == 0) (Some a) None)
outright (Carry a h) = cond (a == 0) (Some 0) (cond (same h standing) (Some a) None)
outright (Follow a b) = cond (a == 0 || b == 0) (Some 0) (cond (b == 1) (Some a) None)
outright (Pick a k p) = cond (a == 0) (Some a) (cond (a == 1) (cond (k == p) (Some 1) (Some 0)) None)

-- the number of its kind
abbrev pub kind_of : Task → ℕ
kind_of (Join a b) = 1
kind_of (Meet a b) = 2
kind_of (Without a b) = 3
kind_of (Carry a h) = 4
kind_of (Follow a b) = 5
kind_of (Pick a k p) = 6

-- what a task is remembered by besides its kind and its first number
abbrev pub right_of : Task → ℕ
right_of (Join a b) = b
right_of (Meet a b) = b
right_of (Without a b) = b
right_of (Carry a h) = h.code
right_of (Follow a b) = b
right_of (Pick a k p) = k * 256 + p
