-- What a task is remembered by. Assumes nothing.
use Rattle.std.specs.Prelude.{ℕ, Some, Option}
use Rattle.caches.specs.declared.Triple.{Triple}
use Rattle.diagrams.specs.declared.Task.{Task}
use Rattle.diagrams.specs.Bodies.{first_of}
use Rattle.diagrams.specs.Outright.{kind_of, right_of}

-- an answer
abbrev pub some : ℕ → Option ℕ
some n = Some n

-- the triple of a task: its kind, its first number, and what else tells it
abbrev pub triple : Task → Triple
triple t = record { kind = kind_of t; first = first_of t; second = right_of t }
