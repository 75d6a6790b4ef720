-- What a plan says is to be done. Assumes nothing.
use Rattle.std.specs.Prelude.{ℕ, false}
use Rattle.std.specs.declared.cmp.Ordering.{Ordering}
use Rattle.diagrams.specs.declared.Node.{Node}
use Rattle.diagrams.specs.declared.Task.{Task}
use Rattle.diagrams.specs.Bodies.{join_body, meet_body, without_body}
use Rattle.engine.specs.declared.plan.Pairing.{Pairing}
use Rattle.engine.specs.declared.plan.Pairing.TheVariants as pairing
use Rattle.diagrams.specs.declared.Task.TheVariants.{Carry}
use Rattle.diagrams.specs.declared.Task.TheVariants as task
use Rattle.diagrams.specs.Script.{Script, answer, make, enter}
use Rattle.engine.specs.declared.plan.Plan.{Plan}
use Rattle.engine.specs.declared.plan.Rest.{Rest}
use Rattle.engine.specs.declared.plan.Rest.TheVariants.{Pass, Over, Lift, Then}
use Rattle.engine.specs.declared.plan.Last.{Last}
use Rattle.engine.specs.declared.plan.Last.TheVariants.{Both, Join, Raise, Move}

-- what is done with the answers r and s of the two tasks
abbrev pub last_of : Last → ℕ → ℕ → Script
last_of (Both x y) r s = make x y r s answer
last_of Join r s = enter (task.Join r s) answer
last_of (Raise x y) r s = make x y 0 s (λ v. enter (task.Join r v) answer)
last_of (Move h) r s = enter (Carry s h) (λ v. enter (task.Join r v) answer)

-- what is done with the answer r of the first task
abbrev pub rest_of : Rest → ℕ → Script
rest_of Pass r = answer r
rest_of (Over x y hi) r = make x y r hi answer
rest_of (Lift x y) r = make x y 0 r answer
rest_of (Then high last) r = enter high (last_of last r)

-- a plan as a script
abbrev pub script : Plan → Script
script p = enter p.low (rest_of p.rest)

-- work on two numbers, as a task
abbrev pub paired_task : Pairing → ℕ → ℕ → Task
paired_task pairing.Join a b = task.Join a b
paired_task pairing.Meet a b = task.Meet a b
paired_task pairing.Without a b = task.Without a b

-- the upper part of a node that is the first set's alone: it is in the answer, or it is not
abbrev pub first_alone : Pairing → Node → Rest
first_alone pairing.Join p = Over p.x p.y p.hi
first_alone pairing.Meet p = Pass
first_alone pairing.Without p = Over p.x p.y p.hi

-- and of one that is the second set's
abbrev pub second_alone : Pairing → Node → Rest
second_alone pairing.Join q = Over q.x q.y q.hi
second_alone pairing.Meet q = Pass
second_alone pairing.Without q = Pass

-- its rule, where it is not outright, by the rows of the two numbers and how their levels compare
abbrev pub paired_body : Pairing → ℕ → ℕ → Node → Node → Ordering → Script
paired_body pairing.Join a b p q w = join_body a b p q false false w
paired_body pairing.Meet a b p q w = meet_body a b p q false false w
paired_body pairing.Without a b p q w = without_body a b p q false false w
