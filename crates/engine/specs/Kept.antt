-- What holds of an engine between calls: what its cache remembers is right. Assumes nothing.
use Rattle.std.specs.Prelude.{◌≡◌, ℕ, List, Some}
use Rattle.caches.specs.Recall.{Recalls}
use Rattle.diagrams.specs.declared.Node.{Node}
use Rattle.diagrams.specs.declared.Task.{Task}
use Rattle.diagrams.specs.Moves.{Moves}
use Rattle.diagrams.specs.Rules.{done}
use Rattle.diagrams.specs.Bodies.{first_of}
use Rattle.diagrams.specs.Work.{Valid, task}
use Rattle.diagrams.specs.Outright.{kind_of, right_of}

-- The answer r to the triple (k, a, b) is right on the table N, which has room for cap nodes: there is a task with that
-- triple, its numbers are there, and its rule answers r and adds no node.
pub record Right (g : Moves) (cap : ℕ) (N : List Node) (k a b r : ℕ) : Type 0 where
  pub of : Task
  pub kind : kind_of of ≡ k
  pub left : first_of of ≡ a
  pub right : right_of of ≡ b
  pub valid : Valid N of
  pub entries : ℕ
  pub answer : task g cap N of ≡ done N r entries

-- each answer that is remembered is right
pub record Kept (g : Moves) (cap : ℕ) (N : List Node) (recalls : Recalls) : Type 0 where
  pub right : (k a b r : ℕ) → recalls k a b ≡ Some r → Right g cap N k a b r
