-- What tells tasks apart. Assumes nothing.
use Rattle.std.proofs.Common.{◌≡◌, List, ap₂, arith}
use Rattle.orders.specs.Orders.{code_tells}
use Rattle.diagrams.specs.declared.Node.{Node}
use Rattle.diagrams.specs.declared.Task.{Task}
use Rattle.diagrams.specs.declared.Task.TheVariants.{Join, Meet, Without, Carry, Follow, Pick}
use Rattle.diagrams.specs.Bodies.{first_of}
use Rattle.diagrams.specs.Work.{Valid}
use Rattle.diagrams.specs.Outright.{kind_of, right_of}

-- the triple of a task tells it
pub key_tells : (N M : List Node) (t u : Task) → Valid N t → Valid M u → kind_of t ≡ kind_of u → first_of t ≡ first_of u → right_of t ≡ right_of u → t ≡ u
key_tells N M (Join a b) (Join a' b') v w e f i = ap₂ Join f i
key_tells N M (Join a b) (Meet a' b') v w e f i = absurd (omega arith)
key_tells N M (Join a b) (Without a' b') v w e f i = absurd (omega arith)
key_tells N M (Join a b) (Carry a' h') v w e f i = absurd (omega arith)
key_tells N M (Join a b) (Follow a' b') v w e f i = absurd (omega arith)
key_tells N M (Join a b) (Pick a' k' p') v w e f i = absurd (omega arith)
key_tells N M (Meet a b) (Join a' b') v w e f i = absurd (omega arith)
key_tells N M (Meet a b) (Meet a' b') v w e f i = ap₂ Meet f i
key_tells N M (Meet a b) (Without a' b') v w e f i = absurd (omega arith)
key_tells N M (Meet a b) (Carry a' h') v w e f i = absurd (omega arith)
key_tells N M (Meet a b) (Follow a' b') v w e f i = absurd (omega arith)
key_tells N M (Meet a b) (Pick a' k' p') v w e f i = absurd (omega arith)
key_tells N M (Without a b) (Join a' b') v w e f i = absurd (omega arith)
key_tells N M (Without a b) (Meet a' b') v w e f i = absurd (omega arith)
key_tells N M (Without a b) (Without a' b') v w e f i = ap₂ Without f i
key_tells N M (Without a b) (Carry a' h') v w e f i = absurd (omega arith)
key_tells N M (Without a b) (Follow a' b') v w e f i = absurd (omega arith)
key_tells N M (Without a b) (Pick a' k' p') v w e f i = absurd (omega arith)
key_tells N M (Carry a h) (Join a' b') v w e f i = absurd (omega arith)
key_tells N M (Carry a h) (Meet a' b') v w e f i = absurd (omega arith)
key_tells N M (Carry a h) (Without a' b') v w e f i = absurd (omega arith)
key_tells N M (Carry a h) (Carry a' h') v w e f i = ap₂ Carry f (code_tells h h' i)
key_tells N M (Carry a h) (Follow a' b') v w e f i = absurd (omega arith)
key_tells N M (Carry a h) (Pick a' k' p') v w e f i = absurd (omega arith)
key_tells N M (Follow a b) (Join a' b') v w e f i = absurd (omega arith)
key_tells N M (Follow a b) (Meet a' b') v w e f i = absurd (omega arith)
key_tells N M (Follow a b) (Without a' b') v w e f i = absurd (omega arith)
key_tells N M (Follow a b) (Carry a' h') v w e f i = absurd (omega arith)
key_tells N M (Follow a b) (Follow a' b') v w e f i = ap₂ Follow f i
key_tells N M (Follow a b) (Pick a' k' p') v w e f i = absurd (omega arith)
key_tells N M (Pick a k p) (Join a' b') v w e f i = absurd (omega arith)
key_tells N M (Pick a k p) (Meet a' b') v w e f i = absurd (omega arith)
key_tells N M (Pick a k p) (Without a' b') v w e f i = absurd (omega arith)
key_tells N M (Pick a k p) (Carry a' h') v w e f i = absurd (omega arith)
key_tells N M (Pick a k p) (Follow a' b') v w e f i = absurd (omega arith)
key_tells N M (Pick a k p) (Pick a' k' p') v w e f i =
    let d : k ≡ k' = omega arith in
    let j : p ≡ p' = omega arith in
    cc
