-- A table as the list of its nodes, and what its calls answer. Assumes nothing.
use Rattle.std.specs.Prelude.{◌≡◌, ℕ, suc, Bool, true, false, List, length, take, Some, None, Ok, Err, Option, Result, nat_lt}
use Rattle.orders.specs.declared.refusal.Refusal.{Refusal}
use Rattle.orders.specs.declared.refusal.Refusal.TheVariants.{NoRoom}
use Rattle.diagrams.specs.declared.Node.{Node}
use Rattle.diagrams.specs.Rules.{Outcome, done, full, find}
use Rattle.tables.specs.declared.table.Table.{Table}

-- the nodes of a table; the node at i has the number i + 2
unfoldable pub rows : Table → List Node
rows t = take t.len t.nodes

-- by the test that the search found a place in the list
abbrev pub found_by : ℕ → Bool → Option ℕ
found_by place true = Some (suc (suc place))
found_by place false = None

-- the number of the first node with these four values, if there is one
unfoldable pub found : List Node → ℕ → ℕ → ℕ → ℕ → Option ℕ
found N x y lo hi = found_by (find N x y lo hi) (nat_lt (find N x y lo hi) (length N))

-- a node is made as the rule makes it, after n entries: the table is then N, and r is answered
abbrev pub Makes : Outcome → List Node → ℕ → Result ℕ Refusal → Type 0
Makes (done M s m) N n (Ok r) = (N ≡ M) × (r ≡ s) × (m ≡ n)
Makes (done M s m) N n (Err e) = ⊥
Makes (full M) N n (Ok r) = ⊥
Makes (full M) N n (Err e) = (N ≡ M) × (e ≡ NoRoom)
