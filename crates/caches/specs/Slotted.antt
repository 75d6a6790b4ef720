-- What a row of slots remembers. Assumes nothing.
use Rattle.std.specs.Prelude.{ℕ, ◌%◌, Bool, cond, ◌&&◌, List, Some, None, Option, ◌==◌, slice_index_or}
use Rattle.hashing.specs.Stirring.{stirred}
use Rattle.caches.specs.declared.Triple.{Triple}
use Rattle.caches.specs.declared.slots.Pair.{Pair}
use Rattle.caches.specs.declared.slots.Slots.{Slots}
use Rattle.caches.specs.Recall.{Recalls, nothing}

-- the slot that a triple falls on
unfoldable pub slot_of : ℕ → ℕ → ℕ → ℕ
slot_of k a b = stirred 17 (stirred 17 (stirred 17 0 k) a) b % 512

abbrev pub same : Triple → ℕ → ℕ → ℕ → Bool
same t k a b = t.kind == k && t.first == a && t.second == b

-- what is answered from one slot
abbrev pub answered : Option Pair → Recalls
answered None k a b = nothing
answered (Some p) k a b = cond (same p.triple k a b) (Some p.answer) nothing

abbrev pub held_in : List (Option Pair) → Recalls
held_in pairs k a b = answered (slice_index_or pairs (slot_of k a b) None) k a b

-- what the slots remember
abbrev pub held : Slots → Recalls
held s = held_in s.row.pairs

-- After a pair fell: on its slot there is that pair alone, and every other slot has what it had.
abbrev pub fallen : Recalls → Triple → ℕ → Recalls
fallen before t answer k a b =
    cond (slot_of k a b == slot_of t.kind t.first t.second)
    (answered (Some (record { triple = t; answer = answer })) k a b)
    (before k a b)
