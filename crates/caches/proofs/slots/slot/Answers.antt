use Rattle.std.proofs.Common.{rules}
use Rattle.caches.specs.Slotted.{slot_of}
use Rattle.caches.proofs.slots.slot.Goals as goal

pub returns : goal.returns
unfolding slot_of
returns c = record { within = search rules; value = cc }
