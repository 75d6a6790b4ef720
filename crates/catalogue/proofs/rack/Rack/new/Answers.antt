use Rattle.std.proofs.Common.{◌≡◌, ℕ, ◌+◌, ◌≤◌, [], ◌∷◌, ◌++◌, length, replicate, None, Option, ap, ◌∙◌, arith}
use lib.ListN.{length-replicate, replicate-append-replicate}
use Rattle.store.specs.declared.hold.Hold.{Hold}
use Rattle.catalogue.specs.Racks.{Slots}
use Rattle.catalogue.proofs.rack.Rack.new.Goals as goal

abbrev empty : Option Hold
empty = None

pub loop-init : goal.loop-init
loop-init c = let m = c.in_ok-slots.ensures in record { items = m.items; len = m.len; room = m.capacity }

pub unreachable-requires : goal.unreachable-requires
unreachable-requires c = let i = c.loop.invariant in omega (arith, c.in-Err.ensures.full, c.loop-test.true, i.len, i.room)

pub loop-preserved : goal.loop-preserved
loop-preserved c =
    let i = c.loop.invariant in
    record {
      items = c.in-Ok.ensures.items ∙ ap (λ (s : Slots). s ++ empty ∷ []) i.items ∙ replicate-append-replicate c.loop.counter 1 empty;
      len = c.in-Ok.ensures.len ∙ ap (λ (n : ℕ). n + 1) i.len;
      room = omega (arith, i.room, c.in-Ok.ensures.capacity);
    }

-- after the last turn there are 64
all : (slots : Slots) (n : ℕ) → slots ≡ replicate n empty → 64 ≤ n → n ≤ 64 → slots ≡ replicate 64 empty
all slots n e h k = let f : n ≡ 64 = omega arith in e ∙ ap (λ (m : ℕ). replicate m empty) f

pub invariant_of-result : goal.invariant_of-result
invariant_of-result c = record { long = ap (length {A = Option Hold}) (all _ _ c.loop.invariant.items c.loop-test.false c.loop.auto.counter-end) ∙ length-replicate 64 empty }

pub returns : goal.returns
returns c = all _ _ c.loop.invariant.items c.loop-test.false c.loop.auto.counter-end
