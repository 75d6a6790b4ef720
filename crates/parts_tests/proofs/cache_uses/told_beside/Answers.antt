use Rattle.std.proofs.Common.{◌∙◌}
use Rattle.caches.specs.Slotted.{held}
use Rattle.caches.proofs.Kept.{fallen_beside}
use Rattle.parts_tests.proofs.cache_uses.told_beside.Goals as goal

pub returns : goal.returns
returns c apart =
    c.ask.ensures
    ∙ c.tell.ensures.slots c.args.other.kind c.args.other.first c.args.other.second
    ∙ fallen_beside (held c.args.cache.now) c.args.triple c.args.answer _ _ _ apart
