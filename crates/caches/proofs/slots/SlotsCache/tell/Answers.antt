use Rattle.std.proofs.Common.{◌<◌, length, rules}
use Rattle.caches.proofs.Kept.{fallen_told, set_fallen}
use Rattle.caches.proofs.slots.SlotsCache.tell.Goals as goal

pub returns : goal.returns
returns c =
    let within : c.slot-at.result < length c.args.self.now.row.pairs = search rules in
    let fell = set_fallen c.args.self.now.row.pairs c.slot-at.result c.args.triple c.args.answer within c.slot-at.ensures.value in
    record { told = fallen_told _ _ c.args.triple c.args.answer fell; slots = fell }
