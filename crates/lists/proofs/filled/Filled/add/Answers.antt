use Rattle.std.proofs.Common.{◌≡◌, ◌<◌, length, take, set, sym, refl, arith}
use Rattle.std.proofs.lemmas.List.{take_more_set, length-take-le}
use Rattle.lists.proofs.filled.Filled.add.Goals as goal

pub returns : goal.returns
returns g c =
    let free : c.args.self.now.len < length c.args.self.now.room.now = omega (arith, c.args.self.now.within) in
    let count : length (take c.args.self.now.len c.args.self.now.room.now) ≡ c.args.self.now.len = length-take-le _ _ c.args.self.now.within in
    record {
      answer = record {
        free = omega arith;
        last = sym count;
        items = take_more_set _ _ c.args.item free;
        room = refl {a = set c.args.self.now.room.now c.args.self.now.len c.args.item};
      };
      lender = refl {a = c.args.self.now.room.ghost_name};
    }
