use Rattle.std.proofs.Common.{arith}
use Rattle.tables.proofs.Rows.{sound_of, length_rows}
use Rattle.tables.proofs.Makings.{makes_low, makes_found, makes_full, makes_new, new_sound, sum_fits}
use Rattle.tables.proofs.table.Table.node.Goals as goal

pub returns-then-hi-eq0 : goal.returns-then-hi-eq0
returns-then-hi-eq0 c = makes_low _ _ _ _ _ _ c.if-hi-eq0.true

pub returns-in-Some : goal.returns-in-Some
returns-in-Some c = makes_found _ _ _ _ _ _ _ c.if-hi-eq0.false c.in-Some.ensures

pub returns-then-capacity-self : goal.returns-then-capacity-self
returns-then-capacity-self c =
    makes_full _ _ _ _ _ _ c.if-hi-eq0.false c.in_default.ensures (omega (arith, length_rows c.args.self.now, c.if-capacity-self.true))

pub overflow_add-orders : goal.overflow_add-orders
overflow_add-orders c =
    let most = sum_fits _ _ _ _ _ _ _ c.get.ensures c.get-2.ensures (sound_of c.args.self.now) c.requires.asks in
    omega arith

pub push-requires : goal.push-requires
push-requires c = record {
  room = omega (arith, length_rows c.args.self.now, c.requires.capacity, c.if-capacity-self.false);
  sound = new_sound _ _ _ _ _ _ _ c.get.ensures c.get-2.ensures (sound_of c.args.self.now) c.requires.asks
      c.if-hi-eq0.false c.in_default.ensures;
}

pub returns : goal.returns
returns c =
    makes_new _ _ _ _ _ _ _ c.get.ensures c.get-2.ensures _ _ _ c.if-hi-eq0.false c.in_default.ensures
    (omega (arith, length_rows c.args.self.now, c.if-capacity-self.false)) c.push.ensures.rows c.push.ensures.number
