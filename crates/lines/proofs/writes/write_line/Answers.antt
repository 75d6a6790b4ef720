use Rattle.std.proofs.Common.{[], ◌∷◌, arith}
use Rattle.lists.proofs.Places.{extended_then, extended_room, extended_length}
use Rattle.lines.specs.Format.{written}
use Rattle.lines.proofs.Pages.{length_line}
use Rattle.lines.proofs.writes.write_line.Goals as goal

pub put_numbers-requires : goal.put_numbers-requires
put_numbers-requires c = omega (arith, c.requires, length_line c.args.values.now)

pub put_byte-requires : goal.put_byte-requires
put_byte-requires c =
    let put = c.put_numbers.ensures.answer in
    omega (arith, c.requires, length_line c.args.values.now, extended_room _ _ _ put, extended_length _ _ _ put)

pub returns-clause-answer : goal.returns-clause-answer
returns-clause-answer c =
    extended_then _ c.put_numbers.new.page c.put_byte.new.page (written c.args.values.now) (10 ∷ []) c.put_numbers.ensures.answer c.put_byte.ensures.answer
