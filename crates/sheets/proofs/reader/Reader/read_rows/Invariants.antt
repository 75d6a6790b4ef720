use Rattle.sheets.proofs.Entries.{Going}
use Rattle.sheets.proofs.reader.Reader.read_rows.Given as goal

abbrev pub invariant-loop : goal.invariant-loop
invariant-loop l = Going l.initial.self l.count l.text l.self l.rest l.counter
