use Rattle.std.proofs.Common.{ℕ, List, sym, ap}
use Rattle.sheets.specs.Checks.{Outcome}
use Rattle.sheets.proofs.Entries.{going_more, going_fault, going_end}
use Rattle.sheets.proofs.reader.Reader.read_rows.Goals as goal

pub returns-in_err-rest-clause-gives : goal.returns-in_err-rest-clause-gives
returns-in_err-rest-clause-gives c =
    let one = c.in_err-rest.ensures.gives in
    going_fault c.args.self.now c.args.count c.args.text.now c.loop.self c.loop.rest.now c.loop.counter c.loop.invariant c.loop-test.true c.read_row.new.self c.read_row.ensures.stays
    c.in_err-rest.field-0.0 c.from_residual.result c.from_residual.ensures.1 one.0 one.1

pub loop-preserved : goal.loop-preserved
loop-preserved c =
    let one = c.in_ok-rest.ensures.gives in
    going_more c.args.self.now c.args.count c.args.text.now c.loop.self c.loop.rest.now c.loop.counter c.loop.invariant c.loop-test.true c.read_row.new.self c.read_row.ensures.stays
    c.in_ok-rest.rest.now one.0 one.1

pub returns-clause-gives : goal.returns-clause-gives
returns-clause-gives c =
    let o = going_end c.args.self.now c.args.count c.args.text.now c.loop.self c.loop.rest.now c.loop.counter c.loop.invariant c.loop-test.false in
    (sym (ap (λ (p : Outcome (List ℕ)). p.0) o), ap (λ (p : Outcome (List ℕ)). p.1) o)
