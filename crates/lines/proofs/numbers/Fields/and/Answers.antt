use Rattle.std.proofs.Common.{take, set, ap, ◌∙◌, add-one, arith, take-suc-set}
use Rattle.lines.proofs.numbers.Fields.and.Goals as goal

pub returns : goal.returns
returns c =
    let f = c.args.self in
    let v = c.args.value in
    ap (λ n. take n (set f.values f.count v)) (add-one f.count) ∙ take-suc-set f.values f.count v (omega (arith, f.few, f.long))
