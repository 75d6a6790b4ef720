use Rattle.std.proofs.Common.{◌≤◌, length, codes, arith, rules, ltb-false}
use Rattle.sheets.proofs.Fronts.{From, front_read}
use Rattle.sheets.proofs.texts.after_chain.Goals as goal

pub returns-in-99 : goal.returns-in-99
returns-in-99 c =
    let text = c.args.text.now in
    let long : 6 ≤ length text = omega (arith, ltb-false) in
    let same : From 0 (codes "chain ") text = search rules in
    front_read (codes "chain ") text long same
