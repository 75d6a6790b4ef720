use Rattle.std.proofs.Common.{◌≤◌, [], ◌∷◌, ◌++◌, length, codes, arith, rules, ltb-false}
use Rattle.sheets.proofs.Fronts.{From, front_read}
use Rattle.sheets.proofs.texts.after_nodes_orders.Goals as goal

pub returns-in-110 : goal.returns-in-110
returns-in-110 c =
    let text = c.args.text.now in
    let long : 13 ≤ length text = omega (arith, ltb-false) in
    let same : From 0 (codes "nodes orders" ++ 10 ∷ []) text = search rules in
    front_read (codes "nodes orders" ++ 10 ∷ []) text long same
