use Rattle.std.proofs.Common.{◌≡◌, ℕ, ◌≤◌, List, ◌++◌, length, Err, sym, ap, ◌∙◌, arith, rules, ltb-false}
use Rattle.sheets.specs.Format.{node_names}
use Rattle.sheets.proofs.Fronts.{From, front_read, names_ok, names_no}
use Rattle.sheets.proofs.texts.after_node_names.Goals as goal

pub returns-in-120 : goal.returns-in-120
returns-in-120 c =
    let text = c.args.text.now in
    let long : 10 ≤ length text = omega (arith, ltb-false) in
    let same : From 0 node_names text = search rules in
    names_ok node_names 3 text _ (front_read node_names text long same)

pub returns-in_default : goal.returns-in_default
returns-in_default c =
    let text = c.args.text.now in
    let bar : (rest : List ℕ) → text ≡ node_names ++ rest → ⊥ = search rules in
    names_no node_names 3 text bar ∙ ap Err (sym c.bad_line.ensures)
