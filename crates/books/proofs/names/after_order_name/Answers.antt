use Rattle.std.proofs.Common.{◌≡◌, ℕ, ◌≤◌, List, ◌++◌, length, Err, sym, ap, ◌∙◌, arith, rules, ltb-false}
use Rattle.sheets.proofs.Fronts.{From, front_read, names_ok, names_no}
use Rattle.books.specs.Format.{order_name}
use Rattle.books.proofs.names.after_order_name.Goals as goal

pub returns-in-111 : goal.returns-in-111
returns-in-111 c =
    let text = c.args.text.now in
    let long : 6 ≤ length text = omega (arith, ltb-false) in
    let same : From 0 order_name text = search rules in
    names_ok order_name 3 text _ (front_read order_name text long same)

pub returns-in_default : goal.returns-in_default
returns-in_default c =
    let text = c.args.text.now in
    let bar : (rest : List ℕ) → text ≡ order_name ++ rest → ⊥ = search rules in
    names_no order_name 3 text bar ∙ ap Err (sym c.bad_line.ensures)
