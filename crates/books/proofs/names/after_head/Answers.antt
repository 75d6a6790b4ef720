use Rattle.std.proofs.Common.{◌≡◌, ℕ, ◌≤◌, List, ◌++◌, length, Err, sym, ap, ◌∙◌, arith, rules, ltb-false}
use Rattle.sheets.proofs.Fronts.{From, front_read, names_ok, names_no}
use Rattle.books.specs.Format.{head}
use Rattle.books.proofs.names.after_head.Goals as goal

pub returns-in-112 : goal.returns-in-112
returns-in-112 c =
    let text = c.args.text.now in
    let long : 13 ≤ length text = omega (arith, ltb-false) in
    let same : From 0 head text = search rules in
    names_ok head 1 text _ (front_read head text long same)

pub returns-in_default : goal.returns-in_default
returns-in_default c =
    let text = c.args.text.now in
    let bar : (rest : List ℕ) → text ≡ head ++ rest → ⊥ = search rules in
    names_no head 1 text bar ∙ ap Err (sym c.bad_line.ensures)
