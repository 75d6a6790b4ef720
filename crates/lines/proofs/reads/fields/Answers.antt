use Rattle.std.proofs.Common.{◌≡◌, [], ◌∷◌, ◌++◌, length, ap, ◌∙◌, arith}
use Rattle.lines.specs.Held.{held}
use Rattle.lines.proofs.Follows.{first_line_none, line_none, line_more, cases_map}
use Rattle.lines.proofs.reads.fields.Goals as goal

pub returns-in_err-value : goal.returns-in_err-value
returns-in_err-value c = rw c.from_residual.ensures (first_line_none c.args.line.now c.in_err-value.ensures)

pub returns : goal.returns
returns c =
    let next = c.in_ok-and.field-0 in
    let value = c.in_ok-value.value in
    let one : held next ≡ value ∷ [] = c.in_ok-and.ensures ∙ ap (λ l. l ++ value ∷ []) c.none.ensures in
    let number = c.in_ok-value.ensures in
    let rest = c.in_ok-value.rest.now in
    cases_map _ _ _ _ c.following.result
    (line_none c.args.line.now rest value number (length (held next)) (omega (arith, ap length one)))
    (λ f. line_more c.args.line.now rest value number next f one)
    c.following.ensures
