use Rattle.std.proofs.Common.{rules, ◌≡◌, inl, inr, ℕ, eqb, List, Err, Option, sym, ap, ◌∙◌, true≢false, arith, length-take-le, eq-eqb, eqb-true, Bor}
use Rattle.std.specs.Option.{option_map}
use Rattle.lines.specs.declared.numbers.Fields.{Fields}
use Rattle.lines.specs.Held.{held}
use Rattle.lines.proofs.Readings.{first_is, fields_are}
use Rattle.sheets.specs.Lines.{values}
use Rattle.sheets.proofs.Fronts.{values_no_line, values_no_numbers, values_ok, values_no}
use Rattle.sheets.proofs.Given.{given_some, given_none, filtered_some, filtered_none}
use Rattle.sheets.proofs.Tops.{passed}
use Rattle.sheets.proofs.texts.line_values.Goals as goal

-- the line that is cut off
abbrev lines : Option (Bor (List ℕ) × Bor (List ℕ)) → Option (List ℕ × List ℕ)
lines o = option_map (λ p. (p.0.now, p.1.now)) o

pub returns-in_err-first : goal.returns-in_err-first
returns-in_err-first c =
    let f = c.in_err-first.field-0.0 in
    let no = given_none c.first_line.result c.bad_line.result c.ok_or.result c.ok_or.ensures.value f c.in_err-first.was in
    passed _ (λ g. values c.args.count c.args.line c.args.text.now ≡ Err g) f c.from_residual.result c.from_residual.ensures.1
    (values_no_line c.args.count c.args.line c.args.text.now (sym (first_is c.args.text.now c.first_line.result c.first_line.ensures) ∙ ap lines no.0)
    ∙ ap Err (sym (no.1 ∙ c.bad_line.ensures)))

pub returns-in_err-found : goal.returns-in_err-found
returns-in_err-found c =
    let text = c.args.text.now in
    let n = c.args.count in
    let k = c.args.line in
    let l = c.in_ok-first.first in
    let rest = c.in_ok-first.rest in
    let one = given_some c.first_line.result c.bad_line.result c.ok_or.result c.ok_or.ensures.value (l, rest) c.in_ok-first.was in
    let cut = sym (first_is text c.first_line.result c.first_line.ensures) ∙ ap lines one in
    let is = fields_are l.now c.fields.result c.fields.ensures in
    let f = c.in_err-found.field-0.0 in
    let no = given_none c.filter.result c.bad_line-2.result c.ok_or-2.result c.ok_or-2.ensures.value f c.in_err-found.was in
    let fault = ap Err (sym (no.1 ∙ c.bad_line-2.ensures)) in
    passed _ (λ g. values n k text ≡ Err g) f c.from_residual-in_err-found.result c.from_residual-in_err-found.ensures.1
    (elim (filtered_none c.fields.result c.filter.result _ c.filter.ensures (λ (x : Fields). eqb x.count n) (λ x b q. search rules) no.0) [
      | inl none ↦ values_no_numbers n k text l.now rest.now cut (sym is ∙ ap (option_map held) none) ∙ fault
      | inr other ↦
          let x = other.0 in
          let long = length-take-le x.count x.values (omega (arith, x.few, x.long)) in
          values_no n k text l.now rest.now cut (held x) (sym is ∙ ap (option_map held) other.1)
          (λ e. true≢false (sym (eq-eqb _ _ (sym long ∙ e)) ∙ other.2)) ∙ fault
    ])

pub returns : goal.returns
returns c =
    let text = c.args.text.now in
    let n = c.args.count in
    let l = c.in_ok-first.first in
    let rest = c.in_ok-first.rest in
    let one = given_some c.first_line.result c.bad_line.result c.ok_or.result c.ok_or.ensures.value (l, rest) c.in_ok-first.was in
    let cut = sym (first_is text c.first_line.result c.first_line.ensures) ∙ ap lines one in
    let f = c.in_ok-found.found in
    let some = given_some c.filter.result c.bad_line-2.result c.ok_or-2.result c.ok_or-2.ensures.value f c.in_ok-found.was in
    let two = filtered_some c.fields.result c.filter.result _ c.filter.ensures (λ (x : Fields). eqb x.count n) (λ x b q. search rules) f some in
    let long = length-take-le f.count f.values (omega (arith, f.few, f.long)) in
    values_ok n c.args.line text l.now rest.now cut (held f)
    (sym (fields_are l.now c.fields.result c.fields.ensures) ∙ ap (option_map held) two.0) (long ∙ eqb-true _ _ two.1)
