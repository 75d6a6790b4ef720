use Rattle.std.proofs.Common.{◌≡◌, ℕ, List, take, Ok, sym, ap, ◌∙◌, arith, length-take-le}
use Rattle.lines.specs.declared.numbers.Fields.{Fields}
use Rattle.lines.specs.Held.{held}
use Rattle.sheets.specs.Lines.{values}
use Rattle.sheets.proofs.Tops.{values_count}
use Rattle.sheets.proofs.texts.line_array.Goals as goal

-- just so many fields are held
count_is : (f : Fields) (n line : ℕ) (text rest : List ℕ) → values n line text ≡ Ok (held f, rest) → f.count ≡ n
count_is f n line text rest e =
    sym (length-take-le f.count f.values (omega (arith, f.few, f.long))) ∙ values_count n line text (held f, rest) e

pub shared_ref_as_front-copy_from_slice : goal.shared_ref_as_front-copy_from_slice
shared_ref_as_front-copy_from_slice g c =
    let f = c.in_ok-found.found in
    let told = c.in_ok-found.ensures in
    omega (arith, f.few, count_is f g.row.N c.args.line c.args.text.now c.in_ok-found.rest.now told)

pub returns : goal.returns
returns g c =
    let f = c.in_ok-found.found in
    let told = c.in_ok-found.ensures in
    let n = count_is f g.row.N c.args.line c.args.text.now c.in_ok-found.rest.now told in
    told ∙ ap (λ (l : List ℕ). Ok (l, c.in_ok-found.rest.now)) (ap (λ k. take k f.values) n ∙ sym c.copy_from_slice.ensures.after)
