use Rattle.std.proofs.Common.{◌≡◌, [], ◌∷◌, length, get_or, sym, ap, append-nil, arith, length-append, rules, ltb-false, ltb-true}
use Rattle.std.specs.List.{between}
use Rattle.std.proofs.lemmas.List.{nil_from_length}
use Rattle.lines.specs.Held.{held}
use Rattle.lines.proofs.Follows.{after_blank, first_none, no_room, other_first, shorter, later_none, later_more, cases_map}
use Rattle.lines.proofs.reads.+following.Goals as goal

pub returns-in_err-value-in-32 : goal.returns-in_err-value-in-32
returns-in_err-value-in-32 t c =
    let text = c.args.text.now in
    rw c.from_residual.ensures
    (first_none text (between 1 (length text) text) _ (after_blank text (omega (arith, ltb-false)) (search rules)) c.in_err-value-in-32.ensures)

pub returns-in_err-and-in-32 : goal.returns-in_err-and-in-32
returns-in_err-and-in-32 t c =
    let text = c.args.text.now in
    rw c.from_residual-in_err-and-in-32.ensures
    (no_room text (between 1 (length text) text) _ (after_blank text (omega (arith, ltb-false)) (search rules)) c.in_err-and-in-32.ensures)

pub following-requires : goal.following-requires
following-requires t c =
    let text = c.args.text.now in
    let blank = after_blank text (omega (arith, ltb-false)) (search rules) in
    let less = shorter text (between 1 (length text) text) c.in_ok-value-in-32.rest.now c.in_ok-value-in-32.value blank c.in_ok-value-in-32.ensures in
    omega (arith, less, c.decreases)

pub returns-in-empty : goal.returns-in-empty
returns-in-empty t c = ([], tt, sym (append-nil (held c.args.so_far)), nil_from_length _ (omega (arith, ltb-true)))

pub returns-in_ok-and-in-32 : goal.returns-in_ok-and-in-32
returns-in_ok-and-in-32 t c =
    let text = c.args.text.now in
    let blank = after_blank text (omega (arith, ltb-false)) (search rules) in
    let number = c.in_ok-value-in-32.ensures in
    let next = c.in_ok-and-in-32.field-0 in
    let one = c.in_ok-and-in-32.ensures in
    let rest = c.in_ok-value-in-32.rest.now in
    let value = c.in_ok-value-in-32.value in
    cases_map _ _ _ _ c.following.result
    (later_none text (between 1 (length text) text) rest value blank number (length (held c.args.so_far)) (length (held next))
    (omega (arith, ap length one, length-append (held c.args.so_far) (value ∷ []))))
    (λ f. later_more text (between 1 (length text) text) rest value blank number (held c.args.so_far) next f one)
    c.following.ensures

pub returns-in_default : goal.returns-in_default
returns-in_default t c =
    let text = c.args.text.now in
    let not : get_or text 0 0 ≡ 32 → ⊥ = search rules in
    other_first text _ (λ e. omega (arith, ltb-false, ap length e)) (λ after e. not (ap (λ l. get_or l 0 0) e))
