use Rattle.std.proofs.Common.{◌≡◌, rules, Err, ap, ◌∙◌, arith}
use Rattle.std.proofs.lemmas.Result.{OkIff-at_err}
use Rattle.orders.specs.declared.refusal.Refusal.TheVariants.{NoSuchNumber}
use Rattle.sheets.proofs.Endings.{fault_is}
use Rattle.sheets.proofs.Given.{mapped_err}
use Rattle.std.proofs.lemmas.Bool.Decides.{nat_tests}
use Rattle.tables.proofs.Rows.{rows_within}
use Rattle.store.specs.Questions.{handle_asked, number_asked}
use Rattle.catalogue.proofs.request.Name.known.Goals as goal

pub returns-then-self-from : goal.returns-then-self-from
unfolding handle_asked
returns-then-self-from g c = let is = c.season-season.ensures in grind (arith, nat_tests)

pub returns-in_err-number : goal.returns-in_err-number
unfolding handle_asked number_asked
returns-in_err-number g c =
    let f = c.in_err-number.field-0.0 in
    let no = mapped_err c.try_from.result c.map_err.result _ c.map_err.ensures.cases f c.in_err-number.was in
    let told : f ≡ NoSuchNumber = search rules in
    let out = fault_is f c.from_residual.result c.from_residual.ensures.1 ∙ ap Err told in
    let large = OkIff-at_err _ _ _ no.0 c.try_from.ensures no.1 in
    let few = rows_within c.args.store.now.engine.table in
    let is = c.season-season.ensures in
    grind (arith, nat_tests)
