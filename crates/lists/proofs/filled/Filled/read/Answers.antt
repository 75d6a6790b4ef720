use Rattle.std.proofs.Common.{ap, ◌∙◌}
use Rattle.std.specs.List.{slice_get}
use Rattle.std.specs.Option.{ok_or}
use Rattle.orders.specs.declared.refusal.Refusal.TheVariants.{PastEnd}
use Rattle.lists.proofs.Places.{got}
use Rattle.lists.proofs.filled.Filled.read.Goals as goal

pub returns : goal.returns
returns g c =
    c.ok_or.ensures.value
    ∙ ap (λ o. ok_or o PastEnd)
    (c.copied.ensures ∙ got _ _ c.get.result c.get.ensures.lookup
    ∙ ap (λ xs. slice_get xs c.args.place) c.items.ensures)
