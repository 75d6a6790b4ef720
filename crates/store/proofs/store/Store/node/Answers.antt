use Rattle.std.proofs.Common.{◌≡◌, ℕ, Bool, true, None, Ok, Decides, sym, ap, ◌∙◌, arith}
use Rattle.std.proofs.lemmas.Bool.Decides.{nat_tests}
use Rattle.diagrams.specs.Table.{Exists}
use Rattle.tables.specs.Rows.{rows}
use Rattle.diagrams.specs.Bodies.{row}
use Rattle.store.specs.Views.{View, view}
use Rattle.store.specs.Questions.{number_asked, answered}
use Rattle.store.proofs.store.Store.node.Goals as goal

pub returns-then-not-exists : goal.returns-then-not-exists
unfolding number_asked
returns-then-not-exists g c =
    let there : Decides c.exists.result (Exists (rows c.args.self.now.engine.table) c.args.number) = rw c.table.ensures at c.exists.ensures in
    grind (arith, nat_tests)

fine : (w : View) (n : ℕ) (b : Bool) → Decides b (Exists w.nodes n) → b ≡ true → number_asked w n ≡ None
unfolding number_asked
fine w n b there taken = grind (arith, nat_tests)

pub returns : goal.returns
returns g c =
    let w = view c.args.self.now in
    let n = c.args.number in
    let there : Decides c.exists.result (Exists w.nodes n) = rw c.table.ensures at c.exists.ensures in
    let is = fine w n c.exists.result there c.if-not-exists.false in
    ap (λ a. Ok a) (c.get.ensures ∙ ap (λ t. row (rows t) n) c.table-2.ensures) ∙ sym (ap (λ a. answered a (row w.nodes n)) is)
