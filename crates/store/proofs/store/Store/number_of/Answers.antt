use Rattle.std.proofs.Common.{Decides, arith}
use Rattle.std.proofs.lemmas.Bool.Decides.{nat_tests}
use Rattle.diagrams.specs.Table.{Exists}
use Rattle.tables.specs.Rows.{rows}
use Rattle.store.specs.Questions.{handle_asked, number_asked}
use Rattle.store.proofs.store.Store.number_of.Goals as goal

pub returns-then-handle-self : goal.returns-then-handle-self
unfolding handle_asked
returns-then-handle-self g c = grind (arith, nat_tests)

pub returns-then-not-exists : goal.returns-then-not-exists
unfolding handle_asked number_asked
returns-then-not-exists g c =
    let there : Decides c.exists.result (Exists (rows c.args.self.now.engine.table) c.args.handle.number) = rw c.table.ensures at c.exists.ensures in
    grind (arith, nat_tests)

pub returns : goal.returns
unfolding handle_asked number_asked
returns g c =
    let there : Decides c.exists.result (Exists (rows c.args.self.now.engine.table) c.args.handle.number) = rw c.table.ensures at c.exists.ensures in
    grind (arith, nat_tests)
