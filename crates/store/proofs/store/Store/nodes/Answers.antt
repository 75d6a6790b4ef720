use Rattle.std.proofs.Common.{◌≤◌, length, sym, ap, ◌∙◌, subst}
use Rattle.diagrams.specs.Table.{Sound}
use Rattle.tables.specs.Rows.{rows}
use Rattle.tables.proofs.Rows.{sound_of, rows_within}
use Rattle.store.proofs.store.Store.nodes.Goals as goal

pub returns : goal.returns
returns g c =
    let t = c.args.self.now.engine.table in
    let is = c.nodes.ensures ∙ ap rows c.table.ensures in
    record {
      is = is;
      sound = subst Sound (sym is) (sound_of t);
      few = subst (λ N. length N ≤ 2046) (sym is) (rows_within t);
    }
