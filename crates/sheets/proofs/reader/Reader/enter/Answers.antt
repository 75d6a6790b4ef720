use Rattle.std.proofs.Common.{sym, ap, ◌∙◌, arith}
use Rattle.lists.specs.Items.{items_of}
use Rattle.tables.specs.Rows.{rows}
use Rattle.sheets.specs.Checks.{tabled, grown, keeps}
use Rattle.sheets.specs.Reading.{branch_line}
use Rattle.sheets.proofs.Entries.{tabled_push, kept_in, made, added}
use Rattle.sheets.proofs.reader.Reader.enter.Goals as goal

pub node-requires-clause-asks : goal.node-requires-clause-asks
node-requires-clause-asks c =
    let s = c.args.self.now in
    let keep = ap (keeps s.pieces (rows s.table)) c.requires.branch ∙ c.requires.keeps in
    (kept_in s.pieces (rows s.table) (items_of s.lines.now) (branch_line c.args.branch) s.tabled c.requires.room keep).1.asks

pub unwrap-requires : goal.unwrap-requires
unwrap-requires c =
    let s = c.args.self.now in
    let keep = ap (keeps s.pieces (rows s.table)) c.requires.branch ∙ c.requires.keeps in
    let k = kept_in s.pieces (rows s.table) (items_of s.lines.now) (branch_line c.args.branch) s.tabled c.requires.room keep in
    (made (rows s.table) (rows c.node.new.self) (branch_line c.args.branch) c.node.result k.1 k.0 (c.node.ensures 0)).0

pub invariant_of-self : goal.invariant_of-self
invariant_of-self c =
    let s = c.args.self.now in
    let N = rows s.table in
    let ls = items_of s.lines.now in
    let b = branch_line c.args.branch in
    let keep = ap (keeps s.pieces N) c.requires.branch ∙ c.requires.keeps in
    let k = kept_in s.pieces N ls b s.tabled c.requires.room keep in
    let e = added s.lines.now c.add.new.self c.args.line c.add.result c.add.ensures.answer (omega (arith, c.requires.room, s.room)) in
    record {
      tabled = (made N (rows c.node.new.self) b c.node.result k.1 k.0 (c.node.ensures 0)).1
          ∙ ap (grown N) c.requires.branch ∙ ap (λ M. grown M c.args.line) s.tabled ∙ sym (tabled_push ls c.args.line) ∙ ap tabled (sym e.0);
      room = omega (arith, e.1, s.room);
    }
