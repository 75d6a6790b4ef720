use Rattle.std.proofs.Common.{suc, sym, ap, ◌∙◌, subst, arith}
use Rattle.forms.specs.Marks.{Marks, Marked, mark}
use Rattle.forms.proofs.Tracks.{marks_stand}
use Rattle.sheets.proofs.Lent.{sound_in}
use Rattle.sheets.proofs.visit.numbered.Goals as goal

pub returns-clause-visit : goal.returns-clause-visit
returns-clause-visit c =
    let N = c.args.nodes.rows.now in
    let root = c.args.root in
    subst (Marked N root)
    (ap (λ (s : Marks). mark (suc root) N root s) (sym c.none-numbering.ensures) ∙ c.visit.ensures.is (suc root) (omega arith))
    (marks_stand N (sound_in c.args.nodes) root c.requires 2046 c.args.nodes.few (suc root) (omega arith))
