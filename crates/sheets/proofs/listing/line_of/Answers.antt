use Rattle.std.proofs.Common.{sym, ap, ◌∙◌}
use Rattle.forms.specs.Marks.{taken}
use Rattle.diagrams.proofs.Numbers.{reads}
use Rattle.sheets.proofs.listing.line_of.Goals as goal

pub returns : goal.returns
returns c =
    let r = reads c.args.nodes.rows.now c.args.n c.requires.node in
    let ms = c.args.marks.now in
    λ i. record {
      x = (c.from.ensures ∙ sym r.x_is) i;
      y = (c.from-2.ensures ∙ sym r.y_is) i;
      lo = (c.from-4.ensures ∙ c.number_of.ensures ∙ ap (taken ms) (c.from-3.ensures ∙ sym r.lo_is)) i;
      hi = (c.from-6.ensures ∙ c.number_of-2.ensures ∙ ap (taken ms) (c.from-5.ensures ∙ sym r.hi_is)) i;
    }
