use Rattle.std.proofs.Common.{length, take, ap, ◌∙◌, arith, length-take-le}
use Rattle.sheets.specs.Visits.{marks_in}
use Rattle.sheets.proofs.Lent.{sound_in}
use Rattle.sheets.proofs.Listings.{listing_none, listing_more, listing_all, listed_node}
use Rattle.sheets.proofs.listing.list_lines.Goals as goal

pub loop-n-init : goal.loop-n-init
loop-n-init c =
    let v = c.numbered-visit.result in
    listing_none c.args.nodes.rows.now v.marks (take v.count v.order) c.clear.new.self c.clear.ensures.items

pub line_of-requires : goal.line_of-requires
line_of-requires c =
    let v = c.numbered-visit.result in
    let n = listed_node c.args.nodes.rows.now (sound_in c.args.nodes) c.args.root c.requires.within (marks_in v) c.numbered-visit.ensures.visit c.loop-n.n-index c.loop-n-test.true in
    record { node = n.0; within = n.1 }

pub loop-n-preserved : goal.loop-n-preserved
loop-n-preserved c =
    let v = c.numbered-visit.result in
    let few = length-take-le v.count v.order (omega (arith, v.left, v.ordered)) in
    listing_more c.args.nodes.rows.now v.marks (take v.count v.order) c.clear.new.self c.loop-n.lines c.add.new.self c.loop-n.n-index c.line_of.result c.add.result c.loop-n.invariant
    c.loop-n-test.true (omega (arith, v.left, ap length c.clear.ensures.room, c.requires.room)) c.line_of.ensures c.add.ensures.answer c.add.ensures.lender

pub returns : goal.returns
returns c =
    let v = c.numbered-visit.result in
    record {
      items = listing_all c.args.nodes.rows.now v.marks (take v.count v.order) c.clear.new.self c.loop-n.lines c.loop-n.n-index c.args.root c.loop-n.invariant c.loop-n-test.false
          c.numbered-visit.ensures.visit;
      lent = record {
        lender = c.loop-n.invariant.lent.lender ∙ c.clear.ensures.lender;
        long = c.loop-n.invariant.lent.long ∙ ap length c.clear.ensures.room;
      };
    }
