use Rattle.std.proofs.Common.{None, ◌∙◌, arith}
use Rattle.std.proofs.lemmas.List.{get_or_read}
use Rattle.catalogue.specs.Racks.{slots_of}
use Rattle.catalogue.proofs.Slots.{found_there, some_within, took}
use Rattle.catalogue.proofs.rack.Rack.take.Goals as goal

pub index_mut-requires : goal.index_mut-requires
index_mut-requires c =
    let s = slots_of c.args.self.now in
    let there = found_there (λ x. x.now) s c.args.claim c.find.result c.find.ensures c.if-is_none.ensures in
    let v = c.args.self.now.slots in
    omega (arith, some_within s c.args.claim.peg _ there, v.ok.0)

pub returns : goal.returns
returns c =
    let s = slots_of c.args.self.now in
    let peg = c.args.claim.peg in
    let there = found_there (λ x. x.now) s c.args.claim c.find.result c.find.ensures c.if-is_none.ensures in
    let out = c.take.ensures.value ∙ get_or_read s peg _ (some_within s peg _ there) c.index_mut.ensures.value None in
    took s c.args.claim c.take.result c.take.new.self _ there (out ∙ there) c.take.ensures.after
