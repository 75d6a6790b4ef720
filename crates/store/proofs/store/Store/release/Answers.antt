use Rattle.std.proofs.Common.{set, None, refl, ap, ◌∙◌, zero-le, arith, length-set}
use Rattle.store.specs.Views.{view, with_pegs}
use Rattle.store.specs.Steps.{released, released_by}
use Rattle.store.proofs.Racks.{pegged_set, none_there, held_fine}
use Rattle.store.proofs.store.Store.release.Goals as goal

pub bounds-self-peg : goal.bounds-self-peg
bounds-self-peg g c = let h = c.args.hold in omega (arith, held_fine (view c.args.self.now) h.mark h.peg _ c.in_default.ensures, c.spend-peg.ensures)

pub offset_bounds-self-peg : goal.offset_bounds-self-peg
offset_bounds-self-peg g c = let h = c.args.hold in omega (arith, held_fine (view c.args.self.now) h.mark h.peg _ c.in_default.ensures, c.spend-peg.ensures)

pub invariant_of-self : goal.invariant_of-self
invariant_of-self g c =
    let s = c.args.self.now in
    let w = view s in
    record { long = rw length-set s.long; roomed = s.roomed; pegged = pegged_set w.nodes s.pegs c.spend-peg.result None s.pegged (none_there w.nodes) }

pub returns : goal.returns
returns g c =
    let w = view c.args.self.now in
    let h = c.args.hold in
    record {
      after = ap (λ p. (with_pegs w (set w.pegs p None), released)) c.spend-peg.ensures ∙ ap (released_by w h) c.in_default.ensures;
      most = zero-le;
      just = λ never. refl;
    }
