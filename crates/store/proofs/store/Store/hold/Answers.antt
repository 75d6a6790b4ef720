use Rattle.std.proofs.Common.{◌≡◌, set, Some, None, sym, refl, ap, ◌∙◌, zero-le, arith, length-set}
use Rattle.diagrams.specs.Table.{Exists}
use Rattle.store.specs.Views.{view, with_pegs}
use Rattle.store.specs.Questions.{handle_asked, peg_asked, or_else}
use Rattle.store.specs.Steps.{After, held, holds, unless, step}
use Rattle.store.proofs.Holds.{holds_stand}
use Rattle.store.proofs.Worked.{accepted, handle_there}
use Rattle.store.proofs.Racks.{pegged_set, some_there, peg_fine}
use Rattle.store.proofs.store.Store.hold.Goals as goal

pub bounds-self-peg : goal.bounds-self-peg
bounds-self-peg g c = peg_fine (view c.args.self.now) c.args.peg (accepted _ _ _ c.in_ok-is_free.ensures).0

pub offset_bounds-self-peg : goal.offset_bounds-self-peg
offset_bounds-self-peg g c = omega (arith, peg_fine (view c.args.self.now) c.args.peg (accepted _ _ _ c.in_ok-is_free.ensures).0)

pub invariant_of-self : goal.invariant_of-self
invariant_of-self g c =
    let s = c.args.self.now in
    let w = view s in
    let yes = accepted _ _ _ c.in_ok-number.ensures in
    let there : Exists w.nodes c.in_ok-number.number = rw yes.1 (handle_there w c.args.handle yes.0).1 in
    record {
      long = rw length-set s.long;
      roomed = s.roomed;
      pegged = pegged_set w.nodes s.pegs c.args.peg (Some c.in_ok-number.number) s.pegged (λ n e. some_there w.nodes _ n there e);
    }

pub returns : goal.returns
returns g c =
    let s = c.args.self.now in
    let w = view s in
    let h = c.args.handle in
    let p = c.args.peg in
    let t = g.G.Chain.table in
    let yes = accepted _ _ _ c.in_ok-number.ensures in
    let free = accepted _ _ _ c.in_ok-is_free.ensures in
    let fine : or_else (handle_asked w h) (peg_asked w p) ≡ None = ap (λ a. or_else a (peg_asked w p)) yes.0 ∙ free.0 in
    let v = with_pegs w (set w.pegs p (Some c.in_ok-number.number)) in
    let after : ◌≡◌ {A = After} (v, held (record { mark = c.mark.result; peg = p })) (step t w (holds h p)) =
    (λ i. (with_pegs w (set w.pegs p (Some (yes.1 i))), held (record { mark = c.mark.ensures i; peg = p })))
    ∙ sym (ap (λ a. unless a w (with_pegs w (set w.pegs p (Some h.number)), held (record { mark = w.plan.mark; peg = p }))) fine) in
    record {
      does = record {
        after = after;
        most = zero-le;
        just = λ never. refl;
      };
      given = (holds_stand t).given w v s.long h p (record { mark = c.mark.result; peg = p }) after;
    }
