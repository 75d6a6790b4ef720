use Rattle.std.proofs.Common.{◌≡◌, ◌<◌, [], ◌∷◌, ◌++◌, length, set, None, Option, sym, refl, ap, ◌∙◌, subst, arith}
use Rattle.store.specs.declared.hold.Hold.{Hold}
use Rattle.store.specs.Views.{View, view, with_pegs}
use Rattle.catalogue.specs.Racks.{Slots, Holding}
use Rattle.catalogue.proofs.Racking.{taken_back}
use Rattle.catalogue.proofs.Emptying.{gone_none, last_held, gone_some, none_pegged, only_pegs, none_left}
use Rattle.catalogue.proofs.rack.Rack.give_back.Goals as goal

pub loop-slot-init : goal.loop-slot-init
loop-slot-init g c = let v = c.args.self.slots in record { few = omega (arith, v.ok.0, c.requires.long); each = c.requires.each; only = refl }

-- what the slots were before the last was taken
before : (w : View) (L L' : Slots) (o x : Option Hold) → L ≡ L' ++ o ∷ [] → o ≡ x → Holding w L → Holding w (L' ++ x ∷ [])
before w L L' o x e f k = subst (λ (y : Option Hold). Holding w (L' ++ y ∷ [])) f (subst (λ (S : Slots). Holding w S) e k)

pub give_back-requires : goal.give_back-requires
give_back-requires g c =
    let s = c.loop-slot.store in
    let v = c.pop.new.self in
    let L = v.items in
    let lt : length L < 64 = omega (arith, v.ok.0, c.in-Some.ensures.cases, c.loop-slot.invariant.few) in
    let k = before (view s) c.loop-slot.rest.items L _ _ c.in-Some.ensures.items c.in-Some-slot.is c.loop-slot.invariant.each in
    (last_held (view s) L c.in-Some-slot.hold k s.long lt).held

pub loop-slot-preserved-in-Some-slot : goal.loop-slot-preserved-in-Some-slot
loop-slot-preserved-in-Some-slot g c =
    let s = c.loop-slot.store in
    let w = view s in
    let t = view c.give_back.new.self in
    let v = c.pop.new.self in
    let L = v.items in
    let d = c.in-Some-slot.hold in
    let lt : length L < 64 = omega (arith, v.ok.0, c.in-Some.ensures.cases, c.loop-slot.invariant.few) in
    let k = before w c.loop-slot.rest.items L _ _ c.in-Some.ensures.items c.in-Some-slot.is c.loop-slot.invariant.each in
    let last = last_held w L d k s.long lt in
    let after : t ≡ with_pegs w (set w.pegs (length L) None) =
    taken_back g.G.Chain.table w t d last.held.0 last.held.1 c.give_back.ensures.after ∙ ap (λ p. with_pegs w (set w.pegs p None)) last.peg in
    record {
      few = omega (arith, c.in-Some.ensures.cases, c.loop-slot.invariant.few);
      each = subst (λ (x : View). Holding x L) (sym after) (gone_some w L d k s.long lt);
      only = only_pegs (view c.args.store.now) w t (set w.pegs (length L) None) c.loop-slot.invariant.only after;
    }

pub loop-slot-preserved : goal.loop-slot-preserved
loop-slot-preserved g c =
    let w = view c.loop-slot.store in
    let L = c.pop.new.self.items in
    record {
      few = omega (arith, c.in-Some.ensures.cases, c.loop-slot.invariant.few);
      each = gone_none w L (before w c.loop-slot.rest.items L _ _ c.in-Some.ensures.items c.in-None.is c.loop-slot.invariant.each);
      only = c.loop-slot.invariant.only;
    }

pub returns : goal.returns
returns g c =
    let s = c.loop-slot.store in
    let v = c.loop-slot.rest in
    let nil = none_left v.items (omega (arith, v.ok.0, c.in_default.ensures.cases.0)) in
    c.loop-slot.invariant.only ∙ ap (with_pegs (view c.args.store.now)) (none_pegged (view s) s.long (subst (λ (L : Slots). Holding (view s) L) nil c.loop-slot.invariant.each))
