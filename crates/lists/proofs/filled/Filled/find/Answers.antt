use Rattle.std.proofs.Common.{◌≡◌, true, false, true≢false, sym, refl, rules}
use Rattle.std.proofs.lemmas.Iterator.{IsFirst-from_position, YieldsList-from_slice}
use Rattle.lists.specs.Items.{items_of}
use Rattle.lists.proofs.Places.{found_first}
use Rattle.lists.proofs.filled.Filled.find.Goals as goal

pub returns : goal.returns
returns g c =
    found_first (items_of c.args.self.now) c.args.wanted.now c.position.result
    (IsFirst-from_position _ _ _ (λ x. x ≡ c.args.wanted.now) (λ x. x ≡ c.args.wanted.now → ⊥) c.position.ensures.ran (YieldsList-from_slice (items_of c.args.self.now) cc)
    (λ x q k. let e : true ≡ g.R.PartialEq.eq x.now c.args.wanted.now = search rules in (g.met.R.Exact.same _ _ true e).0 refl)
    (λ x q k. let e : false ≡ g.R.PartialEq.eq x.now c.args.wanted.now = search rules in
    (search rules, λ s. true≢false (sym ((g.met.R.Exact.same _ _ false e).1 s)))))
