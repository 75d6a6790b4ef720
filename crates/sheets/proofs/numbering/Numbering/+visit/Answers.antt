use Rattle.std.proofs.Common.{◌≡◌, ℕ, suc, ◌+◌, ◌-◌, ◌≢◌, get_or, set, refl, ap, ◌∙◌, arith, length-set}
use Rattle.std.proofs.lemmas.List.{get_or-set_other}
use Rattle.forms.specs.Marks.{zeros}
use Rattle.forms.proofs.Tracks.{zeros_set}
use Rattle.sheets.specs.Visits.{marks_in}
use Rattle.sheets.proofs.Lent.{node_ok}
use Rattle.sheets.proofs.Steps.{pass_end, pass_marked, visit_step, given_is}
use Rattle.sheets.proofs.numbering.Numbering.+visit.Goals as goal
use Rattle.sheets.proofs.numbering.Numbering.+visit.Goals.{After-visit-2}

pub returns-then-n-lt2-clause-is : goal.returns-then-n-lt2-clause-is
returns-then-n-lt2-clause-is t c = λ d h. pass_end d c.args.nodes.rows.now c.args.n _ c.if-n-lt2.true

pub returns-then-self-place-ne0-clause-is : goal.returns-then-self-place-ne0-clause-is
returns-then-self-place-ne0-clause-is t c = λ d h. pass_marked d c.args.nodes.rows.now c.args.n _ c.if-self-place-ne0.true

pub visit-requires : goal.visit-requires
visit-requires t c =
    let ok = node_ok c.args.nodes c.args.n c.if-n-lt2.false c.requires in
    (omega (arith, ok.lo_below, c.if-n-lt2.false, c.decreases), omega (arith, ok.lo_below, c.requires))

pub visit-requires-2 : goal.visit-requires-2
visit-requires-2 t c =
    let ok = node_ok c.args.nodes c.args.n c.if-n-lt2.false c.requires in
    (omega (arith, ok.hi_below, c.if-n-lt2.false, c.decreases), omega (arith, ok.hi_below, c.requires))

-- the node's own place is still free after its branches
free : (t : ℕ) (c : After-visit-2 t) → get_or c.visit-2.new.self.marks (c.args.n - 2) 0 ≡ 0
free t c =
    let ok = node_ok c.args.nodes c.args.n c.if-n-lt2.false c.requires in
    c.visit-2.ensures.above (c.args.n - 2) (omega (arith, ok.hi_below, c.if-n-lt2.false))
    ∙ c.visit.ensures.above (c.args.n - 2) (omega (arith, ok.lo_below, c.if-n-lt2.false))
    ∙ c.if-self-place-ne0.false

-- and its mark is one zero less
less : (t : ℕ) (c : After-visit-2 t) →
    suc (zeros (set c.visit-2.new.self.marks (c.args.n - 2) (c.visit-2.new.self.count + 2))) ≡ zeros c.visit-2.new.self.marks
less t c =
    let v = c.visit-2.new.self in
    let e : v.count + 2 ≡ suc (v.count + 1) = omega arith in
    ap (λ k. suc (zeros (set v.marks (c.args.n - 2) k))) e
    ∙ zeros_set v.marks (c.args.n - 2) (v.count + 1) (omega (arith, c.requires, v.marked, c.args.nodes.few, c.if-n-lt2.false)) (free t c)

pub bounds-self-self : goal.bounds-self-self
bounds-self-self t c = let l = less t (goal.at.bounds-self-self t c).After-visit-2 in omega (arith, c.visit-2.new.self.left)

pub invariant_of-self : goal.invariant_of-self
invariant_of-self t c =
    let v = c.visit-2.new.self in
    let l = less t (goal.at.invariant_of-self t c).After-visit-2 in
    record {
      marked = length-set v.marks (c.args.n - 2) (v.count + 2) ∙ v.marked;
      ordered = length-set v.order v.count c.args.n ∙ v.ordered;
      left = omega (arith, v.left);
    }

pub returns-clause-is : goal.returns-clause-is
returns-clause-is t c =
    let v = c.visit-2.new.self in
    let n = c.args.n in
    let ok = node_ok c.args.nodes n c.if-n-lt2.false c.requires in
    let l = less t (goal.at.returns-clause-is t c).After-visit-2 in
    λ d h.
    visit_step c.args.nodes.rows.now n (marks_in c.args.self.now) (marks_in c.visit.new.self) (marks_in v)
    c.if-n-lt2.false c.if-self-place-ne0.false (omega (arith, ok.lo_below, c.if-n-lt2.false)) (omega (arith, ok.hi_below, c.if-n-lt2.false))
    c.visit.ensures.is c.visit-2.ensures.is d h
    ∙ given_is v.marks v.order n v.count (v.count + 2) c.if-n-lt2.false (omega (arith, v.left, v.ordered)) refl

pub returns-clause-above : goal.returns-clause-above
returns-clause-above t c =
    let v = c.visit-2.new.self in
    let n = c.args.n in
    let ok = node_ok c.args.nodes n c.if-n-lt2.false c.requires in
    λ k h.
    let ne : k ≢ n - 2 = omega (arith, h, c.if-n-lt2.false) in
    get_or-set_other v.marks (n - 2) k (v.count + 2) 0 ne
    ∙ c.visit-2.ensures.above k (omega (arith, h, ok.hi_below, c.if-n-lt2.false))
    ∙ c.visit.ensures.above k (omega (arith, h, ok.lo_below, c.if-n-lt2.false))
