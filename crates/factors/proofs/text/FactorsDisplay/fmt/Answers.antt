use Rattle.std.proofs.Common.{◌≡◌, ◌+◌, true, subst, ap, ◌++◌, [], ◌∷◌, length, sym, refl, ◌∙◌, inl, inr, arith, rules, length-append}
use Rattle.std.proofs.lemmas.List.{take_all}
use Rattle.std.proofs.Output.{has_written_append, has_written_of_eq}
use Rattle.orders.specs.Factors.{pairs_in}
use Rattle.factors.specs.Account.{factor_text, factor_list}
use Rattle.factors.proofs.Texts.{Flag, below_front, factor_put, none_put, none_written, some_written}
use Rattle.factors.proofs.text.FactorsDisplay.fmt.Goals as goal

pub loop-j-init : goal.loop-j-init
loop-j-init g c =
    let row = c.args.self.now.row in
    let rest = c.into_iter-j-iterator.result.iter.iter.rest.now in
    let all : rest ≡ row = search rules in
    let long : length row ≡ 16 = search rules in (
      [],
      rw all (sym (take_all (length row) row (omega arith))),
      (λ p. search rules),
      ap (λ l. factor_list (pairs_in row (length l))) all ∙ ap (λ n. factor_list (pairs_in row n)) long,
      inl (refl, refl),
      search rules,
    )

pub loop-j-preserved-then-y-x : goal.loop-j-preserved-then-y-x
loop-j-preserved-then-y-x g c =
    let inv = c.loop-j.invariant in
    let bs = inv.0 in
    let row = c.args.self.now.row in
    let rest = c.loop-j.j-iterator.iter.iter.rest.now in
    let below = c.next.new.self.iter.iter.rest.now in
    let y = c.in-Some.y.now in
    let cut = c.in-Some.ensures.steps.1.0 in
    let at : c.in-Some.j + 1 ≡ length rest = omega (arith, c.in-Some.ensures.steps.1.1, inv.5, ap length cut, length-append below (y ∷ [])) in (
      bs ++ factor_text (length rest) y true,
      below_front row rest below y inv.1 cut bs inv.3,
      (λ p. has_written_of_eq _ _ _ _ _ (ap (λ x. bs ++ factor_text x y true) at) (has_written_append _ _ _ _ _ _ (inv.2 p) (c.in_ok-write.ensures.writes (inv.2 p).plain refl))),
      factor_put row rest below y inv.1 cut bs inv.3 (omega (arith, at, c.if-y-x.true)),
      inr (refl, omega (arith, length-append bs (factor_text (length rest) y true))),
      c.in-Some.ensures.steps.0 ∙ inv.5,
    )

pub loop-j-preserved : goal.loop-j-preserved
loop-j-preserved g c =
    let inv = c.loop-j.invariant in
    let bs = inv.0 in
    let row = c.args.self.now.row in
    let rest = c.loop-j.j-iterator.iter.iter.rest.now in
    let below = c.next.new.self.iter.iter.rest.now in
    let y = c.in-Some.y.now in
    let cut = c.in-Some.ensures.steps.1.0 in
    let at : c.in-Some.j + 1 ≡ length rest = omega (arith, c.in-Some.ensures.steps.1.1, inv.5, ap length cut, length-append below (y ∷ [])) in (
      bs,
      below_front row rest below y inv.1 cut bs inv.3,
      inv.2,
      none_put row rest below y inv.1 cut bs inv.3 (omega (arith, at, c.if-y-x.false)),
      inv.4,
      c.in-Some.ensures.steps.0 ∙ inv.5,
    )

pub returns-in_ok-write-2-clause-writes : goal.returns-in_ok-write-2-clause-writes
returns-in_ok-write-2-clause-writes g c p ok =
    let inv = c.loop-j.invariant in
    has_written_of_eq _ _ _ _ _ (none_written c.args.self.now.row c.loop-j.j-iterator.iter.iter.rest.now inv.0 (search rules) inv.3 (subst (λ b. Flag b inv.0) c.if-none.true inv.4))
    (has_written_append _ _ _ _ _ _ (inv.2 p) (c.in_ok-write-2.ensures.writes (inv.2 p).plain refl))

pub returns-else-none-clause-writes : goal.returns-else-none-clause-writes
returns-else-none-clause-writes g c p ok =
    let inv = c.loop-j.invariant in
    has_written_of_eq _ _ _ _ _ (some_written c.args.self.now.row c.loop-j.j-iterator.iter.iter.rest.now inv.0 (search rules) inv.3 (subst (λ b. Flag b inv.0) c.if-none.false inv.4)) (inv.2 p)
