use Rattle.std.proofs.Common.{◌≡◌, ℕ, ◌<◌, ◌≢◌, Bool, true, false, true≢false, sym, refl, ap, ◌∙◌, MatchBool, arith, rules}
use borrow.Author.Tests.{tests}
use Rattle.std.proofs.lemmas.Iterator.{cases_from_any, YieldsList-from_range}
use Rattle.std.proofs.lemmas.Bool.{false≢true}
use native.Mathlib.Decide.{dec_lt}
use Rattle.orders.specs.Digits.{digit}
use Rattle.orders.specs.Orders.{digits_apart}
use Rattle.orders.proofs.Runs.{any_below}
use Rattle.orders.proofs.order.Order.from_code.Goals as goal
use Rattle.orders.proofs.order.Order.from_code.Goals.{After-any}

when_true : (P Q : Type 0) (r : Bool) → MatchBool r P Q → r ≡ true → P
when_true P Q true h e = h
when_true P Q false h e = absurd (false≢true e)

when_false : (P Q : Type 0) (r : Bool) → MatchBool r P Q → r ≡ false → Q
when_false P Q true h e = absurd (true≢false e)
when_false P Q false h e = h

-- some digit stands at an earlier place too, or none does
twice : (c : After-any) → MatchBool c.any.result
    ((j : ℕ) × (j < 16) × ((i : ℕ) × (i < j) × (digit c.args.code i ≡ digit c.args.code j)))
    ((j : ℕ) → j < 16 → (i : ℕ) → i < j → digit c.args.code i ≢ digit c.args.code j)
twice c =
    any_below _ _ 16 c.any.result
    (cases_from_any _ _ _ (λ j. (i : ℕ) × (i < j) × (digit c.args.code i ≡ digit c.args.code j)) (λ j. (i : ℕ) → i < j → digit c.args.code i ≢ digit c.args.code j)
    c.any.ensures.ran (YieldsList-from_range 0 16 16 refl refl)
    (λ x q k. search (rules, tests)) (λ x q k. search (rules, tests)))

-- two digits are equal, and an order has none such
pub returns-then-any : goal.returns-then-any
returns-then-any c o e =
    let found = when_true _ _ c.any.result (twice (goal.at.returns-then-any c).After-any) c.if-any.true in
    let j = found.0 in
    let i = found.2.0 in
    let same : digit o.code i ≡ digit o.code j = ap (λ (n : ℕ). digit n i) e ∙ found.2.2 ∙ sym (ap (λ (n : ℕ). digit n j) e) in
    omega (arith, found.2.1, digits_apart o i j (omega (arith, found.1, found.2.1)) found.1 same)

pub invariant_of-result-clause-apart : goal.invariant_of-result-clause-apart
invariant_of-result-clause-apart c =
    let none = when_false _ _ c.any.result (twice (goal.at.invariant_of-result-clause-apart c).After-any) c.if-any.false in
    λ i j h. elim (dec_lt i j) [
      | yes l ↦ absurd (none j h.1 i l h.2)
      | no l ↦ elim (dec_lt j i) [ yes m ↦ absurd (none i h.0 j m (sym h.2)) | no m ↦ omega (arith, l, m) ]
    ]
