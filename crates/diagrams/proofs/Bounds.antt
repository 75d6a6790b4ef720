-- A count is at most the number of all orders of sixteen pieces. Assumes nothing.
use Rattle.std.proofs.Common.{◌≡◌, ℕ, zero, suc, ◌+◌, ◌-◌, ◌*◌, ◌^◌, ◌<◌, ◌≤◌, ◌⊎◌, List, refl, inl, inr, le_trans, le_refl, mul-le-mul_right, arith}
use Rattle.diagrams.specs.declared.Node.{Node}
use Rattle.diagrams.specs.Counting.{factorial}
use Rattle.diagrams.specs.Table.{at, Exists, x_of, y_of, count_of, Sound, NodeOk}
use Rattle.diagrams.proofs.Numbers.{x_some, top_below, x_max}

fact_pos : (n : ℕ) → 1 ≤ factorial n
unfolding factorial
fact_pos zero = omega arith
fact_pos (suc n) = omega (arith, fact_pos n)

fact_suc : (n : ℕ) → factorial (suc n) ≡ suc n * factorial n
unfolding factorial
fact_suc n = refl

fact_mono : (a d : ℕ) → factorial a ≤ factorial (d + a)
fact_mono a zero = let e : 0 + a ≡ a = omega arith in rw e (le_refl _)
fact_mono a (suc d) =
    let e : suc d + a ≡ suc (d + a) = omega arith in
    rw e (omega (arith, fact_suc (d + a), fact_mono a d))

fact_le : (a b : ℕ) → a ≤ b → factorial a ≤ factorial b
fact_le a b h = let e : (b - a) + a ≡ b = omega arith in rw e at (fact_mono a (b - a))

-- as many as x may go to, from y up, times the orders of what is below x
most : ℕ → ℕ → ℕ
most x y = (suc x - y) * factorial (x - 1)

most_is : (x y : ℕ) → most x y ≡ (suc x - y) * factorial (x - 1)
unfolding most
most_is x y = refl

most_fact : (x y : ℕ) → 1 ≤ y → y < x → most x y ≤ factorial x
most_fact zero y a b = absurd (omega arith)
most_fact (suc x) y a b =
    let e : suc x - 1 ≡ x = omega arith in
    let m : (suc (suc x) - y) * factorial x ≤ suc x * factorial x = mul-le-mul_right (factorial x) (omega arith) in
    rw (most_is (suc x) y, e, fact_suc x) m

record Bounded (N : List Node) (n : ℕ) : Type 0 where
  by_top : 2 ≤ n → count_of N n ≤ most (x_of N n) (y_of N n)
  by_x : count_of N n ≤ factorial (x_of N n)

module _ (N : List Node) (S : Sound N) where
  bounded_deep : (b n : ℕ) → n < b → Exists N n → Bounded N n
  unfolding x_of y_of count_of
  bounded_deep zero n h e = absurd (omega arith)
  bounded_deep (suc b) zero h e = record { by_top = λ q. absurd (omega arith); by_x = omega (arith, fact_pos 0) }
  bounded_deep (suc b) (suc zero) h e = record { by_top = λ q. absurd (omega arith); by_x = fact_pos 0 }
  bounded_deep (suc b) (suc (suc i)) h e =
      let k = S.ok i (omega arith) in
      let t = node_most k (bounded_deep b (at N i).lo (omega arith) (omega arith)) (bounded_deep b (at N i).hi (omega arith) (omega arith)) in
      record { by_top = λ _. t; by_x = le_trans t (most_fact (at N i).x (at N i).y k.y_min k.y_below) }
    where
      x : ℕ
      x = (at N i).x

      y : ℕ
      y = (at N i).y

      low : NodeOk N i (at N i) → Bounded N (at N i).lo → (x_of N (at N i).lo < x) ⊎ ((x_of N (at N i).lo ≡ x) × (y < y_of N (at N i).lo)) →
          count_of N (at N i).lo ≤ (x - y) * factorial (x - 1)
      low k r (inl l) =
          let one : 1 * factorial (x - 1) ≤ (x - y) * factorial (x - 1) = mul-le-mul_right (factorial (x - 1)) (omega (arith, k.y_below)) in
          omega (arith, r.by_x, fact_le (x_of N (at N i).lo) (x - 1) (omega arith))
      low k r (inr l) =
          let two = x_some N (at N i).lo (omega (arith, k.y_below)) in
          let t : count_of N (at N i).lo ≤ (suc x - y_of N (at N i).lo) * factorial (x - 1) = rw (l.0, most_is) at (r.by_top two) in
          le_trans t (mul-le-mul_right (factorial (x - 1)) (omega arith))

      node_most : NodeOk N i (at N i) → Bounded N (at N i).lo → Bounded N (at N i).hi → (at N i).orders ≤ most x y
      node_most k r s =
          let d : suc x - y ≡ suc (x - y) = omega (arith, k.y_below) in
          let t = low k r (top_below N S (at N i).lo x y (omega arith) k.y_min k.y_below k.lo_level) in
          let u = fact_le (x_of N (at N i).hi) (x - 1) (omega arith) in
          rw (most_is x y, d) (omega (arith, s.by_x, k.counted))

  -- at most as many as sixteen pieces have
  pub count_within : (n : ℕ) → Exists N n → count_of N n ≤ factorial 16
  count_within n e = le_trans (bounded_deep (suc n) n (omega arith) e).by_x (fact_le (x_of N n) 16 (x_max N S n e))

  pub count_max : (n : ℕ) → Exists N n → count_of N n ≤ 20922789888000
  unfolding factorial
  count_max n e = count_within n e

  -- the counts of two numbers fit in 64 bits together
  pub count_sum : (n m : ℕ) → Exists N n → Exists N m → count_of N n + count_of N m < 2 ^ 64
  count_sum n m en em = omega (arith, count_max n en, count_max m em)
