-- Rows of numbers and the orders that they write out. Assumes nothing.
use Rattle.std.proofs.Common.{◌≡◌, ℕ, zero, suc, ◌-◌, ◌^◌, ◌<◌, ◌≤◌, Bool, true, false, not, ◌&&◌, ◌||◌, eqb, List, map, length, get_or, take, sym, refl, ap, ◌∙◌, subst, ap₂, true≢false, arith, get_or-take, eq-eqb, eqb-true, le-leb}
use native.Mathlib.Decide.{dec_lt}
use Rattle.std.specs.List.{range_with_len, AllByRecursion}
use Rattle.std.proofs.lemmas.List.{get_or_default, get_or_past}
use Rattle.std.proofs.ByRecursion.{All-from_get_or}
use Rattle.std.proofs.lemmas.List.FromFn.{length-map-range_with_len, take-map-range_with_len, fill_by_all}
use Rattle.orders.specs.declared.order.Order.{Order}
use Rattle.orders.specs.Digits.{digit}
use Rattle.orders.specs.Packing.{pack-digits}
use Rattle.orders.specs.Orders.{Spreads, place, place_in, place_out, place_piece, place_apart, place_sending, places_tell}
use Rattle.orders.specs.Dimension.{dimension, dimension_moves, dimension_still}
use Rattle.orders.specs.Entries.{Writes, row_of}
use Rattle.orders.specs.Named.{each_to, spreads, spreads_right, sending_by, order}
use Rattle.orders.proofs.Written.{writes, row_at}
use Rattle.books.specs.Rows.{is_row, code_of}

-- a test that passes everywhere
each_all : (n : ℕ) (p : ℕ → Bool) → ((k : ℕ) → 1 ≤ k → k ≤ n → p k ≡ true) → each_to n p ≡ true
unfolding each_to
each_all zero p h = refl
each_all (suc n) p h = ap₂ ◌&&◌ (h (suc n) (omega arith) (omega arith)) (each_all n p (λ k l m. h k l (omega arith)))

apart_so : (a b : Bool) → (b ≡ true → a ≡ true) → a || not b ≡ true
apart_so true b h = refl
apart_so false true h = h refl
apart_so false false h = refl

-- places that spread pass the test
spreads_so : (f : ℕ → ℕ) → Spreads f → spreads f ≡ true
unfolding spreads
spreads_so f s =
    each_all 16 _ (λ k l h.
    let w = s.inside k l h in
    ap₂ ◌&&◌ (le-leb 1 (f k) w.0) (ap₂ ◌&&◌ (le-leb (f k) 16 w.1)
    (each_all 16 _ (λ m lm hm. apart_so (eqb k m) (eqb (f k) (f m)) (λ e. eq-eqb k m (s.apart k m l h lm hm (eqb-true (f k) (f m) e)))))))

sending_place : (f : ℕ → ℕ) (b : Bool) (e : spreads f ≡ b) → b ≡ true → (k : ℕ) → 1 ≤ k → k ≤ 16 → place (sending_by f b e) k ≡ f k
unfolding sending_by
sending_place f true e t k l h = place_sending f (spreads_right f e) k l h
sending_place f false e t k l h = absurd (true≢false (sym t))

-- the order of a row has the row's places
order_place : (row : List ℕ) → is_row row ≡ true → (k : ℕ) → 1 ≤ k → k ≤ 16 → place (order row) k ≡ get_or row (k - 1) k
unfolding is_row order
order_place row e k l h = sending_place (λ k. get_or row (k - 1) k) (spreads (λ k. get_or row (k - 1) k)) refl e k l h

-- an order that moves only the first n pieces is written out by their places
pub front_writes : (row : List ℕ) (n : ℕ) (o : Order) → 1 ≤ n → n ≤ 16 → ((j : ℕ) → j < n → place o (suc j) ≡ get_or row j 0) → ((k : ℕ) → n < k → place o k ≡ k) → Writes row n o
front_writes row n o some few places rest =
    writes row n (digit o.code) few
    (λ j h. let d = place_in o j (omega arith) in (omega (arith, d, low j h), omega (arith, d, places j h)))
    (λ j l h. omega (arith, place_in o j h, rest (suc j) (omega arith)))
    o (sym (pack-digits 16 o.code o.fits)) some
  where
    low : (j : ℕ) → j < n → place o (suc j) ≤ n
    low j h = elim (dec_lt n (place o (suc j))) [
      | yes l ↦ omega (arith, place_apart o (suc j) (place o (suc j)) (sym (rest (place o (suc j)) l)))
      | no l ↦ omega (arith, l)
    ]

beyond_still : (o : Order) (n : ℕ) → ((k : ℕ) → n < k → k ≤ 16 → place o k ≡ k) → (k : ℕ) → n < k → place o k ≡ k
beyond_still o n h k l = elim (dec_lt 16 k) [ yes m ↦ place_out o k m | no m ↦ h k l (omega (arith, m)) ]

-- a row that passes question 3 writes out its order
pub row_writes : (row : List ℕ) → 1 ≤ length row → length row ≤ 16 → is_row row ≡ true → Writes row (length row) (order row)
row_writes row some few whole =
    front_writes row (length row) (order row) some few
    (λ j h. order_place row whole (suc j) (omega arith) (omega arith) ∙ at j h)
    (beyond_still (order row) (length row) (λ k l h. order_place row whole k (omega arith) h ∙ get_or_past row (k - 1) k (omega arith)))
  where
    at : (j : ℕ) → j < length row → get_or row (suc j - 1) (suc j) ≡ get_or row j 0
    at j h = let less : suc j - 1 ≡ j = omega arith in rw less (get_or_default row j (suc j) 0 h)

-- a row that writes out an order passes, and it is the row's order
module _ (row : List ℕ) (o : Order) (w : Writes row (length row) o) where
  as_place : (k : ℕ) → 1 ≤ k → k ≤ 16 → get_or row (k - 1) k ≡ place o k
  as_place zero l h = absurd (omega arith)
  as_place (suc j) l h =
      let less : suc j - 1 ≡ j = omega arith in
      rw less (elim (dec_lt j (length row)) [
        | yes m ↦ get_or_default row j (suc j) 0 m ∙ sym (w.places j m)
        | no m ↦ get_or_past row j (suc j) (omega (arith, m)) ∙ sym (w.rest (suc j) (omega (arith, m)))
      ])

  pub written_row : is_row row ≡ true
  unfolding is_row
  written_row = spreads_so (λ k. get_or row (k - 1) k) record {
    inside = λ k l h. omega (arith, as_place k l h, place_piece o k l h);
    apart = λ k m lk hk lm hm e. place_apart o k m (sym (as_place k lk hk) ∙ e ∙ as_place m lm hm);
  }

  pub written_order : order row ≡ o
  written_order = places_tell (order row) o (λ k l h. order_place row written_row k l h ∙ as_place k l h)

  pub written_code : code_of row ≡ o.code
  unfolding code_of
  written_code = ap (λ (a : Order). a.code) written_order

-- a row that writes out none does not pass
pub unwritten_row : (row : List ℕ) → 1 ≤ length row → length row ≤ 16 → ((o : Order) → Writes row (length row) o → ⊥) → is_row row ≡ false
unwritten_row row some few none = by (is_row row) refl
  where
    by : (b : Bool) → is_row row ≡ b → b ≡ false
    by true e = absurd (none (order row) (row_writes row some few e))
    by false e = refl

-- the first n places of an order
module _ (o : Order) (n : ℕ) (some : 1 ≤ n) (few : n ≤ 16) where
  front_is : take n (row_of o) ≡ map (λ j. place o (suc j)) (range_with_len 0 n)
  unfolding row_of
  front_is = take-map-range_with_len (λ j. place o (suc j)) 0 16 n few

  pub front_length : length (take n (row_of o)) ≡ n
  front_length = ap length front_is ∙ length-map-range_with_len (λ j. place o (suc j)) 0 n

  front_at : (j : ℕ) → j < n → get_or (take n (row_of o)) j 0 ≡ place o (suc j)
  front_at j h = get_or-take n (row_of o) j 0 h ∙ row_at o j (omega arith)

  pub front_row : dimension o ≤ n → Writes (take n (row_of o)) (length (take n (row_of o))) o
  front_row d =
      subst (λ m. Writes (take n (row_of o)) m o) (sym front_length)
      (front_writes (take n (row_of o)) n o some few (λ j h. sym (front_at j h)) (λ k l. dimension_still o k (omega arith)))

  pub front_values : AllByRecursion (λ v. v < 10 ^ 14) (take n (row_of o))
  front_values = All-from_get_or (λ v. v < 10 ^ 14) (take n (row_of o)) 0 (λ j h.
      let l : j < n = omega (arith, front_length) in
      omega (arith, front_at j l, place_piece o (suc j) (omega arith) (omega arith)))

-- the row of the order that is written out
pub written_front : (row : List ℕ) (o : Order) → Writes row (length row) o → take (length row) (row_of o) ≡ row
written_front row o w =
    front_is o (length row) w.some w.few
    ∙ sym (fill_by_all (λ j. place o (suc j)) row (length row) 0 refl (λ j h. sym (w.places j h)))

pub written_dimension : (row : List ℕ) (o : Order) → Writes row (length row) o → dimension o ≤ length row
written_dimension row o w = elim (dec_lt (length row) (dimension o)) [
  | yes l ↦ absurd (dimension_moves o (omega (arith, l)) (w.rest (dimension o) l))
  | no l ↦ omega (arith, l)
]
