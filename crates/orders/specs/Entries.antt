-- When a row of numbers is an order written out, and the row and the code of an order.
-- Assumes nothing.
use Rattle.std.specs.Prelude.{◌≡◌, ℕ, suc, ◌<◌, ◌≤◌, List, map, Option, MatchOption, ◌≢◌, slice_index}
use Rattle.std.specs.List.{range_with_len}
use Rattle.orders.specs.Orders.{place}
use Rattle.orders.specs.declared.order.Order.{Order}
use Rattle.orders.specs.declared.refusal.Refusal.{Refusal}
use Rattle.orders.specs.declared.refusal.Refusal.TheVariants.{BadRow}

-- What is made of a bare number: the order with that code, or nothing where there is none.
abbrev pub Made : ℕ → Option Order → Type 0
Made c r = MatchOption r ((o : Order) → o.code ≢ c) (λ o. o.code ≡ c)

-- The row of an order: the place of each piece, in the pieces' order.
unfoldable pub row_of : Order → List ℕ
row_of o = map (λ j. place o (suc j)) (range_with_len 0 16)

-- the first len entries are numbers from 1 to len
abbrev pub Within : List ℕ → ℕ → Type 0
Within row len = (j : ℕ) → j < len → (1 ≤ slice_index row j) × (slice_index row j ≤ len)

-- and no two of them are equal
abbrev pub Once : List ℕ → ℕ → Type 0
Once row len = (i j : ℕ) → i < len → j < len → slice_index row i ≡ slice_index row j → i ≡ j

-- and so each number from 1 to len is one of them
abbrev pub Held : List ℕ → ℕ → Type 0
Held row len = (v : ℕ) → 1 ≤ v → v ≤ len → (j : ℕ) × (j < len) × (slice_index row j ≡ v)

-- The order that a row of len entries writes out: piece k goes to the entry k, counted from 1, and what is beyond the row stands still.
pub record Writes (row : List ℕ) (len : ℕ) (o : Order) : Type 0 where
  pub some : 1 ≤ len
  pub few : len ≤ 16
  pub within : Within row len
  pub once : Once row len
  pub held : Held row len
  pub places : (j : ℕ) → j < len → place o (suc j) ≡ slice_index row j
  pub rest : (k : ℕ) → len < k → place o k ≡ k

-- A row that is refused writes out no order.
pub record Refused (row : List ℕ) (len : ℕ) (e : Refusal) : Type 0 where
  pub why : e ≡ BadRow
  pub none : (o : Order) → Writes row len o → ⊥
