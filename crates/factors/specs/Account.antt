-- What the account says of each line. Assumes nothing.
use Rattle.std.specs.Prelude.{◌≡◌, ℕ, ◌+◌, ◌-◌, ◌^◌, min, Bool, true, false, ◌⊎◌, List, [], ◌∷◌, ◌++◌, length, codes, decimal}
use Rattle.orders.specs.Entries.{Writes}
use Rattle.orders.specs.Dimension.{dimension}
use Rattle.orders.specs.Tables.{swap, rotation}
use Rattle.orders.specs.Factors.{factor_pairs}
use Rattle.orders.specs.declared.order.Order.{Order}
use Rattle.orders.specs.declared.refusal.Refusal.{Refusal}
use Rattle.orders.specs.declared.refusal.Refusal.TheVariants.{BadRow}
use Rattle.lines.specs.Format.{written, Values, Without}

-- the first line of a text is cut off; the last line may have no end
pub record Cut (text line rest : List ℕ) : Type 0 where
  pub parts : (text ≡ line ++ 10 ∷ rest) ⊎ ((text ≡ line) × (rest ≡ []))
  pub one : Without 10 line

-- the line is the row of the order
abbrev pub Row : List ℕ → Order → Type 0
Row line o = (ns : List ℕ) × Values ns × (line ≡ written ns) × Writes ns (length ns) o

-- the line is the row of no order
pub record NoRow (line : List ℕ) (e : Refusal) : Type 0 where
  pub why : e ≡ BadRow
  pub none : (o : Order) → Row line o → ⊥

-- one factor, after one blank, if there is one
abbrev pub factor_text : ℕ → ℕ → Bool → List ℕ
factor_text x y true = codes " (" ++ (decimal x ++ (codes "," ++ (decimal y ++ codes ")")))
factor_text x y false = []

abbrev pub factor_list : List (ℕ × ℕ) → List ℕ
factor_list [] = []
factor_list ((x, y) ∷ rest) = factor_text x y true ++ factor_list rest

-- and `none` where there is none
abbrev pub or_none : List ℕ → List ℕ
or_none [] = codes " none"
or_none (b ∷ bs) = b ∷ bs

abbrev pub factors_text : List (ℕ × ℕ) → List ℕ
factors_text ps = or_none (factor_list ps)

-- an order's dimension, and its factors by both chains
abbrev pub account : Order → List ℕ
account o = codes "dimension " ++ (decimal (dimension o) ++ (codes "; swaps" ++ (factors_text (factor_pairs swap o) ++ (codes "; rotations" ++ factors_text (factor_pairs rotation o)))))

-- a count that stops at the largest number of 64 bits
abbrev pub counted : ℕ → ℕ
counted n = min n (2 ^ 64 - 1)

-- What is told of a line after so many orders and so many refused, and how many there are then: the account of its order, or that it is refused.
abbrev pub Told : List ℕ → ℕ → ℕ → ℕ → ℕ → List ℕ → Type 0
Told line orders refused orders' refused' told =
    ((o : Order) × Row line o × (orders' ≡ counted (orders + 1)) × (refused' ≡ refused)
    × (told ≡ decimal (counted (orders' + refused')) ++ (codes ": " ++ (account o ++ 10 ∷ []))))
    ⊎ (((o : Order) → Row line o → ⊥) × (orders' ≡ orders) × (refused' ≡ counted (refused + 1))
    × (told ≡ decimal (counted (orders' + refused')) ++ (codes ": refused 3" ++ 10 ∷ [])))

-- the last line: how many were orders, and how many were refused
abbrev pub ending : ℕ → ℕ → List ℕ
ending orders refused = decimal orders ++ (codes " orders, " ++ (decimal refused ++ (codes " refused" ++ 10 ∷ [])))
