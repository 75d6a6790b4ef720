-- Worked examples, computed from the definitions. Assumes nothing.
use Rattle.std.specs.Prelude.{◌≡◌, ℕ, Bool, true, false, ◌&&◌, List, [], ◌∷◌, take, ◌==◌}
use Rattle.orders.specs.Orders.{then}
use Rattle.orders.specs.Entries.{row_of}
use Rattle.orders.specs.Tables.{swap, rotation}
use Rattle.orders.specs.Factors.{factor_pairs}
use Rattle.orders.specs.Named.{order}

-- two lists of numbers are equal
abbrev pub equal : List ℕ → List ℕ → Bool
equal [] [] = true
equal [] (w ∷ ws) = false
equal (v ∷ vs) [] = false
equal (v ∷ vs) (w ∷ ws) = v == w && equal vs ws

-- pairs, written out one after the other
abbrev pub flat : List (ℕ × ℕ) → List ℕ
flat [] = []
flat ((x, y) ∷ rest) = x ∷ y ∷ flat rest

-- each example: what the definitions give, and what it has to be
unfoldable pub table : List (List ℕ × List ℕ)
table =
    -- (3,1,2) and then (3,2,1) is (1,3,2), and the other way round (2,1,3)
    (take 3 (row_of (then (order (3 ∷ 1 ∷ 2 ∷ [])) (order (3 ∷ 2 ∷ 1 ∷ [])))), 1 ∷ 3 ∷ 2 ∷ [])
    ∷ (take 3 (row_of (then (order (3 ∷ 2 ∷ 1 ∷ [])) (order (3 ∷ 1 ∷ 2 ∷ [])))), 2 ∷ 1 ∷ 3 ∷ [])
    -- (3,1,4,2) has the swap factors (4,2), (3,2), (2,1) and the rotation factors (4,2), (2,1)
    ∷ (flat (factor_pairs swap (order (3 ∷ 1 ∷ 4 ∷ 2 ∷ []))), 4 ∷ 2 ∷ 3 ∷ 2 ∷ 2 ∷ 1 ∷ [])
    ∷ (flat (factor_pairs rotation (order (3 ∷ 1 ∷ 4 ∷ 2 ∷ []))), 4 ∷ 2 ∷ 2 ∷ 1 ∷ [])
    ∷ []

-- every example of a table holds
abbrev pub hold : List (List ℕ × List ℕ) → Bool
hold [] = true
hold ((found, due) ∷ rest) = equal found due && hold rest

abbrev pub Examples : Type 0
Examples = hold table ≡ true
