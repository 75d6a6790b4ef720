-- A table's array, and the list of its nodes. Assumes nothing.
use Rattle.std.proofs.Common.{◌≡◌, ℕ, zero, suc, ◌+◌, ◌-◌, ◌<◌, ◌≤◌, List, [], ◌∷◌, ◌++◌, length, take, set, sym, refl, ap, ◌∙◌, add-one, arith, length-take-le, get_or-take, take-suc-set}
use native.Mathlib.Decide.{dec_lt}
use Rattle.orders.specs.Chains.{Pair}
use Rattle.diagrams.specs.declared.Node.{Node}
use Rattle.diagrams.specs.Level.{level}
use Rattle.diagrams.specs.Table.{at, blank, x_of, y_of, lo_of, hi_of, level_of, count_of, Exists, Sound}
use Rattle.diagrams.specs.Rules.{Asks}
use Rattle.diagrams.specs.Bodies.{row}
use Rattle.diagrams.proofs.Props.{sound_out}
use Rattle.diagrams.proofs.Numbers.{x_small, level_small, parts}
use Rattle.tables.specs.declared.table.Table.{Table}
use Rattle.tables.specs.Rows.{rows}

-- a table's nodes are sound
pub sound_of : (t : Table) → Sound (rows t)
unfolding rows
sound_of t = sound_out (take t.len t.nodes) t.sound

-- so is no node at all
pub none_sound : Sound []
none_sound = record { ok = λ i l. absurd (omega arith); apart = λ i j l q s. absurd (omega arith) }

pub length_rows : (t : Table) → length (rows t) ≡ t.len
unfolding rows
length_rows t = length-take-le t.len t.nodes (omega (arith, t.long, t.within))

-- there is never more than the room
pub rows_within : (t : Table) → length (rows t) ≤ 2046
rows_within t = omega (arith, length_rows t, t.within)

pub at_rows : (t : Table) (i : ℕ) → i < t.len → at (rows t) i ≡ at t.nodes i
unfolding rows
at_rows t i h = get_or-take t.len t.nodes i blank h

-- one more node written after the first k
pub take_more : (L : List Node) (k : ℕ) (a : Node) → k < length L → take (k + 1) (set L k a) ≡ take k L ++ (a ∷ [])
take_more L k a h = ap (λ n. take n (set L k a)) (add-one k) ∙ take-suc-set L k a h

pub row_zero : (N : List Node) → row N 0 ≡ record { x = 0; y = 0; lo = 0; hi = 0; orders = 0 }
unfolding x_of y_of lo_of hi_of count_of
row_zero N = refl

pub row_one : (N : List Node) → row N 1 ≡ record { x = 0; y = 0; lo = 0; hi = 0; orders = 1 }
unfolding x_of y_of lo_of hi_of count_of
row_one N = refl

pub row_rest : (N : List Node) (n : ℕ) → 2 ≤ n → row N n ≡ at N (n - 2)
unfolding x_of y_of lo_of hi_of count_of
row_rest N zero h = absurd (omega arith)
row_rest N (suc zero) h = absurd (omega arith)
row_rest N (suc (suc i)) h = let e : suc (suc i) - 2 ≡ i = omega arith in rw e refl

level_row : (N : List Node) (n : ℕ) → level_of N n ≡ level (row N n).x (row N n).y
unfolding level_of x_of y_of level
level_row N zero = refl
level_row N (suc zero) = refl
level_row N (suc (suc i)) = refl

level_read : (N : List Node) (n : ℕ) (p : Node) → p ≡ row N n → level p.x p.y ≡ level_of N n
level_read N n p e = ap (λ (q : Node). level q.x q.y) e ∙ sym (level_row N n)

-- the level that the table of levels has for a row
pub level_kept : (N : List Node) (n : ℕ) (p : Node) (r : ℕ) → (Pair p.x p.y → r ≡ level p.x p.y) → ((Pair p.x p.y → ⊥) → r ≡ 0)
    → Sound N → Exists N n → p ≡ row N n → r ≡ level_of N n
level_kept N n p r pair other S e is = by (dec_lt n 2)
  where
    by : Dec (n < 2) → r ≡ level_of N n
    by (yes h) = other (λ q. omega (arith, q, ap (λ (a : Node). a.x) is, x_small N n h)) ∙ sym (level_small N n h)
    by (no h) =
        let k = parts N S n e (omega arith) in
        pair (omega (arith, k.y_min, ap (λ (a : Node). a.y) is), omega (arith, k.y_below, ap (λ (a : Node). a.x) is, ap (λ (a : Node). a.y) is), omega (arith, k.x_max, ap (λ (a : Node). a.x) is))
        ∙ level_read N n p is

-- what `node` asks for, by the rows that were read
pub asks_read : (N : List Node) (x y lo hi : ℕ) (q : Node) → q ≡ row N hi → x ≤ 16 → 1 ≤ y → y < x
    → Exists N lo → Exists N hi → level_of N lo < level x y → q.x < x → Asks N x y lo hi
asks_read N x y lo hi q high x_max y_min y_below lo_there hi_there deep small = record {
  x_max = x_max;
  y_min = y_min;
  y_below = y_below;
  lo_there = lo_there;
  hi_there = hi_there;
  lo_level = deep;
  hi_x = rw high at small;
}
