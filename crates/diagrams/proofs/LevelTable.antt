-- The table of levels keeps the rule of levels: one test over the whole table. Assumes nothing.
use Rattle.std.proofs.Common.{◌≡◌, ℕ, zero, suc, ◌+◌, ◌-◌, ◌*◌, ◌/◌, ◌<◌, ◌≤◌, Bool, true, false, ◌&&◌, T, eqb, List, [], ◌∷◌, ◌++◌, get_or, arith, eqb→eq}
use native.Mathlib.Decide.{ℕ_discrete}
use Rattle.diagrams.specs.Level.{level}

-- whether f passes at each number below n
all_below : (ℕ → Bool) → ℕ → Bool
all_below f zero = true
all_below f (suc n) = f n && all_below f n

and_left : (a b : Bool) → T (a && b) → T a
and_left true b t = tt
and_left false b t = t

and_right : (a b : Bool) → T (a && b) → T b
and_right true b t = t
and_right false b t = absurd t

all_at : (f : ℕ → Bool) (n : ℕ) → T (all_below f n) → (k : ℕ) → k < n → T (f k)
unfolding all_below
all_at f zero t k h = absurd (omega arith)
all_at f (suc n) t k h = by (all_at f n (and_right (f n) (all_below f n) t) k) (ℕ_discrete k n)
  where
    by : (k < n → T (f k)) → Dec (k ≡ n) → T (f k)
    by rest (yes e) = rw e (and_left (f n) (all_below f n) t)
    by rest (no e) = rest (omega arith)

-- the levels of (x, 1), .. (x, n)
unfoldable pub row : ℕ → ℕ → List ℕ
row x zero = []
row x (suc n) = row x n ++ (level x (suc n) ∷ [])

-- the levels of all pairs up to x, one x after the other
unfoldable pub rows : ℕ → List ℕ
rows zero = []
rows (suc x) = rows x ++ row (suc x) x

-- whether the level of x and y + 1 stands at its place
right : ℕ → ℕ → Bool
right x y = eqb (get_or (rows 16) ((x - 1) * (x - 2) / 2 + y) 0) (level x (suc y))

all_right : T (all_below (λ x. all_below (right x) (x - 1)) 17)
unfolding all_below right rows row level
all_right = tt

pub listed : (x y : ℕ) → 1 ≤ y → y < x → x ≤ 16 → get_or (rows 16) ((x - 1) * (x - 2) / 2 + (y - 1)) 0 ≡ level x y
unfolding right
listed x zero a b c = absurd (omega arith)
listed x (suc y) a b c =
    let e : suc y - 1 ≡ y = omega arith in
    rw e (eqb→eq _ _ (all_at (right x) (x - 1) (all_at (λ x. all_below (right x) (x - 1)) 17 all_right x (omega arith)) y (omega arith)))
