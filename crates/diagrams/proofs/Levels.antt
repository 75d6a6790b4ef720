-- The order of levels. Assumes nothing.
use Rattle.std.proofs.Common.{◌≡◌, ℕ, zero, suc, ◌+◌, ◌-◌, ◌*◌, ◌/◌, ◌<◌, ◌≤◌, ◌⊎◌, refl, ap, inl, inr, le_refl, arith}
use native.Mathlib.Decide.{dec_lt}
use Rattle.diagrams.specs.Level.{level}

tri : ℕ → ℕ
tri x = (x - 1) * (x - 2) / 2

tri_eq : (t : ℕ) → tri (suc (suc t)) ≡ suc t * t / 2
unfolding tri
tri_eq t =
    let p : suc (suc t) - 1 ≡ suc t = omega arith in
    let q : suc (suc t) - 2 ≡ t = omega arith in
    rw (p, q)

-- twice a triangle
tri_suc : (x : ℕ) → tri (suc (suc x)) ≡ tri (suc x) + x
tri_suc zero = unfold tri in refl
tri_suc (suc t) = omega (arith, tri_eq t, tri_eq (suc t))

tri_mono : (x d : ℕ) → tri (suc x) ≤ tri (suc (d + x))
tri_mono x zero = let e : suc (0 + x) ≡ suc x = omega arith in rw e (le_refl _)
tri_mono x (suc d) =
    let e : suc (suc d + x) ≡ suc (suc (d + x)) = omega arith in
    rw e (omega (arith, tri_suc (d + x), tri_mono x d))

tri_up : (x z : ℕ) → 1 ≤ x → x < z → tri x + (x - 1) ≤ tri z
tri_up zero z l h = omega arith
tri_up (suc x) z l h =
    let e : suc ((z - suc (suc x)) + suc x) ≡ z = omega arith in
    let m : tri (suc (suc x)) ≤ tri z = rw e at (tri_mono (suc x) (z - suc (suc x))) in
    omega (arith, tri_suc x)

level_is : (x y : ℕ) → level x y ≡ tri x + (x - y)
unfolding level tri
level_is x y = refl

-- a greater x is above a smaller
pub level_x : (x y z w : ℕ) → 1 ≤ y → y < x → w < z → x < z → level x y < level z w
level_x x y z w h k l m =
    let j : 1 ≤ x = omega arith in
    omega (arith, level_is x y, level_is z w, tri_up x z j m)

-- at one x, a smaller y is above
pub level_y : (x y w : ℕ) → y < x → w < y → level x y < level x w
level_y x y w h k = omega (arith, level_is x y, level_is x w)

pub level_pos : (x y : ℕ) → y < x → 1 ≤ level x y
level_pos x y h = omega (arith, level_is x y)

-- what is below by its level has a smaller x, or the same x and a greater y
pub below_by : (x y z w : ℕ) → 1 ≤ y → y < x → 1 ≤ w → w < z → level x y < level z w → (x < z) ⊎ ((x ≡ z) × (w < y))
below_by x y z w hy hx hw hz l = by (dec_lt x z) (dec_lt z x)
  where
    same : x ≡ z → Dec (w < y) → (x < z) ⊎ ((x ≡ z) × (w < y))
    same e (yes h) = inr (e, h)
    same e (no h) = absurd (go (dec_lt y w))
      where
        go : Dec (y < w) → ⊥
        go (yes k) = omega (arith, level_y z w y hz k, ap (λ (t : ℕ). level t y) e)
        go (no k) = let f : y ≡ w = omega arith in omega (arith, ap (λ (t : ℕ). level t y) e, ap (level z) f)

    by : Dec (x < z) → Dec (z < x) → (x < z) ⊎ ((x ≡ z) × (w < y))
    by (yes h) d = inl h
    by (no h) (yes k) = absurd (omega (arith, level_x z w x y hw hz hx k))
    by (no h) (no k) = same (omega arith) (dec_lt w y)

-- a level is of one pair
pub level_inj : (x y z w : ℕ) → 1 ≤ y → y < x → 1 ≤ w → w < z → level x y ≡ level z w → (x ≡ z) × (y ≡ w)
level_inj x y z w hy hx hw hz e = by (dec_lt x z) (dec_lt z x)
  where
    same : x ≡ z → Dec (y < w) → Dec (w < y) → (x ≡ z) × (y ≡ w)
    same q (yes h) d = absurd (omega (arith, e, level_y z w y hz h, ap (λ (t : ℕ). level t y) q))
    same q (no h) (yes k) = absurd (omega (arith, e, level_y x y w hx k, ap (λ (t : ℕ). level t w) q))
    same q (no h) (no k) = (q, omega arith)

    by : Dec (x < z) → Dec (z < x) → (x ≡ z) × (y ≡ w)
    by (yes h) d = absurd (omega (arith, level_x x y z w hy hx hz h))
    by (no h) (yes k) = absurd (omega (arith, level_x z w x y hw hz hx k))
    by (no h) (no k) = same (omega arith) (dec_lt y w) (dec_lt w y)

-- a pair has a place in a table of 120
pub slot_within : (x y : ℕ) → 1 ≤ y → y < x → x ≤ 16 → (x - 1) * (x - 2) / 2 + (y - 1) < 120
unfolding tri
slot_within x y a b c = omega (arith, tri_up x 17 (omega arith) (omega arith))

pub level_most : (x y : ℕ) → 1 ≤ y → y < x → x ≤ 16 → level x y ≤ 120
unfolding tri
level_most x y a b c = omega (arith, level_is x y, tri_up x 17 (omega arith) (omega arith))
