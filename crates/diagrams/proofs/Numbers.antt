-- Numbers of a table and their nodes, whatever the chain. Assumes nothing.
use Rattle.std.proofs.Common.{◌≡◌, ℕ, zero, suc, ◌-◌, ◌<◌, ◌≤◌, ◌⊎◌, List, length, sym, refl, ◌∙◌, inl, inr, arith}
use native.Mathlib.Decide.{dec_lt}
use Rattle.diagrams.specs.declared.Node.{Node}
use Rattle.diagrams.specs.Level.{level}
use Rattle.diagrams.specs.Table.{at, Exists, x_of, y_of, lo_of, hi_of, level_of, count_of, Sound, NodeOk}
use Rattle.diagrams.specs.Numbers.{Reads}
use Rattle.diagrams.proofs.Levels.{level_most, level_x, level_pos, level_inj, below_by}

two_off : (i : ℕ) → suc (suc i) - 2 ≡ i
two_off i = omega arith

module _ (N : List Node) where
  pub reads : (n : ℕ) → 2 ≤ n → Reads N n (at N (n - 2))
  unfolding x_of y_of lo_of hi_of level_of count_of
  reads zero h = absurd (omega arith)
  reads (suc zero) h = absurd (omega arith)
  reads (suc (suc i)) h = rw (two_off i) record { x_is = refl; y_is = refl; lo_is = refl; hi_is = refl; level_is = refl; count_is = refl }

  pub x_small : (n : ℕ) → n < 2 → x_of N n ≡ 0
  unfolding x_of
  x_small zero h = refl
  x_small (suc zero) h = refl
  x_small (suc (suc i)) h = absurd (omega arith)

  pub level_small : (n : ℕ) → n < 2 → level_of N n ≡ 0
  unfolding level_of
  level_small zero h = refl
  level_small (suc zero) h = refl
  level_small (suc (suc i)) h = absurd (omega arith)

  pub count_small : (n : ℕ) → n < 2 → count_of N n ≡ n
  unfolding count_of
  count_small zero h = refl
  count_small (suc zero) h = refl
  count_small (suc (suc i)) h = absurd (omega arith)

  pub node_ok : Sound N → (n : ℕ) → 2 ≤ n → Exists N n → NodeOk N (n - 2) (at N (n - 2))
  node_ok S n h e = S.ok (n - 2) (omega arith)

  pub level_some : (n : ℕ) → 1 ≤ level_of N n → 2 ≤ n
  unfolding level_of
  level_some zero h = absurd (omega arith)
  level_some (suc zero) h = absurd (omega arith)
  level_some (suc (suc i)) h = omega arith

  pub x_some : (n : ℕ) → 1 ≤ x_of N n → 2 ≤ n
  unfolding x_of
  x_some zero h = absurd (omega arith)
  x_some (suc zero) h = absurd (omega arith)
  x_some (suc (suc i)) h = omega arith

-- what is below a node by its level has a smaller x, or the same x and a greater y
pub top_below : (N : List Node) → Sound N → (n x y : ℕ) → Exists N n → 1 ≤ y → y < x → level_of N n < level x y →
    (x_of N n < x) ⊎ ((x_of N n ≡ x) × (y < y_of N n))
unfolding x_of y_of level_of
top_below N S zero x y e hy hx l = inl (omega arith)
top_below N S (suc zero) x y e hy hx l = inl (omega arith)
top_below N S (suc (suc i)) x y e hy hx l =
    let k = S.ok i (omega arith) in
    below_by (at N i).x (at N i).y x y k.y_min k.y_below hy hx l

module _ (N : List Node) (S : Sound N) where
  -- a node by its number
  pub record Parts (n : ℕ) : Type 0 where
    pub x_max : x_of N n ≤ 16
    pub y_min : 1 ≤ y_of N n
    pub y_below : y_of N n < x_of N n
    pub lo_below : lo_of N n < n
    pub hi_below : hi_of N n < n
    pub hi_some : 1 ≤ hi_of N n
    pub hi_x : x_of N (hi_of N n) < x_of N n
    pub level_is : level_of N n ≡ level (x_of N n) (y_of N n)
    pub lo_level : level_of N (lo_of N n) < level (x_of N n) (y_of N n)

  pub parts : (n : ℕ) → Exists N n → 2 ≤ n → Parts n
  unfolding x_of y_of lo_of hi_of level_of
  parts zero e h = absurd (omega arith)
  parts (suc zero) e h = absurd (omega arith)
  parts (suc (suc i)) e h =
      let l : i < length N = omega arith in
      let k = S.ok i l in
      record {
        x_max = k.x_max;
        y_min = k.y_min;
        y_below = k.y_below;
        lo_below = k.lo_below;
        hi_below = k.hi_below;
        hi_some = k.hi_some;
        hi_x = k.hi_x;
        level_is = refl;
        lo_level = k.lo_level;
      }

  -- only 0 and 1 have level 0
  pub level_zero : (n : ℕ) → Exists N n → level_of N n ≡ 0 → n < 2
  unfolding level_of
  level_zero zero e h = omega arith
  level_zero (suc zero) e h = omega arith
  level_zero (suc (suc i)) e h =
      let k = S.ok i (omega arith) in
      absurd (omega (arith, h, level_pos (at N i).x (at N i).y k.y_below))

  -- two nodes of one level have one top
  pub one_level : (a b : ℕ) → Exists N a → Exists N b → 2 ≤ a → 2 ≤ b → level_of N a ≡ level_of N b → (x_of N a ≡ x_of N b) × (y_of N a ≡ y_of N b)
  one_level a b ea eb ha hb e =
      let p = parts a ea ha in
      let q = parts b eb hb in
      level_inj _ _ _ _ p.y_min p.y_below q.y_min q.y_below (sym p.level_is ∙ e ∙ q.level_is)

  -- beside another number of its level, a number that is not 0 is a node
  pub two_nodes : (a b : ℕ) → Exists N a → Exists N b → ¬ (a ≡ 0) → ¬ (b ≡ 0) → ¬ (a ≡ b) → level_of N a ≡ level_of N b → 2 ≤ a
  two_nodes a b ea eb za zb ne l = by (dec_lt a 2)
    where
      by : Dec (a < 2) → 2 ≤ a
      by (yes h) =
          let q : b < 2 = level_zero b eb (sym l ∙ level_small N a h) in
          absurd (ne (omega arith))
      by (no h) = omega arith

  pub level_max : (n : ℕ) → Exists N n → level_of N n ≤ 120
  unfolding level_of
  level_max zero e = omega arith
  level_max (suc zero) e = omega arith
  level_max (suc (suc i)) e = let k = S.ok i (omega arith) in level_most _ _ k.y_min k.y_below k.x_max

  -- a node's low part has no greater x
  pub lo_x : (n : ℕ) → Exists N n → 2 ≤ n → x_of N (lo_of N n) ≤ x_of N n
  lo_x n e h =
      let p = parts n e h in
      by (top_below N S (lo_of N n) (x_of N n) (y_of N n) (omega arith) p.y_min p.y_below p.lo_level)
    where
      by : (x_of N (lo_of N n) < x_of N n) ⊎ ((x_of N (lo_of N n) ≡ x_of N n) × (y_of N n < y_of N (lo_of N n))) → x_of N (lo_of N n) ≤ x_of N n
      by (inl a) = omega arith
      by (inr a) = omega arith

  pub x_max : (n : ℕ) → Exists N n → x_of N n ≤ 16
  unfolding x_of
  x_max zero e = omega arith
  x_max (suc zero) e = omega arith
  x_max (suc (suc i)) e = (S.ok i (omega arith)).x_max

  -- the parts of a node are of lower level
  pub lo_lower : (n : ℕ) → Exists N n → 2 ≤ n → level_of N (lo_of N n) < level_of N n
  lo_lower n e h = let p = parts n e h in omega (arith, p.lo_level, p.level_is)

  pub hi_lower : (n : ℕ) → Exists N n → 2 ≤ n → level_of N (hi_of N n) < level_of N n
  hi_lower n e h = by (dec_lt (hi_of N n) 2)
    where
      by : Dec (hi_of N n < 2) → level_of N (hi_of N n) < level_of N n
      by (yes l) =
          let p = parts n e h in
          omega (arith, level_small N (hi_of N n) l, p.level_is, level_pos (x_of N n) (y_of N n) p.y_below)
      by (no l) =
          let p = parts n e h in
          let q = parts (hi_of N n) (omega arith) (omega arith) in
          omega (arith, p.level_is, q.level_is, level_x (x_of N (hi_of N n)) (y_of N (hi_of N n)) (x_of N n) (y_of N n) q.y_min q.y_below p.y_below p.hi_x)
