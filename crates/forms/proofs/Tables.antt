-- The nodes of a sheet are a sound table. Assumes nothing.
use Rattle.std.proofs.Common.{◌≡◌, ℕ, zero, suc, ◌<◌, ◌≤◌, eqb, ◌⊎◌, List, [], ◌∷◌, map, length, get_or, sym, refl, ap, ◌∙◌, inl, inr, le_refl, arith, eqb-true}
use lib.ListN.{length-map, get_or-map}
use Rattle.diagrams.specs.declared.Node.{Node}
use Rattle.diagrams.specs.Level.{level}
use Rattle.diagrams.specs.Table.{blank, at, Exists, x_of, y_of, lo_of, hi_of, level_of, count_of, NodeOk, Same, Sound}
use Rattle.diagrams.proofs.Pushes.{first_here}
use Rattle.forms.specs.Forms.{Form, none, one, branch, form, top_x, top_y, Fits, Well}
use Rattle.forms.specs.Visits.{Sheet, sheet, read}
use Rattle.forms.specs.Visits as visits
use Rattle.forms.specs.Walks.{place_in, given, reached, line_of, sheet_of, node_of, table_of, as_line}
use Rattle.forms.specs.Facts.{Within, Reached}
use Rattle.forms.specs.Marks.{Stands, Placed, taken}
use Rattle.forms.specs.Theorems.{TableOf}
use Rattle.forms.proofs.Unfolds.{form_x, form_well}
use Rattle.forms.proofs.Walks.{sheet_same}
use Rattle.forms.proofs.Decodes.{read_sheet}
use Rattle.forms.proofs.Sheets.{reached_stands, root_known}
use Rattle.forms.proofs.Placings.{placed_form}

map-map : {A B C : Type 0} (f : A → B) (g : B → C) (l : List A) → map g (map f l) ≡ map (λ (a : A). g (f a)) l
map-map f g [] = refl
map-map f g (a ∷ l) = ap (λ (z : List _). g (f a) ∷ z) (map-map f g l)

given_some : (L : List ℕ) (k : ℕ) → 1 ≤ k → 1 ≤ given L k
given_some L zero h = absurd (omega arith)
given_some L (suc zero) h = omega arith
given_some L (suc (suc i)) h = omega arith

pub taken_given : (L : List ℕ) (k : ℕ) → given L k < suc (suc (length L)) → taken L (given L k) ≡ k
taken_given L zero h = refl
taken_given L (suc zero) h = refl
taken_given L (suc (suc i)) h = sym (eqb-true _ _ (first_here (eqb (suc (suc i))) 0 L (omega arith)))

-- a form within another has no larger x
within_x : (g f : Form) → Well f → Within g f → top_x g ≤ top_x f
within_x g none w i = rw i (le_refl _)
within_x g one w i = rw i (le_refl _)
within_x g (branch x y lo hi) w i = by w.0 (within_x g lo w.1.0) (within_x g hi w.1.1) i
  where
    under : (top_x lo < x) ⊎ ((top_x lo ≡ x) × (y < top_y lo)) → top_x lo ≤ x
    under (inl a) = omega arith
    under (inr a) = omega arith

    by : Fits x y lo hi → (Within g lo → top_x g ≤ top_x lo) → (Within g hi → top_x g ≤ top_x hi) →
        (g ≡ branch x y lo hi) ⊎ (Within g lo ⊎ Within g hi) → top_x g ≤ x
    by k a b (inl q) = rw q (le_refl _)
    by k a b (inr (inl q)) = let h = a q in omega (arith, under k.lo_under)
    by k a b (inr (inr q)) = let h = b q in omega (arith, k.hi_under)

module _ (N : List Node) (S : Sound N) (n : ℕ) (e : Exists N n) where
  abbrev L : List ℕ
  L = reached N n

  abbrev T : List Node
  T = map (node_of N L) L

  R : Reached N n L
  R = reached_stands N S n e

  long : length T ≡ length L
  long = length-map L (node_of N L)

  blank_is : node_of N L 0 ≡ blank
  unfolding x_of y_of lo_of hi_of count_of
  blank_is = refl

  at_is : (i : ℕ) → at T i ≡ node_of N L (get_or L i 0)
  at_is i = ap (get_or T i) (sym blank_is) ∙ get_or-map (node_of N L) L i 0

  -- what the new table says of a number is what the old one said
  at_given : (k i : ℕ) → given L k < suc (suc (length L)) → given L k ≡ suc (suc i) → at T i ≡ node_of N L k
  at_given k i h p = at_is i ∙ ap (node_of N L) (ap (taken L) (sym p) ∙ taken_given L k h)

  x_same : (k : ℕ) → given L k < suc (suc (length L)) → x_of T (given L k) ≡ x_of N k
  unfolding x_of
  x_same zero h = refl
  x_same (suc zero) h = refl
  x_same (suc (suc j)) h = ap (λ (a : Node). a.x) (at_given (suc (suc j)) (place_in L (suc (suc j))) h refl)

  level_same : (k : ℕ) → given L k < suc (suc (length L)) → level_of T (given L k) ≡ level_of N k
  unfolding level_of x_of y_of
  level_same zero h = refl
  level_same (suc zero) h = refl
  level_same (suc (suc j)) h = ap (λ (a : Node). level a.x a.y) (at_given (suc (suc j)) (place_in L (suc (suc j))) h refl)

  count_same : (k : ℕ) → given L k < suc (suc (length L)) → count_of T (given L k) ≡ count_of N k
  unfolding count_of
  count_same zero h = refl
  count_same (suc zero) h = refl
  count_same (suc (suc j)) h = ap (λ (a : Node). a.orders) (at_given (suc (suc j)) (place_in L (suc (suc j))) h refl)

  ok_of : (i m : ℕ) → i < length L → 2 ≤ m → Exists N m → given L (lo_of N m) < suc (suc i) → given L (hi_of N m) < suc (suc i) →
      NodeOk T i (node_of N L m)
  unfolding x_of y_of lo_of hi_of count_of
  ok_of i zero l h k a b = absurd (omega arith)
  ok_of i (suc zero) l h k a b = absurd (omega arith)
  ok_of i (suc (suc j)) l h k a b =
      let c = S.ok j (omega arith) in
      record {
        x_max = c.x_max;
        y_min = c.y_min;
        y_below = c.y_below;
        lo_level = rw (level_same (at N j).lo (omega arith)) c.lo_level;
        hi_x = omega (arith, x_same (at N j).hi (omega arith), c.hi_x);
        hi_some = given_some L (at N j).hi c.hi_some;
        lo_below = a;
        hi_below = b;
        counted = omega (arith, count_same (at N j).lo (omega arith), count_same (at N j).hi (omega arith), c.counted);
      }

  ok : (i : ℕ) → i < length T → NodeOk T i (at T i)
  ok i h =
      let l : i < length L = omega (arith, long) in
      rw (at_is i) (ok_of i (get_or L i 0) l (R.nodes i l).0 (R.nodes i l).1 (R.lo_before i l) (R.hi_before i l))

  given_tells : (k m : ℕ) → given L k < suc (suc (length L)) → given L m < suc (suc (length L)) → given L k ≡ given L m → k ≡ m
  given_tells k m h q p = sym (taken_given L k h) ∙ ap (taken L) p ∙ taken_given L m q

  same_of : (a b : ℕ) → 2 ≤ a → 2 ≤ b → Exists N a → Exists N b → x_of N a ≡ x_of N b → y_of N a ≡ y_of N b →
      lo_of N a ≡ lo_of N b → hi_of N a ≡ hi_of N b → a ≡ b
  unfolding x_of y_of lo_of hi_of
  same_of zero b ha hb ea eb p q r s = absurd (omega arith)
  same_of (suc zero) b ha hb ea eb p q r s = absurd (omega arith)
  same_of (suc (suc i)) zero ha hb ea eb p q r s = absurd (omega arith)
  same_of (suc (suc i)) (suc zero) ha hb ea eb p q r s = absurd (omega arith)
  same_of (suc (suc i)) (suc (suc j)) ha hb ea eb p q r s =
      ap (λ (a : ℕ). suc (suc a)) (S.apart i j (omega arith) (omega arith) record { same_x = p; same_y = q; same_lo = r; same_hi = s })

  apart : (i j : ℕ) → i < length T → j < length T → Same (at T i) (at T j) → i ≡ j
  apart i j h q s =
      let l : i < length L = omega (arith, long) in
      let k : j < length L = omega (arith, long) in
      let a = get_or L i 0 in
      let b = get_or L j 0 in
      let t : Same (node_of N L a) (node_of N L b) = rw (at_is i, at_is j) at s in
      let m : a ≡ b = same_of a b (R.nodes i l).0 (R.nodes j k).0 (R.nodes i l).1 (R.nodes j k).1 t.same_x t.same_y
      (given_tells _ _ (omega (arith, R.lo_before i l)) (omega (arith, R.lo_before j k)) t.same_lo)
      (given_tells _ _ (omega (arith, R.hi_before i l)) (omega (arith, R.hi_before j k)) t.same_hi) in
      omega (arith, R.once i l, R.once j k, ap (given L) m)

  sound : Sound T
  sound = record { ok = ok; apart = apart }

  lines_are : map as_line T ≡ map (line_of N L) L
  lines_are = map-map (node_of N L) as_line L

  line_at : (i : ℕ) → get_or (map (line_of N L) L) i visits.blank ≡ line_of N L (get_or L i 0)
  unfolding x_of y_of lo_of hi_of
  line_at i = get_or-map (line_of N L) L i 0

  stands : (i : ℕ) → i < length L → Stands T (λ k. k) (suc (suc i)) (line_of N L (get_or L i 0))
  unfolding x_of y_of lo_of hi_of
  stands i l = record {
    node = omega arith;
    there = omega (arith, long);
    x_is = ap (λ (a : Node). a.x) (at_is i);
    y_is = ap (λ (a : Node). a.y) (at_is i);
    lo_is = ap (λ (a : Node). a.lo) (at_is i);
    hi_is = ap (λ (a : Node). a.hi) (at_is i);
  }

  placed : Placed T (map (line_of N L) L) (λ k. k)
  placed = record {
    none_is = refl;
    one_is = refl;
    lo_before = λ i h. rw (line_at i) (R.lo_before i (omega (arith, length-map L (line_of N L))));
    hi_before = λ i h. rw (line_at i) (R.hi_before i (omega (arith, length-map L (line_of N L))));
    stands = λ i h. rw (line_at i) (stands i (omega (arith, length-map L (line_of N L))));
  }

  -- what is within a set has no larger x
  x_under : (i : ℕ) → i < length T → (at T i).x ≤ x_of N n
  x_under i h =
      let l : i < length L = omega (arith, long) in
      let m = get_or L i 0 in
      let w = within_x (form N m) (form N n) (form_well N S n e) (R.only i l) in
      rw (at_is i) (omega (arith, form_x N S m (R.nodes i l).1, form_x N S n e))

  pub table_stands : TableOf N n
  unfolding sheet_of table_of
  table_stands =
      let s = sheet_of N n in
      let k = root_known N S n e in
      let there : Exists T (given L n) = omega (arith, long) in
      let f : form T (given L n) ≡ form N n =
      placed_form T sound s (λ k. k) placed (omega (arith, length-map L (line_of N L))) ∙ ap read (sheet_same N S n e) ∙ read_sheet (form N n) in
      record {
        sound = sound;
        lines = lines_are;
        there = there;
        root = f;
        count = count_same n k;
        x_most = x_under;
        again = sheet_same T sound (given L n) there ∙ ap sheet f ∙ sym (sheet_same N S n e);
      }
