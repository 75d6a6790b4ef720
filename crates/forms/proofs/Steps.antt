-- A sheet is placed line by line. Assumes nothing.
use Rattle.std.proofs.Common.{◌≡◌, ℕ, zero, suc, ◌<◌, List, [], ◌∷◌, ◌++◌, length, get_or, sym, refl, ap, ◌∙◌, arith, length-append}
use native.Mathlib.Decide.{dec_lt}
use lib.ListN.{get_or-append}
use lib.Seq.{get_or-append_seam}
use Rattle.diagrams.specs.declared.Node.{Node}
use Rattle.diagrams.specs.Table.{Exists, Extends, lo_of, hi_of}
use Rattle.diagrams.proofs.Folds.{x_more, y_more}
use Rattle.lists.specs.declared.node_line.NodeLine.{NodeLine}
use Rattle.forms.specs.Visits.{blank}
use Rattle.forms.specs.Marks.{Stands, Placed, taken}
use Rattle.forms.specs.Theorems.{PlacingStands}

lo_more : (N M : List Node) → Extends N M → (n : ℕ) → Exists N n → lo_of M n ≡ lo_of N n
unfolding lo_of
lo_more N M X zero e = refl
lo_more N M X (suc zero) e = refl
lo_more N M X (suc (suc i)) e = ap (λ (a : Node). a.lo) (X.kept i (omega arith))

hi_more : (N M : List Node) → Extends N M → (n : ℕ) → Exists N n → hi_of M n ≡ hi_of N n
unfolding hi_of
hi_more N M X zero e = refl
hi_more N M X (suc zero) e = refl
hi_more N M X (suc (suc i)) e = ap (λ (a : Node). a.hi) (X.kept i (omega arith))

-- a line stands where it stood in a longer table
stands_more : (N M : List Node) → Extends N M → (r : ℕ → ℕ) (n : ℕ) (a : NodeLine) → Stands N r n a → Stands M r n a
stands_more N M X r n a w = record {
  node = w.node;
  there = omega (arith, w.there, X.longer);
  x_is = x_more N M X n w.there ∙ w.x_is;
  y_is = y_more N M X n w.there ∙ w.y_is;
  lo_is = lo_more N M X n w.there ∙ w.lo_is;
  hi_is = hi_more N M X n w.there ∙ w.hi_is;
}

stands_as : (M : List Node) (r q : ℕ → ℕ) (n : ℕ) (a : NodeLine) → q a.lo ≡ r a.lo → q a.hi ≡ r a.hi → Stands M r n a → Stands M q n a
stands_as M r q n a lo hi w = record {
  node = w.node;
  there = w.there;
  x_is = w.x_is;
  y_is = w.y_is;
  lo_is = w.lo_is ∙ sym lo;
  hi_is = w.hi_is ∙ sym hi;
}

taken_more : (rs : List ℕ) (m k : ℕ) → k < suc (suc (length rs)) → taken (rs ++ (m ∷ [])) k ≡ taken rs k
taken_more rs m zero h = refl
taken_more rs m (suc zero) h = refl
taken_more rs m (suc (suc i)) h = get_or-append rs (m ∷ []) 0 i (omega arith)

module _ (N M : List Node) (X : Extends N M) (ls : List NodeLine) (rs : List ℕ) (long : length rs ≡ length ls) (P : Placed N ls (taken rs))
    (a : NodeLine) (m : ℕ) (la : a.lo < suc (suc (length ls))) (ha : a.hi < suc (suc (length ls))) (w : Stands M (taken rs) m a) where
  abbrev more : List NodeLine
  more = ls ++ (a ∷ [])

  abbrev gets : ℕ → ℕ
  gets = taken (rs ++ (m ∷ []))

  end : (i : ℕ) → ¬ (i < length ls) → i < length more → i ≡ length ls
  end i h l = omega (arith, length-append ls (a ∷ []))

  -- what stands at place i
  record Here (i : ℕ) (b : NodeLine) : Type 0 where
    lo_before : b.lo < suc (suc i)
    hi_before : b.hi < suc (suc i)
    stands : Stands M gets (gets (suc (suc i))) b

  here_old : (i : ℕ) → i < length ls → Here i (get_or ls i blank)
  here_old i h =
      let b = get_or ls i blank in
      let lo = P.lo_before i h in
      let hi = P.hi_before i h in
      let o = stands_as M (taken rs) gets (taken rs (suc (suc i))) b (taken_more rs m b.lo (omega arith)) (taken_more rs m b.hi (omega arith))
      (stands_more N M X (taken rs) (taken rs (suc (suc i))) b (P.stands i h)) in
      record { lo_before = lo; hi_before = hi; stands = rw (taken_more rs m (suc (suc i)) (omega arith)) o }

  here_new : Here (length ls) a
  here_new =
      let e : gets (suc (suc (length ls))) ≡ m = ap (λ (k : ℕ). gets (suc (suc k))) (sym long) ∙ get_or-append_seam rs m [] 0 in
      let o = stands_as M (taken rs) gets m a (taken_more rs m a.lo (omega arith)) (taken_more rs m a.hi (omega arith)) w in
      record { lo_before = la; hi_before = ha; stands = rw e o }

  here : (i : ℕ) → Dec (i < length ls) → i < length more → Here i (get_or more i blank)
  here i (yes h) l = rw (get_or-append ls (a ∷ []) blank i h) (here_old i h)
  here i (no h) l = rw (end i h l, get_or-append_seam ls a [] blank) here_new

  step : Placed M more gets
  step = record {
    none_is = refl;
    one_is = refl;
    lo_before = λ i l. (here i (dec_lt i (length ls)) l).lo_before;
    hi_before = λ i l. (here i (dec_lt i (length ls)) l).hi_before;
    stands = λ i l. (here i (dec_lt i (length ls)) l).stands;
  }

pub placing : PlacingStands
placing = record {
  start = λ N. record {
    none_is = refl;
    one_is = refl;
    lo_before = λ i l. absurd (omega arith);
    hi_before = λ i l. absurd (omega arith);
    stands = λ i l. absurd (omega arith);
  };
  step = step;
}
