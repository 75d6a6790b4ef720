-- Marks made node by node are the numbers of the visit. Assumes nothing.
use Prim.{tt}
use Rattle.std.proofs.Common.{◌≡◌, ℕ, zero, suc, ◌+◌, ◌<◌, ◌≤◌, Bool, true, false, eqb, ltb, ◌⊎◌, List, [], ◌∷◌, ◌++◌, map, length, get_or, set, replicate, sym, refl, ap, ◌∙◌, subst, ap₂, inl, inr, arith, length-append, length-set, ltb-false, ltb-true, eq-eqb, eqb-true}
use native.Mathlib.Decide.{dec_lt}
use lib.ListN.{length-map, length-replicate, get_or-replicate}
use Rattle.std.proofs.lemmas.List.{get_or-set_same, get_or-set_other, ext_get_or, get_or-map}
use borrow.Author.Tests.{eqb-false}
use Rattle.diagrams.specs.declared.Node.{Node}
use Rattle.diagrams.specs.Rules.{first}
use Rattle.diagrams.specs.Table.{at, Exists, x_of, y_of, lo_of, hi_of, Sound}
use Rattle.diagrams.proofs.Numbers.{parts}
use Rattle.forms.specs.Forms.{branch, form}
use Rattle.forms.specs.Visits.{blank, place, add_by, visit}
use Rattle.forms.specs.Walks.{place_in, given, walk, reached, line_of, sheet_of}
use Rattle.forms.specs.Marks.{taken, Marks, zeros, unmarked, line_by, give, mark_by, mark, Marked}
use Rattle.forms.proofs.Firsts.{first_append, first_new, first_last}
use Rattle.forms.proofs.Unfolds.{form_node}
use Rattle.forms.proofs.Walks.{Each, walk_each, walk_forms, place_same}
use Rattle.forms.proofs.Visits.{fresh}
use Rattle.forms.proofs.Sheets.{reached_stands, root_known}

-- two numbers are one or not
one_or_two : (i j : ℕ) → Dec (i ≡ j)
one_or_two i j = by (dec_lt i j) (dec_lt j i)
  where
    by : Dec (i < j) → Dec (j < i) → Dec (i ≡ j)
    by (yes h) d = no (λ e. omega arith)
    by (no h) (yes k) = no (λ e. omega arith)
    by (no h) (no k) = yes (omega arith)

-- depth beyond the number changes nothing
walk_deep : (N : List Node) → Sound N → (c d n : ℕ) (seen : List ℕ) → n < c → n < d → Exists N n → walk c N n seen ≡ walk d N n seen
unfolding walk
walk_deep N S zero d n seen h k e = absurd (omega arith)
walk_deep N S (suc c) zero n seen h k e = absurd (omega arith)
walk_deep N S (suc c) (suc d) zero seen h k e = refl
walk_deep N S (suc c) (suc d) (suc zero) seen h k e = refl
walk_deep N S (suc c) (suc d) (suc (suc i)) seen h k e =
    let b = S.ok i (omega arith) in
    let p = walk_deep N S c d (at N i).lo seen (omega arith) (omega arith) (omega arith) in
    let q = walk_deep N S c d (at N i).hi (walk d N (at N i).lo seen) (omega arith) (omega arith) (omega arith) in
    ap (λ (z : List ℕ). add_by (ltb (place_in seen (suc (suc i))) (length seen)) seen z (suc (suc i))) (ap (walk c N (at N i).hi) p ∙ q)

pub zeros_set : (ms : List ℕ) (i v : ℕ) → i < length ms → get_or ms i 0 ≡ 0 → suc (zeros (set ms i (suc v))) ≡ zeros ms
zeros_set [] i v l e = absurd (omega arith)
zeros_set (zero ∷ ms) zero v l e = refl
zeros_set (suc m ∷ ms) zero v l e = absurd (omega arith)
zeros_set (zero ∷ ms) (suc i) v l e = ap suc (zeros_set ms i v (omega arith) e)
zeros_set (suc m ∷ ms) (suc i) v l e = zeros_set ms i v (omega arith) e

pub zeros_all : (n : ℕ) → zeros (replicate n 0) ≡ n
zeros_all zero = refl
zeros_all (suc n) = ap suc (zeros_all n)

-- the marks are the numbers that the visit L gives, in room for so many
record Tracks (N : List Node) (size : ℕ) (L : List ℕ) (s : Marks) : Type 0 where
  room : length N ≤ size
  long : length s.marks ≡ size
  order_is : s.order ≡ L
  marked : (i : ℕ) → i < length N → place_in L (suc (suc i)) < length L → get_or s.marks i 0 ≡ given L (suc (suc i))
  free : (i : ℕ) → i < length N → length L ≤ place_in L (suc (suc i)) → get_or s.marks i 0 ≡ 0
  left : zeros s.marks + length L ≡ size

-- one node more
module _ (N : List Node) (size : ℕ) (L : List ℕ) (s : Marks) (T : Tracks N size L s) (i : ℕ) (l : i < length N)
    (new : length L ≤ place_in L (suc (suc i))) where
  abbrev more : List ℕ
  more = L ++ (suc (suc i) ∷ [])

  more_length : length more ≡ suc (length L)
  more_length = length-append L (suc (suc i) ∷ []) ∙ omega arith

  count : length s.order ≡ length L
  count = ap length T.order_is

  last_place : place_in more (suc (suc i)) ≡ length L
  last_place = first_new (eqb (suc (suc i))) L (suc (suc i)) new (eq-eqb (suc (suc i)) (suc (suc i)) refl)

  other : (j : ℕ) → ¬ (j ≡ i) → get_or (give i s).marks j 0 ≡ get_or s.marks j 0
  other j h = get_or-set_other s.marks i j (suc (suc (length s.order))) 0 h

  marked_at : (j : ℕ) → Dec (j ≡ i) → j < length N → place_in more (suc (suc j)) < length more → get_or (give i s).marks j 0 ≡ given more (suc (suc j))
  marked_at j (yes e) h p =
      rw e (get_or-set_same s.marks i (suc (suc (length s.order))) 0 (omega (arith, T.long, T.room))
      ∙ ap (λ (k : ℕ). suc (suc k)) (count ∙ sym last_place))
  marked_at j (no e) h p = by (first_last (eqb (suc (suc j))) L (suc (suc i)) (omega (arith, more_length)))
    where
      by : (place_in L (suc (suc j)) < length L) ⊎ (eqb (suc (suc j)) (suc (suc i)) ≡ true) → get_or (give i s).marks j 0 ≡ given more (suc (suc j))
      by (inl a) = other j e ∙ T.marked j h a ∙ ap (λ (k : ℕ). suc (suc k)) (sym (first_append (eqb (suc (suc j))) L (suc (suc i) ∷ []) a))
      by (inr a) = let q : suc (suc j) ≡ suc (suc i) = eqb-true _ _ a in absurd (e (omega arith))

  free_at : (j : ℕ) → Dec (j ≡ i) → Dec (place_in L (suc (suc j)) < length L) → j < length N → length more ≤ place_in more (suc (suc j)) →
      get_or (give i s).marks j 0 ≡ 0
  free_at j (yes e) d h p =
      let q : place_in more (suc (suc j)) ≡ length L = rw e last_place in
      absurd (omega (arith, more_length))
  free_at j (no e) (yes a) h p = absurd (omega (arith, more_length, first_append (eqb (suc (suc j))) L (suc (suc i) ∷ []) a))
  free_at j (no e) (no a) h p = other j e ∙ T.free j h (omega arith)

  give_tracks : Tracks N size more (give i s)
  give_tracks = record {
    room = T.room;
    long = length-set s.marks i (suc (suc (length s.order))) ∙ T.long;
    order_is = ap (λ (z : List ℕ). z ++ (suc (suc i) ∷ [])) T.order_is;
    marked = λ j h p. marked_at j (one_or_two j i) h p;
    free = λ j h p. free_at j (one_or_two j i) (dec_lt (place_in L (suc (suc j))) (length L)) h p;
    left = omega (arith, zeros_set s.marks i (suc (length s.order)) (omega (arith, T.long, T.room)) (T.free i l new), more_length, T.left);
  }

module _ (N : List Node) (S : Sound N) where
  part_there_lo : (m : ℕ) → 2 ≤ m → Exists N m → Exists N (lo_of N m)
  part_there_lo m h e = let p = parts N S m e h in omega arith

  part_there_hi : (m : ℕ) → 2 ≤ m → Exists N m → Exists N (hi_of N m)
  part_there_hi m h e = let p = parts N S m e h in omega arith

  -- a node that was not reached is not reached by the visit of its parts
  fresh_in : (d i : ℕ) (seen : List ℕ) → suc i < d → i < length N → Each N seen → length seen ≤ place_in seen (suc (suc i)) →
      length (walk d N (at N i).hi (walk d N (at N i).lo seen)) ≤ place_in (walk d N (at N i).hi (walk d N (at N i).lo seen)) (suc (suc i))
  fresh_in d i seen h l E old =
      let n = suc (suc i) in
      let k = S.ok i l in
      let en : Exists N n = omega arith in
      let F = map (form N) seen in
      let M = walk d N (at N i).lo seen in
      let K = walk d N (at N i).hi M in
      let EM : Each N M = walk_each N S d (at N i).lo seen (omega arith) E in
      let EK : Each N K = walk_each N S d (at N i).hi M (omega arith) EM in
      let u = form_node N S i l in
      let p : map (form N) K ≡ visit (form N (at N i).hi) (visit (form N (at N i).lo) F) =
      walk_forms N S d (at N i).hi M (omega arith) (omega arith) EM
      ∙ ap (visit (form N (at N i).hi)) (walk_forms N S d (at N i).lo seen (omega arith) (omega arith) E) in
      let before : place F (branch (at N i).x (at N i).y (form N (at N i).lo) (form N (at N i).hi)) ≡ place_in seen n =
      ap (place F) (sym u) ∙ place_same N S seen n E en in
      let after : place_in K n ≡ place (visit (form N (at N i).hi) (visit (form N (at N i).lo) F)) (branch (at N i).x (at N i).y (form N (at N i).lo) (form N (at N i).hi)) =
      sym (place_same N S K n EK en) ∙ ap₂ place p u in
      let q = fresh (at N i).x (at N i).y (form N (at N i).lo) (form N (at N i).hi) F (omega (arith, before, length-map seen (form N))) in
      omega (arith, after, ap length p, length-map K (form N), q)

  mark_tracks : (size d n : ℕ) (L : List ℕ) (s : Marks) → n < d → Exists N n → Each N L → Tracks N size L s → Tracks N size (walk d N n L) (mark d N n s)
  unfolding walk mark
  mark_tracks size zero n L s h e E T = absurd (omega arith)
  mark_tracks size (suc d) zero L s h e E T = T
  mark_tracks size (suc d) (suc zero) L s h e E T = T
  mark_tracks size (suc d) (suc (suc i)) L s h e E T =
      let l : i < length N = omega arith in
      let k = S.ok i l in
      let a = mark_tracks size d (at N i).lo L s (omega arith) (omega arith) E T in
      let b = mark_tracks size d (at N i).hi (walk d N (at N i).lo L) (mark d N (at N i).lo s) (omega arith) (omega arith)
      (walk_each N S d (at N i).lo L (omega arith) E) a in
      by l (omega arith) (ltb (place_in L (suc (suc i))) (length L)) (eqb (get_or s.marks i 0) 0) refl refl b
    where
      K : List ℕ
      K = walk d N (at N i).hi (walk d N (at N i).lo L)

      t : Marks
      t = mark d N (at N i).hi (mark d N (at N i).lo s)

      by : i < length N → suc i < d → (x y : Bool) → ltb (place_in L (suc (suc i))) (length L) ≡ x → eqb (get_or s.marks i 0) 0 ≡ y → Tracks N size K t →
          Tracks N size (add_by x L K (suc (suc i))) (mark_by y (give i t) s)
      by l q true false p r b = T
      by l q false true p r b = give_tracks N size K t b i l (fresh_in d i L q l E (ltb-false _ _ p))
      by l q true true p r b =
          absurd (omega (arith, eqb-true _ _ r, T.marked i l (ltb-true _ _ p)))
      by l q false false p r b =
          absurd (eqb-false _ _ r (T.free i l (ltb-false _ _ p)))

  start_tracks : (size : ℕ) → length N ≤ size → Tracks N size [] (unmarked size)
  unfolding first
  start_tracks size h = record {
    room = h;
    long = length-replicate size 0;
    order_is = refl;
    marked = λ i l p. absurd (omega arith);
    free = λ i l p. get_or-replicate size i 0 0 (omega arith);
    left = omega (arith, zeros_all size);
  }

  module _ (n : ℕ) (e : Exists N n) where
    tracks : (size : ℕ) → length N ≤ size → (d : ℕ) → n < d → Tracks N size (reached N n) (mark d N n (unmarked size))
    unfolding reached
    tracks size h d l =
        let p = walk_deep N S d (suc n) n [] l (omega arith) e in
        subst (λ (L : List ℕ). Tracks N size L (mark d N n (unmarked size))) p (mark_tracks size d n [] (unmarked size) l e tt (start_tracks size h))

    -- no more are reached than there are
    reached_few : length (reached N n) ≤ length N
    reached_few = omega (arith, (tracks (length N) (omega arith) (suc n) (omega arith)).left)

    module _ (size : ℕ) (s : Marks) (T : Tracks N size (reached N n) s) where
      numbered : (k : ℕ) → Exists N k → given (reached N n) k < suc (suc (length (reached N n))) → taken s.marks k ≡ given (reached N n) k
      numbered zero k h = refl
      numbered (suc zero) k h = refl
      numbered (suc (suc i)) k h = T.marked i (omega arith) (omega arith)

      lines_by : map (line_by N s.marks) s.order ≡ map (line_of N (reached N n)) (reached N n)
      lines_by =
          let L = reached N n in
          let R = reached_stands N S n e in
          ap (map (line_by N s.marks)) T.order_is
          ∙ ext_get_or blank _ _ (length-map L (line_by N s.marks) ∙ sym (length-map L (line_of N L))) (λ i h.
          let l : i < length L = omega (arith, length-map L (line_by N s.marks)) in
          let m = get_or L i 0 in
          let lo = R.lo_before i l in
          let hi = R.hi_before i l in
          let p = numbered (lo_of N m) (part_there_lo m (R.nodes i l).0 (R.nodes i l).1) (omega arith) in
          let q = numbered (hi_of N m) (part_there_hi m (R.nodes i l).0 (R.nodes i l).1) (omega arith) in
          get_or-map (line_by N s.marks) L i 0 blank l
          ∙ ap₂ (λ (a b : ℕ). record { x = x_of N m; y = y_of N m; lo = a; hi = b }) p q
          ∙ sym (get_or-map (line_of N L) L i 0 blank l))

  -- marks made node by node, at any depth that suffices, are those of the visit
  pub marks_stand : (n : ℕ) → Exists N n → (size : ℕ) → length N ≤ size → (d : ℕ) → n < d → Marked N n (mark d N n (unmarked size))
  unfolding sheet_of
  marks_stand n e size h d l =
      let s = mark d N n (unmarked size) in
      let t = tracks n e size h d l in
      let R = reached_stands N S n e in
      record {
        order_is = t.order_is;
        numbered = numbered n e size s t;
        left_out = λ i k m. t.free i k (omega arith);
        root_is = numbered n e size s t n e (root_known N S n e);
        lines_are = lines_by n e size s t;
        few = omega (arith, ap length t.order_is, reached_few n e);
      }
