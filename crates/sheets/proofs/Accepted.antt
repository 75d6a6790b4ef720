-- A sheet that was written is accepted. Assumes nothing.
use Rattle.std.proofs.Common.{◌≡◌, ℕ, zero, suc, ◌+◌, ◌^◌, ◌<◌, ◌≤◌, Bool, true, not, ◌&&◌, eqb, List, [], ◌∷◌, ◌++◌, map, length, get_or, Ok, Result, sym, refl, ap, ◌∙◌, subst, ap₂, append_assoc, append-nil, arith, length-append, le-ltb, lt-ltb, eq-eqb, eqb-true}
use native.Mathlib.Decide.{dec_lt}
use lib.ListN.{length-map, get_or-append}
use lib.Seq.{get_or-append_seam}
use Rattle.lists.specs.declared.node_line.NodeLine.{NodeLine}
use Rattle.lines.specs.Format.{written, line, Values}
use Rattle.lines.proofs.Readings.{cut_line, written_plain, numbers_written}
use Rattle.lines.specs.Reading.{cut}
use Rattle.diagrams.specs.declared.Node.{Node}
use Rattle.diagrams.specs.Level.{level}
use Rattle.diagrams.specs.Table.{blank, at, Exists, Sound, NodeOk, Same, Extends, x_of, level_of, count_of}
use Rattle.diagrams.specs.Rules.{is_node, new_node, find}
use Rattle.diagrams.proofs.Bools.{and_is}
use Rattle.diagrams.proofs.Bounds.{count_max}
use Rattle.diagrams.proofs.Folds.{x_more, level_more, count_more}
use Rattle.diagrams.proofs.Numbers.{count_small}
use Rattle.diagrams.proofs.Pushes.{first_here}
use Rattle.forms.specs.Facts.{Reached}
use Rattle.forms.specs.Theorems.{TableOf, Own}
use Rattle.forms.specs.Walks.{given, reached, sheet_of, node_of, table_of, as_line}
use Rattle.forms.proofs.Owns.{owns}
use Rattle.forms.proofs.Sheets.{reached_stands}
use Rattle.forms.proofs.Tables.{table_stands}
use Rattle.sheets.specs.declared.fault.Fault.{Fault}
use Rattle.sheets.specs.declared.checking.Checked.{Checked}
use Rattle.sheets.specs.Faults.{bad_node}
use Rattle.sheets.specs.Format.{head, node_names, node_values, node_lines, sheet_bytes}
use Rattle.sheets.specs.Lines.{ask, after, values}
use Rattle.sheets.specs.Checks.{top, grown, tabled_on, tabled, keeps, row_by, row, Outcome, rows_by, rows, marks_of, off_by, off, finish, checked}
use Rattle.sheets.proofs.Fronts.{names_ok, values_ok}
use Rattle.sheets.proofs.Tops.{top_ok}
use Rattle.sheets.proofs.Entries.{tabled_push}
use Rattle.sheets.proofs.Endings.{finish_ok, checked_end}

-- the first node of those that are left, after A
module _ (A : List Node) (b : Node) (B : List Node) (S : Sound (A ++ (b ∷ B))) where
  abbrev T : List Node
  T = A ++ (b ∷ B)

  longer : Extends A T
  longer = record { longer = omega (arith, length-append A (b ∷ B)); kept = λ i l. get_or-append A (b ∷ B) blank i l }

  here : at T (length A) ≡ b
  here = get_or-append_seam A b B blank

  within : length A < length T
  within = omega (arith, length-append A (b ∷ B))

  ok : NodeOk T (length A) b
  ok = subst (NodeOk T (length A)) here (S.ok (length A) within)

  node_back : new_node A b.x b.y b.lo b.hi ≡ b
  node_back =
      let e : count_of A b.lo + count_of A b.hi ≡ b.orders =
      omega (arith, ok.counted, count_more A T longer b.lo ok.lo_below, count_more A T longer b.hi ok.hi_below) in
      λ i. record { x = b.x; y = b.y; lo = b.lo; hi = b.hi; orders = e i }

  grown_back : grown A (as_line b) ≡ A ++ (b ∷ [])
  grown_back = ap (λ (a : Node). A ++ (a ∷ [])) node_back

  -- no earlier node is the same
  fresh : length A ≤ find A b.x b.y b.lo b.hi
  fresh = by (dec_lt (find A b.x b.y b.lo b.hi) (length A))
    where
      i : ℕ
      i = find A b.x b.y b.lo b.hi

      met : is_node b.x b.y b.lo b.hi (at A i) ≡ true → i < length A → ⊥
      met e l =
          let p = (and_is (eqb (at A i).x b.x) (eqb (at A i).y b.y && (eqb (at A i).lo b.lo && eqb (at A i).hi b.hi))).0 e in
          let q = (and_is (eqb (at A i).y b.y) (eqb (at A i).lo b.lo && eqb (at A i).hi b.hi)).0 p.1 in
          let r = (and_is (eqb (at A i).lo b.lo) (eqb (at A i).hi b.hi)).0 q.1 in
          let s : Same (at A i) b = record {
            same_x = eqb-true _ _ p.0;
            same_y = eqb-true _ _ q.0;
            same_lo = eqb-true _ _ r.0;
            same_hi = eqb-true _ _ r.1;
          } in
          let t : Same (at T i) (at T (length A)) = rw (longer.kept i l, here) s in
          let same = S.apart i (length A) (omega (arith, within)) within t in
          omega arith

      by : Dec (i < length A) → length A ≤ i
      by (yes l) = absurd (met (first_here (is_node b.x b.y b.lo b.hi) blank A l) l)
      by (no l) = omega arith

  both : (a c : Bool) → a ≡ true → c ≡ true → (a && c) ≡ true
  both a c p q = (and_is a c).1 (p, q)

  -- so its line keeps the rules
  keeps_back : (pieces : ℕ) → b.x ≤ pieces → keeps pieces A (as_line b) ≡ true
  unfolding keeps
  keeps_back pieces h =
      let k = ok in
      let lo = level_more A T longer b.lo k.lo_below in
      let hi = x_more A T longer b.hi k.hi_below in
      both _ _
      (both _ _ (lt-ltb b.x 17 (omega (arith, k.x_max))) (both _ _ (lt-ltb b.x (pieces + 1) (omega arith)) (both _ _ (lt-ltb 0 b.y k.y_min) (lt-ltb b.y b.x k.y_below))))
      (both _ _
      (both _ _ (lt-ltb b.lo (length A + 2) (omega (arith, k.lo_below))) (both _ _ (lt-ltb 0 b.hi k.hi_some) (lt-ltb b.hi (length A + 2) (omega (arith, k.hi_below)))))
      (both _ _ (lt-ltb (level_of A b.lo) (level b.x b.y) (omega (arith, lo, k.lo_level)))
      (both _ _ (lt-ltb (x_of A b.hi) b.x (omega (arith, hi, k.hi_x))) (ap not (le-ltb (find A b.x b.y b.lo b.hi) (length A) fresh)))))

-- the lines of a sound table make the table
tabled_back : (A B : List Node) → Sound (A ++ B) → tabled_on A (map as_line B) ≡ A ++ B
tabled_back A [] S = sym (append-nil A)
tabled_back A (b ∷ B) S =
    ap (λ (M : List Node). tabled_on M (map as_line B)) (grown_back A b B S)
    ∙ tabled_back (A ++ (b ∷ [])) B (subst Sound (sym (append_assoc A (b ∷ []) B)) S)
    ∙ append_assoc A (b ∷ []) B

-- values that were written are read
values_read : (count k : ℕ) (ns rest : List ℕ) → Values ns → length ns ≡ count → 1 ≤ count → count ≤ 16 → values count k (line ns ++ rest) ≡ Ok (ns, rest)
values_read count k ns rest v l a b =
    values_ok count k (line ns ++ rest) (written ns) rest
    (ap (λ t. cut t) (append_assoc (written ns) (10 ∷ []) rest) ∙ cut_line (written ns) rest (written_plain ns v))
    ns (numbers_written ns v (omega arith) (omega arith)) l

-- no node has a larger x
abbrev Upto : ℕ → List Node → Type 0
Upto pieces [] = Unit {0}
Upto pieces (b ∷ B) = (b.x ≤ pieces) × Upto pieces B

upto_all : (pieces : ℕ) (B : List Node) → ((i : ℕ) → i < length B → (at B i).x ≤ pieces) → Upto pieces B
upto_all pieces [] h = tt
upto_all pieces (b ∷ B) h = (h 0 (omega arith), upto_all pieces B (λ i l. h (suc i) (omega arith)))

-- node lines that were written are read
rows_read : (pieces : ℕ) (A B : List Node) (ls : List NodeLine) (rest : List ℕ) → Sound (A ++ B) → length (A ++ B) ≤ 2046 → tabled ls ≡ A → Upto pieces B →
    rows (length B) pieces ls (node_lines (map as_line B) ++ rest) ≡ (ls ++ map as_line B, Ok rest)
unfolding rows row
rows_read pieces A [] ls rest S few t u = ap (λ (l : List NodeLine). (l, Ok rest)) (sym (append-nil ls))
rows_read pieces A (b ∷ B) ls rest S few t u =
    let a = as_line b in
    let k = ok A b B S in
    let size = length-append A (b ∷ B) in
    let left = node_lines (map as_line B) ++ rest in
    let go = λ (c : NodeLine) (r : List ℕ). rows (length B) pieces (ls ++ (c ∷ [])) r in
    let vals : Values (node_values a) = (omega (arith, k.x_max), (omega (arith, k.x_max, k.y_below), (omega (arith, k.lo_below), (omega (arith, k.hi_below), tt)))) in
    let v = ap (values 4 (length ls + 4)) (append_assoc (line (node_values a)) (node_lines (map as_line B)) rest) ∙ values_read 4 (length ls + 4) (node_values a) left vals refl (omega arith) (omega arith) in
    let yes : keeps pieces (tabled ls) a ≡ true = ap (λ (M : List Node). keeps pieces M a) t ∙ keeps_back A b B S pieces u.0 in
    let next : tabled (ls ++ (a ∷ [])) ≡ A ++ (b ∷ []) = tabled_push ls a ∙ ap (λ (M : List Node). grown M a) t ∙ grown_back A b B S in
    ap (λ r. rows_by ls (after r (row_by pieces ls)) go) v
    ∙ ap (λ c. rows_by ls (ask c (bad_node (length ls + 4)) (Ok (a, left))) go) yes
    ∙ rows_read pieces (A ++ (b ∷ [])) B (ls ++ (a ∷ [])) rest (subst Sound (sym (append_assoc A (b ∷ []) B)) S)
    (subst (λ (M : List Node). length M ≤ 2046) (sym (append_assoc A (b ∷ []) B)) few) next u.1
    ∙ ap (λ (l : List NodeLine). (l, Ok rest)) (append_assoc ls (a ∷ []) (map as_line B))

-- lines 1 to 3 that were written are read
top_read : (chain nodes orders : ℕ) (rest : List ℕ) → chain < 256 → nodes ≤ 2046 → orders < 10 ^ 14 →
    top chain (head ++ (line (chain ∷ nodes ∷ orders ∷ []) ++ (node_names ++ rest))) ≡ Ok record { nodes = nodes; orders = orders; rest = rest }
top_read chain nodes orders rest c n o =
    let ns = chain ∷ nodes ∷ orders ∷ [] in
    let u = node_names ++ rest in
    top_ok chain (head ++ (line ns ++ u)) (line ns ++ u) (names_ok head 1 _ (line ns ++ u) refl) ns u
    (values_read 3 2 ns u (omega arith, (omega arith, (o, tt))) refl (omega arith) (omega arith)) n refl rest (names_ok node_names 3 u rest refl)

-- marks that are all their own numbers
off_own : (k i : ℕ) (ms : List ℕ) → ((j : ℕ) → i ≤ j → j < i + k → get_or ms j 0 ≡ suc (suc j)) → off k i ms ≡ i + k
unfolding off
off_own zero i ms h = omega arith
off_own (suc k) i ms h =
    ap (λ t. off_by t i (off k (suc i) ms)) (eq-eqb _ _ (h i (omega arith) (omega arith)))
    ∙ off_own k (suc i) ms (λ j l m. h j (omega arith) (omega arith)) ∙ omega arith

given_small : (L : List ℕ) (n : ℕ) → n < 2 → given L n ≡ n
given_small L zero h = refl
given_small L (suc zero) h = refl
given_small L (suc (suc i)) h = absurd (omega arith)

-- the last questions, where the nodes stand in the order of the visit from the root
finish_back : (T : List Node) (r orders : ℕ) → Sound T → length T ≤ 2046 → sheet_of T r ≡ record { root = r; lines = map as_line T } → count_of T r ≡ orders →
    (1 ≤ length T → r ≡ suc (length T)) → (length T ≡ 0 → (r ≡ orders) × (orders < 2)) → finish T orders [] ≡ Ok record { root = r; orders = orders }
unfolding marks_of
finish_back [] r orders S few sheet count last none =
    let z = none refl in
    finish_ok [] orders [] refl (off 0 0 (marks_of [])) refl (omega arith) (lt-ltb orders 2 z.1) ∙ ap (λ (k : ℕ). Ok record { root = k; orders = orders }) (sym z.0)
finish_back (a ∷ T) r orders S few sheet count last none =
    let M = a ∷ T in
    let end : r ≡ suc (length M) = last (omega arith) in
    let own : Own M (marks_of M) = (owns M S (omega arith) 2046 few (suc (suc (length M))) (omega arith)).1 (subst (λ k. sheet_of M k ≡ record { root = k; lines = map as_line M }) end sheet) in
    let all = off_own (length M) 0 (marks_of M) (λ j l m. own j (omega arith)) in
    finish_ok M orders [] refl (off (length M) 0 (marks_of M)) refl (omega (arith, all)) (eq-eqb _ _ (ap (count_of M) (sym end) ∙ count))
    ∙ ap (λ (k : ℕ). Ok record { root = k; orders = orders }) (sym end)

module _ (N : List Node) (S : Sound N) (n : ℕ) (e : Exists N n) where
  abbrev L : List ℕ
  L = reached N n

  abbrev M : List Node
  M = table_of N n

  R : Reached N n L
  R = reached_stands N S n e

  t : TableOf N n
  t = table_stands N S n e

  long : length M ≡ length L
  unfolding table_of
  long = length-map L (node_of N L)

  root_last : 1 ≤ length M → (sheet_of N n).root ≡ suc (length M)
  unfolding sheet_of
  root_last h = by (dec_lt n 2)
    where
      by : Dec (n < 2) → given L n ≡ suc (length M)
      by (yes q) = absurd (omega (arith, ap length (R.root_end q), long))
      by (no q) = (R.root_last (omega arith)).1 ∙ ap suc (sym long)

  root_none : length M ≡ 0 → ((sheet_of N n).root ≡ count_of N n) × (count_of N n < 2)
  unfolding sheet_of
  root_none h = by (dec_lt n 2)
    where
      by : Dec (n < 2) → (given L n ≡ count_of N n) × (count_of N n < 2)
      by (yes q) = (given_small L n q ∙ sym (count_small N n q), omega (arith, count_small N n q))
      by (no q) = absurd (omega (arith, (R.root_last (omega arith)).0, long))

  own_sheet : sheet_of M (sheet_of N n).root ≡ record { root = (sheet_of N n).root; lines = map as_line M }
  own_sheet = t.again ∙ ap (λ (l : List NodeLine). record { root = (sheet_of N n).root; lines = l }) (sym t.lines)

  pub written_accepted : (pieces chain : ℕ) → chain < 256 → x_of N n ≤ pieces → length (sheet_of N n).lines ≤ 2046 →
      checked pieces chain (sheet_bytes chain (count_of N n) (sheet_of N n).lines) ≡ ((sheet_of N n).lines, Ok record { root = (sheet_of N n).root; orders = count_of N n })
  unfolding sheet_bytes tabled
  written_accepted pieces chain c x few =
      let ls = (sheet_of N n).lines in
      let orders = count_of N n in
      let size : length M ≡ length ls = sym (length-map M as_line) ∙ ap length t.lines in
      let tab : tabled ls ≡ M = ap tabled (sym t.lines) ∙ tabled_back [] M t.sound in
      let read = rows_read pieces [] M [] [] t.sound (omega arith) refl (upto_all pieces M (λ i l. let h = t.x_most i l in omega arith)) in
      let all : rows (length ls) pieces [] (node_lines ls) ≡ (ls, Ok []) =
      ap₂ (λ (k : ℕ) (l : List NodeLine). rows k pieces [] (node_lines l)) (sym size) (sym t.lines)
      ∙ ap (rows (length M) pieces []) (sym (append-nil (node_lines (map as_line M)))) ∙ read ∙ ap (λ (l : List NodeLine). (l, Ok [])) t.lines in
      let made = top_read chain (length ls) orders (node_lines ls) c few (omega (arith, count_max N S n e)) in
      checked_end pieces chain _ record { nodes = length ls; orders = orders; rest = node_lines ls } made ls (sym (ap (λ (o : Outcome (List ℕ)). o.0) all)) [] (ap (λ (o : Outcome (List ℕ)). o.1) all)
      ∙ ap (λ (K : List Node). (ls, finish K orders [])) tab
      ∙ ap (λ (r : Result Checked Fault). (ls, r)) (finish_back M (sheet_of N n).root orders t.sound (omega arith) own_sheet t.count root_last root_none)
