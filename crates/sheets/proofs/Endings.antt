-- What comes after the last node line. Assumes nothing.
use Rattle.std.proofs.Common.{◌≡◌, ℕ, zero, suc, ◌+◌, ◌-◌, ◌<◌, ◌≤◌, Bool, true, false, not, eqb, ltb, List, [], ◌∷◌, length, get_or, take, IsErrAnd, Ok, Err, Option, Result, sym, refl, ap, ◌∙◌, subst, ap₂, true≢false, arith, eqb-true, length-take-le, get_or-take, ltb-true, ltb-false, le-ltb, lt-ltb, eq-eqb, ne_eqb, MatchOption}
use Rattle.std.specs.Bool.{then_some}
use Rattle.std.proofs.lemmas.List.{nil_from_length}
use Rattle.lists.specs.declared.node_line.NodeLine.{NodeLine}
use Rattle.diagrams.specs.declared.Node.{Node}
use Rattle.diagrams.specs.Table.{at, count_of}
use Rattle.forms.specs.Marks.{Marks, unmarked, mark}
use Rattle.sheets.specs.declared.fault.Fault.{Fault}
use Rattle.sheets.specs.declared.checking.Checked.{Checked}
use Rattle.sheets.specs.Faults.{bad_line, misnumbered, wrong_count}
use Rattle.sheets.specs.Lines.{ask, after}
use Rattle.sheets.specs.Own.{Own}
use Rattle.sheets.specs.Checks.{Top, top, tabled, rows, marks_of, off_by, off, root_of, counts, ends, finish, checked_top, checked}
use Rattle.sheets.proofs.Tops.{asked_yes, asked_no}

-- marks that are their own numbers are passed by, and any other ends the search
pub off_own : (k i : ℕ) (ms : List ℕ) → ((j : ℕ) → i ≤ j → j < i + k → get_or ms j 0 ≡ j + 2) → off k i ms ≡ i + k
unfolding off
off_own zero i ms own = omega arith
off_own (suc k) i ms own =
    let e : get_or ms i 0 ≡ suc (suc i) = omega (arith, own i (omega arith) (omega arith)) in
    ap (λ t. off_by t i (off k (suc i) ms)) (eq-eqb _ _ e) ∙ off_own k (suc i) ms (λ j h l. own j (omega arith) (omega arith)) ∙ omega arith

pub off_at : (k i o : ℕ) (ms : List ℕ) → i ≤ o → o < i + k → ((j : ℕ) → i ≤ j → j < o → get_or ms j 0 ≡ j + 2) → (get_or ms o 0 ≡ o + 2 → ⊥) → off k i ms ≡ o
unfolding off
off_at zero i o ms h l own other = absurd (omega arith)
off_at (suc k) i o ms h l own other =
    by (ltb i o) refl (λ (under : i < o). off_at k (suc i) o ms (omega arith) (omega arith) (λ j g m. own j (omega arith) m) other)
  where
    by : (t : Bool) → ltb i o ≡ t → (i < o → off k (suc i) ms ≡ o) → off_by (eqb (get_or ms i 0) (suc (suc i))) i (off k (suc i) ms) ≡ o
    by true e on =
        let under = ltb-true i o e in
        let is : get_or ms i 0 ≡ suc (suc i) = omega (arith, own i (omega arith) under) in
        ap (λ t. off_by t i (off k (suc i) ms)) (eq-eqb _ _ is) ∙ on under
    by false e on =
        let q : i ≡ o = let g = ltb-false i o e in omega arith in
        let ne : get_or ms i 0 ≡ suc (suc i) → ⊥ = λ p. other (ap (λ n. get_or ms n 0) (sym q) ∙ p ∙ omega (arith, q)) in
        ap (λ t. off_by t i (off k (suc i) ms)) (ne_eqb _ _ ne) ∙ q

-- the same by what stands in the first k places
pub off_none : (k : ℕ) (ms : List ℕ) → k ≤ length ms → Own (take k ms) (length (take k ms)) → off k 0 ms ≡ k
off_none k ms h own =
    let long = length-take-le k ms h in
    off_own k 0 ms (λ j g l. sym (get_or-take k ms j 0 (omega (arith, l))) ∙ own j (omega (arith, l))) ∙ omega arith

pub off_some : (k o : ℕ) (ms : List ℕ) → k ≤ length ms → o < length (take k ms) → (get_or (take k ms) o 0 ≡ o + 2 → ⊥) → Own (take k ms) o → (o < k) × (o ≡ off k 0 ms)
off_some k o ms h l other own =
    let long = length-take-le k ms h in
    let few : o < k = omega arith in (
      few,
      sym (off_at k 0 o ms (omega arith) (omega arith) (λ j g m. sym (get_or-take k ms j 0 (omega (arith, m))) ∙ own j m)
          (λ e. other (get_or-take k ms o 0 few ∙ e))),
    )

-- the root, if orders is its count
count_last : (N : List Node) → 1 ≤ length N → count_of N (length N + 1) ≡ (at N (length N - 1)).orders
unfolding count_of
count_last [] h = absurd (omega arith)
count_last (a ∷ N) h =
    let e : suc (length N) + 1 ≡ suc (suc (length N)) = omega arith in
    let d : length N ≡ suc (length N) - 1 = omega arith in
    ap (count_of (a ∷ N)) e ∙ ap (λ k. (at (a ∷ N) k).orders) d

counts_some : (N : List Node) (orders : ℕ) → 1 ≤ length N → counts N orders ≡ eqb (count_of N (length N + 1)) orders
counts_some [] orders h = absurd (omega arith)
counts_some (a ∷ N) orders h = ap (λ n. eqb (count_of (a ∷ N) n) orders) (let e : suc (suc (length N)) ≡ suc (length N) + 1 = omega arith in e)

root_some : (N : List Node) (orders : ℕ) → 1 ≤ length N → root_of N orders ≡ length N + 1
root_some [] orders h = absurd (omega arith)
root_some (a ∷ N) orders h = let e : suc (suc (length N)) ≡ suc (length N) + 1 = omega arith in e

pub rooted : (N : List Node) (orders root : ℕ) (o : Option ℕ) → 1 ≤ length N → root ≡ length N + 1 → o ≡ then_some (eqb (at N (length N - 1)).orders orders) root →
    MatchOption o (counts N orders ≡ false) (λ r. (counts N orders ≡ true) × (r ≡ root_of N orders))
rooted N orders root o h k is =
    subst (λ p. MatchOption p (counts N orders ≡ false) (λ r. (counts N orders ≡ true) × (r ≡ root_of N orders))) (sym is)
    (by (eqb (at N (length N - 1)).orders orders) (ap (λ n. eqb n orders) (sym (count_last N h)) ∙ sym (counts_some N orders h)))
  where
    by : (t : Bool) → t ≡ counts N orders → MatchOption (then_some t root) (counts N orders ≡ false) (λ r. (counts N orders ≡ true) × (r ≡ root_of N orders))
    by true q = (sym q, k ∙ sym (root_some N orders h))
    by false q = sym q

ends_no : (rest : List ℕ) → (length rest ≡ 0 → ⊥) → ends rest ≡ false
ends_no [] h = absurd (h refl)
ends_no (c ∷ rest) h = refl

-- the marks that the visit left are those of the definition
pub marks_are : (N M : List Node) (count : ℕ) (m : Marks) → M ≡ N → count ≡ length N → ((d : ℕ) → count + 1 < d → m ≡ mark d M (count + 1) (unmarked 2046)) → m.marks ≡ marks_of N
unfolding marks_of
marks_are N M count m e c f =
    let r : count + 1 ≡ suc (length N) = omega arith in
    ap (λ (s : Marks). s.marks) (f (suc (suc (length N))) (omega arith) ∙ ap₂ (λ (K : List Node) (n : ℕ). mark (suc (suc (length N))) K n (unmarked 2046)) e r)

-- what the test for an empty text says
pub some_left : (rest : List ℕ) (b : Bool) → b ≡ eqb (length rest) 0 → b ≡ false → length rest ≡ 0 → ⊥
some_left rest b is f e = true≢false (sym (is ∙ eq-eqb _ _ e) ∙ f)

pub none_left : (rest : List ℕ) (b : Bool) → b ≡ eqb (length rest) 0 → b ≡ true → length rest ≡ 0
none_left rest b is t = eqb-true _ _ (sym is ∙ t)

-- question by question
module _ (N : List Node) (orders : ℕ) (rest : List ℕ) where
  pub finish_surplus : (length rest ≡ 0 → ⊥) → finish N orders rest ≡ Err (bad_line (length N + 4))
  unfolding finish
  finish_surplus h = asked_no _ _ _ (ends_no rest h)

  module _ (last : length rest ≡ 0) (o : ℕ) (is : o ≡ off (length N) 0 (marks_of N)) where
    abbrev O : ℕ
    O = off (length N) 0 (marks_of N)

    abbrev counted : Result Checked Fault
    counted = ask (counts N orders) wrong_count (Ok record { root = root_of N orders; orders = orders })

    then_off : finish N orders rest ≡ ask (not (ltb O (length N))) (misnumbered (O + 4)) counted
    unfolding finish
    then_off = ap (λ (r : List ℕ). finish N orders r) (nil_from_length rest last)

    pub finish_off : o < length N → finish N orders rest ≡ Err (misnumbered (o + 4))
    finish_off h = then_off ∙ asked_no _ _ _ (ap not (lt-ltb O (length N) (omega arith))) ∙ ap (λ n. Err (misnumbered (n + 4))) (sym is)

    module _ (h : length N ≤ o) where
      then_count : finish N orders rest ≡ counted
      then_count = then_off ∙ asked_yes _ _ _ (ap not (le-ltb O (length N) (omega arith)))

      pub finish_count : counts N orders ≡ false → finish N orders rest ≡ Err wrong_count
      finish_count e = then_count ∙ asked_no _ _ _ e

      pub finish_ok : counts N orders ≡ true → finish N orders rest ≡ Ok record { root = root_of N orders; orders = orders }
      finish_ok e = then_count ∙ asked_yes _ _ _ e

-- a fault that is passed on
pub fault_is : {A E : Type 0} (f : E) (r : Result A E) → IsErrAnd r (λ y. y ≡ f) → r ≡ Err f
fault_is f (Ok a) e = absurd e
fault_is f (Err y) e = ap Err e

pub tabled_none : tabled [] ≡ []
unfolding tabled
tabled_none = refl

-- the whole
module _ (pieces chain : ℕ) (text : List ℕ) where
  pub checked_no_top : (f : Fault) → top chain text ≡ Err f → checked pieces chain text ≡ ([], Err f)
  unfolding checked
  checked_no_top f e = ap (checked_top pieces) e

  module _ (t : Top) (e : top chain text ≡ Ok t) (ls : List NodeLine) (is : ls ≡ (rows t.nodes pieces [] t.rest).0) where
    pub checked_no_rows : (f : Fault) → (rows t.nodes pieces [] t.rest).1 ≡ Err f → checked pieces chain text ≡ (ls, Err f)
    unfolding checked
    checked_no_rows f h =
        ap (checked_top pieces) e
        ∙ ap₂ (λ (l : List NodeLine) (r : Result (List ℕ) Fault). (l, after r (λ rest. finish (tabled l) t.orders rest))) (sym is) h

    pub checked_end : (rest : List ℕ) → (rows t.nodes pieces [] t.rest).1 ≡ Ok rest → checked pieces chain text ≡ (ls, finish (tabled ls) t.orders rest)
    unfolding checked
    checked_end rest h =
        ap (checked_top pieces) e
        ∙ ap₂ (λ (l : List NodeLine) (r : Result (List ℕ) Fault). (l, after r (λ rest. finish (tabled l) t.orders rest))) (sym is) h
