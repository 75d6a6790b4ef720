-- A table whose nodes stand in the order of the visit from the last of them. Assumes nothing.
use Rattle.std.proofs.Common.{◌≡◌, ℕ, zero, suc, ◌<◌, ◌≤◌, ◌↔◌, List, map, length, get_or, sym, refl, ap, ◌∙◌, ap₂, arith}
use native.Mathlib.Decide.{dec_lt}
use lib.ListN
use lib.ListN.{length-map}
use Rattle.std.proofs.lemmas.List.{ext_get_or, get_or-map}
use Rattle.lists.specs.declared.node_line.NodeLine.{NodeLine}
use Rattle.diagrams.specs.declared.Node.{Node}
use Rattle.diagrams.specs.Table.{blank, at, Exists, x_of, y_of, lo_of, hi_of, Sound}
use Rattle.forms.specs.Forms.{Form, form}
use Rattle.forms.specs.Visits.{pick, visit, line, Sheet, sheet, decode}
use Rattle.forms.specs.Visits as visits
use Rattle.forms.specs.Walks.{given, reached, line_of, sheet_of, as_line}
use Rattle.forms.specs.Facts.{Reached, Visit}
use Rattle.forms.specs.Marks.{taken, Marks, unmarked, mark, Marked, Placed}
use Rattle.forms.specs.Theorems.{Own}
use Rattle.forms.proofs.Unfolds.{form_zero, form_tells}
use Rattle.forms.proofs.Walks.{reached_forms, sheet_same}
use Rattle.forms.proofs.Visits.{visit_stands}
use Rattle.forms.proofs.Decodes.{decode_lines}
use Rattle.forms.proofs.Sheets.{reached_stands}
use Rattle.forms.proofs.Placings.{placed_deep}
use Rattle.forms.proofs.Tables.{taken_given}
use Rattle.forms.proofs.Tracks.{marks_stand}

module _ (N : List Node) (S : Sound N) where
  -- a table has its own nodes as lines
  pub own_placed : Placed N (map as_line N) (λ k. k)
  unfolding x_of y_of lo_of hi_of
  own_placed = record {
    none_is = refl;
    one_is = refl;
    lo_before = λ i h. rw (ListN.get_or-map as_line N i blank) (S.ok i (omega (arith, length-map N as_line))).lo_below;
    hi_before = λ i h. rw (ListN.get_or-map as_line N i blank) (S.ok i (omega (arith, length-map N as_line))).hi_below;
    stands = λ i h. rw (ListN.get_or-map as_line N i blank) record {
      node = omega arith;
      there = omega (arith, length-map N as_line);
      x_is = refl;
      y_is = refl;
      lo_is = refl;
      hi_is = refl;
    };
  }

  module _ (some : 1 ≤ length N) where
    abbrev root : ℕ
    root = suc (length N)

    abbrev L : List ℕ
    L = reached N root

    there : Exists N root
    there = omega arith

    R : Reached N root L
    R = reached_stands N S root there

    -- every number is given itself
    module _ (self : (k : ℕ) → Exists N k → given L k ≡ k) where
      long : length L ≡ length N
      long = omega (arith, R.root_last (omega arith), self root there)

      at_own : (i : ℕ) → i < length L → get_or L i 0 ≡ suc (suc i)
      at_own i h =
          let e = self (suc (suc i)) (omega (arith, long)) in
          ap (taken L) (sym e) ∙ taken_given L (suc (suc i)) (omega (arith, long))

      line_own : (i : ℕ) → i < length N → line_of N L (suc (suc i)) ≡ as_line (at N i)
      unfolding x_of y_of lo_of hi_of
      line_own i h =
          let k = S.ok i h in
          ap₂ (λ (p q : ℕ). record { x = (at N i).x; y = (at N i).y; lo = p; hi = q }) (self (at N i).lo (omega arith)) (self (at N i).hi (omega arith))

      lines_own : map (line_of N L) L ≡ map as_line N
      lines_own = ext_get_or visits.blank _ _ (length-map L (line_of N L) ∙ long ∙ sym (length-map N as_line)) (λ i h.
          let l : i < length L = omega (arith, length-map L (line_of N L)) in
          let m : i < length N = omega (arith, long) in
          get_or-map (line_of N L) L i 0 visits.blank l ∙ ap (line_of N L) (at_own i l) ∙ line_own i m ∙ sym (get_or-map as_line N i blank visits.blank m))

      sheet_own : sheet_of N root ≡ record { root = root; lines = map as_line N }
      unfolding sheet_of
      sheet_own = ap₂ (λ (r : ℕ) (z : List NodeLine). record { root = r; lines = z }) (self root there) lines_own

    module _ (size : ℕ) (room : length N ≤ size) (d : ℕ) (deep : root < d) where
      abbrev s : Marks
      s = mark d N root (unmarked size)

      M : Marked N root s
      M = marks_stand N S root there size room d deep

      self_of : Own N s.marks → (k : ℕ) → Exists N k → given L k ≡ k
      self_of own zero e = refl
      self_of own (suc zero) e = refl
      self_of own (suc (suc i)) e = by (dec_lt (given L (suc (suc i))) (suc (suc (length L))))
        where
          by : Dec (given L (suc (suc i)) < suc (suc (length L))) → given L (suc (suc i)) ≡ suc (suc i)
          by (yes h) = sym (M.numbered (suc (suc i)) (omega arith) h) ∙ own i (omega arith)
          by (no h) = absurd (omega (arith, M.left_out i (omega arith) (omega arith), own i (omega arith)))

      own_of : sheet_of N root ≡ record { root = root; lines = map as_line N } → Own N s.marks
      unfolding sheet sheet_of
      own_of e i h = marked
        where
          lines_are : map (line_of N L) L ≡ map as_line N
          lines_are = ap (λ (z : Sheet). z.lines) e

          long_is : length L ≡ length N
          long_is = sym (length-map L (line_of N L)) ∙ ap length lines_are ∙ length-map N as_line

          F : List Form
          F = map (form N) L

          V : Visit (form N root) F
          V = rw (reached_forms N S root there) (visit_stands (form N root))

          from_visit : decode (suc (suc (suc i))) (map (line F) F) (suc (suc i)) ≡ form N (get_or L i 0)
          from_visit =
              decode_lines F V.visited (suc (suc (suc i))) (suc (suc i)) (omega arith) (omega (arith, length-map L (form N), long_is))
              ∙ ap (get_or F i) (sym (form_zero N)) ∙ ListN.get_or-map (form N) L i 0

          from_table : form N (suc (suc i)) ≡ decode (suc (suc (suc i))) (map as_line N) (suc (suc i))
          from_table = placed_deep N S (map as_line N) (λ k. k) own_placed (suc (suc (suc i))) (suc (suc i)) (omega arith) (omega (arith, length-map N as_line))

          forms_are : map (line F) F ≡ map as_line N
          forms_are = ap (λ (G : List Form). map (line G) G) (reached_forms N S root there) ∙ sym (ap (λ (z : Sheet). z.lines) (sheet_same N S root there)) ∙ lines_are

          one_form : form N (get_or L i 0) ≡ form N (suc (suc i))
          one_form = sym from_visit ∙ ap (λ (z : List NodeLine). decode (suc (suc (suc i))) z (suc (suc i))) forms_are ∙ sym from_table

          is : get_or L i 0 ≡ suc (suc i)
          is = form_tells N S _ _ (R.nodes i (omega (arith, long_is))).1 (omega arith) one_form

          gives : given L (suc (suc i)) ≡ suc (suc i)
          gives = ap (given L) (sym is) ∙ R.once i (omega (arith, long_is))

          marked : get_or s.marks i 0 ≡ suc (suc i)
          marked = M.numbered (suc (suc i)) (omega arith) (omega (arith, gives, long_is)) ∙ gives

      pub owns : Own N s.marks ↔ (sheet_of N root ≡ record { root = root; lines = map as_line N })
      owns = (λ own. sheet_own (self_of own), own_of)
