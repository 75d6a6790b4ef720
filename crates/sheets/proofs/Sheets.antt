-- A sheet on a page. Assumes nothing.
use Rattle.std.proofs.Common.{◌≡◌, ℕ, zero, suc, ◌+◌, ◌<◌, ◌≤◌, List, [], ◌∷◌, ◌++◌, length, take, get_or, sym, ap, ◌∙◌, append_assoc, append-nil, arith, length-append}
use Rattle.std.specs.List.{between}
use Rattle.std.proofs.lemmas.Slice.{first_rest}
use Rattle.std.proofs.lemmas.List.{nil_from_length, take_more}
use Rattle.lists.specs.declared.node_line.NodeLine.{NodeLine}
use Rattle.lists.specs.declared.filled.Filled.{Filled}
use Rattle.lists.specs.Items.{items_of, room_of, laid, Extended}
use Rattle.lists.proofs.Places.{extended_length}
use Rattle.lines.specs.Format.{line}
use Rattle.lines.specs.Pages.{Stands}
use Rattle.forms.specs.Visits.{blank}
use Rattle.sheets.specs.Format.{head, node_names, node_values, node_lines, sheet_bytes}

-- no lines
pub lines_none : (ls : List NodeLine) → length ls ≡ 0 → node_lines ls ≡ []
lines_none ls e = ap node_lines (nil_from_length ls e)

lines_push : (ls : List NodeLine) (l : NodeLine) → node_lines (ls ++ l ∷ []) ≡ node_lines ls ++ line (node_values l)
lines_push [] l = append-nil (line (node_values l))
lines_push (m ∷ ls) l =
    ap (λ b. line (node_values m) ++ b) (lines_push ls l) ∙ sym (append_assoc (line (node_values m)) (node_lines ls) (line (node_values l)))

lines_front : (ls : List NodeLine) (i : ℕ) → length (node_lines (take i ls)) ≤ length (node_lines ls)
lines_front ls zero = omega arith
lines_front [] (suc i) = omega arith
lines_front (l ∷ ls) (suc i) =
    omega (arith, lines_front ls i, length-append (line (node_values l)) (node_lines (take i ls)), length-append (line (node_values l)) (node_lines ls))

-- the first line and the rest
module _ (ls : List NodeLine) (some : 0 < length ls) where
  abbrev first : NodeLine
  first = get_or ls 0 blank

  abbrev rest : List NodeLine
  rest = between 1 (length ls) ls

  pub lines_are : node_lines ls ≡ line (node_values first) ++ node_lines rest
  lines_are = ap node_lines (first_rest ls blank some)

  pub length-lines : length (node_lines ls) ≡ length (line (node_values first)) + length (node_lines rest)
  length-lines = ap length lines_are ∙ length-append (line (node_values first)) (node_lines rest)

  pub length_rest : length rest + 1 ≡ length ls
  length_rest = omega (arith, ap length (first_rest ls blank some))

-- how long a sheet is
pub length_sheet : (chain orders : ℕ) (ls : List NodeLine) →
    length (sheet_bytes chain orders ls) ≡ 19 + length (line (chain ∷ length ls ∷ orders ∷ [])) + 10 + length (node_lines ls)
unfolding sheet_bytes
length_sheet chain orders ls =
    let l = line (chain ∷ length ls ∷ orders ∷ []) in
    omega (arith, length-append head (l ++ (node_names ++ node_lines ls)), length-append l (node_names ++ node_lines ls), length-append node_names (node_lines ls))

-- the lines up to a place, and one more
module _ (ls : List NodeLine) (i : ℕ) (h : i < length ls) where
  pub lines_take : node_lines (take (i + 1) ls) ≡ node_lines (take i ls) ++ line (node_values (get_or ls i blank))
  lines_take = ap node_lines (take_more ls i blank h) ∙ lines_push (take i ls) (get_or ls i blank)

  pub lines_up_to : length (node_lines (take i ls)) + length (line (node_values (get_or ls i blank))) ≤ length (node_lines ls)
  lines_up_to = omega (arith, ap length lines_take, length-append (node_lines (take i ls)) (line (node_values (get_or ls i blank))), lines_front ls (i + 1))

-- a list over the whole page, from none to all of its bytes
pub stands_whole : (p q : List ℕ) (a e : Filled ℕ) (bytes : List ℕ) (end : ℕ) → items_of a ≡ [] → room_of a ≡ p → Extended a e bytes →
    end ≡ length (items_of e) → q ≡ room_of e → Stands p q 0 bytes end
stands_whole p q a e bytes end none whole all long is =
    let start : length (items_of a) ≡ 0 = ap length none in
    record {
      room = omega (arith, start, all.free, ap length whole);
      ends = omega (arith, start, long, extended_length a e bytes all);
      page = is ∙ all.room ∙ (λ i. laid (whole i) (start i) bytes);
    }
