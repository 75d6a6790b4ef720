use Rattle.std.proofs.Common.{◌≡◌, [], ◌∷◌, length, refl, ap, subst, arith, rules}
use Rattle.lists.specs.Items.{Extended}
use Rattle.lists.proofs.Places.{extended_then}
use Rattle.lines.specs.Format.{line}
use Rattle.sheets.specs.Format.{head, node_names, node_lines, sheet_bytes}
use Rattle.sheets.proofs.Sheets.{length_sheet, stands_whole}
use Rattle.sheets.proofs.writing.write_sheet.Goals as goal
use Rattle.sheets.proofs.writing.write_sheet.Goals.{After-len}

pub returns-then-page-line_len : goal.returns-then-page-line_len
returns-then-page-line_len c =
    let ls = c.args.lines.now in
    let is : length (line (c.from.result ∷ length ls ∷ c.args.orders ∷ [])) ≡ length (line (c.args.chain ∷ length ls ∷ c.args.orders ∷ [])) =
    ap (λ k. length (line (k ∷ length ls ∷ c.args.orders ∷ []))) c.from.ensures in
    record {
      number = refl;
      room = omega (arith, length_sheet c.args.chain c.args.orders ls, is, c.line_len.ensures.bytes, c.rows_len.ensures.bytes, c.if-page-line_len.true);
      page = refl;
    }

-- the sheet's four parts, put one after the other
all : (c : After-len) → Extended c.new-page.result c.put_rows.new.page (sheet_bytes c.args.chain c.args.orders c.args.lines.now)
unfolding sheet_bytes
all c =
    let ls = c.args.lines.now in
    let second = subst (λ k. Extended c.add_bytes.new.page c.add_line.new.page (line (k ∷ length ls ∷ c.args.orders ∷ []))) c.from.ensures c.in_ok-add_line.ensures.answer in
    extended_then _ _ _ head _ c.in_ok-add_bytes.ensures.answer
    (extended_then _ _ _ _ _ second
    (extended_then _ _ _ node_names (node_lines ls) c.in_ok-add_bytes-2.ensures.answer c.in_ok-put_rows.ensures.answer))

pub returns : goal.returns
returns c =
    stands_whole _ _ c.new-page.result c.put_rows.new.page _ _ c.new-page.ensures.items c.new-page.ensures.room
    (all (goal.at.returns c).After-len) c.len.ensures (search rules)
