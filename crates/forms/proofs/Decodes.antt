-- From a sheet one gets the form again. Assumes nothing.
use Rattle.std.proofs.Common.{◌≡◌, ℕ, zero, suc, ◌<◌, List, [], map, length, get_or, sym, refl, ap, ◌∙◌, ap₂, arith}
use lib.ListN.{get_or-map}
use Rattle.forms.specs.Forms.{Form, none, one, branch}
use Rattle.lists.specs.declared.node_line.NodeLine.{NodeLine}
use Rattle.forms.specs.Visits.{number, pick, visit, blank, line, sheet, decode, read}
use Rattle.forms.specs.Facts.{Before, Visited}
use Rattle.forms.proofs.Visits.{pick_number, visit_stands, visit_knows}

module _ (L : List Form) (V : Visited L) where
  -- the lines give back the form of each number
  pub decode_lines : (d n : ℕ) → n < d → n < suc (suc (length L)) → decode d (map (line L) L) n ≡ pick L n
  unfolding decode
  decode_lines zero n h l = absurd (omega arith)
  decode_lines (suc d) zero h l = refl
  decode_lines (suc d) (suc zero) h l = refl
  decode_lines (suc d) (suc (suc i)) h l =
      by (get_or L i none) (V.parts i (omega arith)) (get_or-map (line L) L i none) (λ m b q. decode_lines d m (omega arith) q)
    where
      node_of : NodeLine → Form
      node_of a = branch a.x a.y (decode d (map (line L) L) a.lo) (decode d (map (line L) L) a.hi)

      by : (g : Form) → Before L i g → get_or (map (line L) L) i blank ≡ line L g →
          ((m : ℕ) → m < suc (suc i) → m < suc (suc (length L)) → decode d (map (line L) L) m ≡ pick L m) → node_of (get_or (map (line L) L) i blank) ≡ g
      by none b u f = absurd b
      by one b u f = absurd b
      by (branch x y lo hi) b u f =
          let p : decode d (map (line L) L) (number L lo) ≡ lo = f (number L lo) b.0 (omega arith) ∙ pick_number L lo (omega arith) in
          let q : decode d (map (line L) L) (number L hi) ≡ hi = f (number L hi) b.1 (omega arith) ∙ pick_number L hi (omega arith) in
          ap node_of u ∙ ap₂ (branch x y) p q

-- a sheet read back is the form that was written
pub read_sheet : (f : Form) → read (sheet f) ≡ f
unfolding read sheet
read_sheet f =
    let L = visit f [] in
    let k = visit_knows f in
    decode_lines L (visit_stands f).visited (suc (number L f)) (number L f) (omega arith) k ∙ pick_number L f k

-- one sheet, one form
pub sheet_tells : (f g : Form) → sheet f ≡ sheet g → f ≡ g
sheet_tells f g e = sym (read_sheet f) ∙ ap read e ∙ read_sheet g
