-- A table that has the lines of a sheet. Assumes nothing.
use Rattle.std.proofs.Common.{◌≡◌, ℕ, zero, suc, ◌<◌, ◌≤◌, List, length, get_or, sym, ap, ◌∙◌, ap₂, arith}
use Rattle.diagrams.specs.declared.Node.{Node}
use Rattle.diagrams.specs.Table.{Exists, x_of, y_of, lo_of, hi_of, Sound}
use Rattle.forms.specs.Forms.{Form, branch, form}
use Rattle.lists.specs.declared.node_line.NodeLine.{NodeLine}
use Rattle.forms.specs.Visits.{blank, Sheet, sheet, decode, read}
use Rattle.forms.specs.Walks.{sheet_of}
use Rattle.forms.specs.Marks.{Placed}
use Rattle.forms.proofs.Unfolds.{form_zero, form_one, form_node}
use Rattle.forms.proofs.Walks.{sheet_same}
use Rattle.forms.proofs.Decodes.{read_sheet}

module _ (M : List Node) (S : Sound M) where
  -- a node's form by the names of the table
  form_by : (n : ℕ) → 2 ≤ n → Exists M n → form M n ≡ branch (x_of M n) (y_of M n) (form M (lo_of M n)) (form M (hi_of M n))
  unfolding x_of y_of lo_of hi_of
  form_by zero h e = absurd (omega arith)
  form_by (suc zero) h e = absurd (omega arith)
  form_by (suc (suc i)) h e = form_node M S i (omega arith)

  module _ (ls : List NodeLine) (r : ℕ → ℕ) (P : Placed M ls r) where
    pub placed_deep : (d k : ℕ) → k < d → k < suc (suc (length ls)) → form M (r k) ≡ decode d ls k
    unfolding decode
    placed_deep zero k h l = absurd (omega arith)
    placed_deep (suc d) zero h l = ap (form M) P.none_is ∙ form_zero M
    placed_deep (suc d) (suc zero) h l = ap (form M) P.one_is ∙ form_one M
    placed_deep (suc d) (suc (suc i)) h l =
        let b : i < length ls = omega arith in
        let a = get_or ls i blank in
        let w = P.stands i b in
        let lo = placed_deep d a.lo (omega (arith, P.lo_before i b)) (omega (arith, P.lo_before i b)) in
        let hi = placed_deep d a.hi (omega (arith, P.hi_before i b)) (omega (arith, P.hi_before i b)) in
        form_by (r (suc (suc i))) w.node w.there
        ∙ ap₂ (λ (x y : ℕ). branch x y (form M (lo_of M (r (suc (suc i))))) (form M (hi_of M (r (suc (suc i)))))) w.x_is w.y_is
        ∙ ap₂ (branch a.x a.y) (ap (form M) w.lo_is ∙ lo) (ap (form M) w.hi_is ∙ hi)

    pub placed_there : (k : ℕ) → k < suc (suc (length ls)) → Exists M (r k)
    placed_there zero l = rw P.none_is (omega arith)
    placed_there (suc zero) l = rw P.one_is (omega arith)
    placed_there (suc (suc i)) l = (P.stands i (omega arith)).there

  module _ (s : Sheet) (r : ℕ → ℕ) (P : Placed M s.lines r) (l : s.root < suc (suc (length s.lines))) where
    pub placed_form : form M (r s.root) ≡ read s
    unfolding read
    placed_form = placed_deep s.lines r P (suc s.root) s.root (omega arith) l

    pub placed_sheet : (f : Form) → s ≡ sheet f → sheet_of M (r s.root) ≡ s
    placed_sheet f e =
        sheet_same M S (r s.root) (placed_there s.lines r P s.root l)
        ∙ ap sheet (placed_form ∙ ap read e ∙ read_sheet f) ∙ sym e
