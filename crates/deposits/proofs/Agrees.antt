-- Two sheets of one chain are equal exactly when the sets are.
use Rattle.std.proofs.Common.{◌≡◌, ℕ, zero, suc, ◌<◌, ◌≤◌, ◌↔◌, List, length, Ok, Err, sym, refl, ap, ◌∙◌, ap₂, arith}
use lib.ListN.{length-map}
use Rattle.orders.specs.Chains.{ChainLaws}
use Rattle.lists.specs.declared.node_line.NodeLine.{NodeLine}
use Rattle.diagrams.specs.declared.Node.{Node}
use Rattle.diagrams.specs.Moves.{Moves}
use Rattle.diagrams.specs.Table.{Exists, Sound, x_of, count_of}
use Rattle.forms.specs.Visits.{Sheet}
use Rattle.forms.specs.Walks.{reached, line_of, sheet_of}
use Rattle.forms.specs.Theorems.{SameOrders}
use Rattle.forms.proofs.Tracks.{marks_stand}
use Rattle.forms.proofs.Unfolds.{form_set}
use Rattle.forms.proofs.Sheets.{sheet_set}
use Rattle.sheets.specs.declared.checking.Checked.{Checked}
use Rattle.sheets.specs.Format.{sheet_bytes}
use Rattle.sheets.specs.Checks.{Outcome, checked}
use Rattle.sheets.proofs.Accepted.{written_accepted}
use Rattle.deposits.specs.Writing.{sheet_text}
use Rattle.deposits.proofs.Writings.{text_is}
use Rattle.deposits.proofs.Sets.{counted, count-form}

x_few : (N : List Node) → Sound N → (n : ℕ) → Exists N n → x_of N n ≤ 16
unfolding x_of
x_few N S zero e = omega arith
x_few N S (suc zero) e = omega arith
x_few N S (suc (suc i)) e = (S.ok i (omega arith)).x_max

lines_few : (N : List Node) → Sound N → (n : ℕ) → Exists N n → length N ≤ 2046 → length (sheet_of N n).lines ≤ 2046
unfolding sheet_of
lines_few N S n e l =
    let k = marks_stand N S n e (length N) (omega arith) (suc n) (omega arith) in
    omega (arith, l, k.few, ap length k.order_is, length-map (reached N n) (line_of N (reached N n)))

-- what a check says of a sheet that was written
text_bytes : (chain : ℕ) (N : List Node) (n : ℕ) → sheet_bytes chain (count_of N n) (sheet_of N n).lines ≡ sheet_text chain N n
text_bytes chain N n = text_is chain N n chain (count_of N n) (sheet_of N n).lines refl refl refl

root_in : Outcome Checked → ℕ
root_in p = elim p.1 [ Ok c ↦ c.root | Err f ↦ 0 ]

module _ (chain : ℕ) (few : chain < 256) where
  says : (N : List Node) → Sound N → (n : ℕ) → Exists N n → length N ≤ 2046 → checked 16 chain (sheet_text chain N n) ≡ ((sheet_of N n).lines, Ok record { root = (sheet_of N n).root; orders = count_of N n })
  says N S n e l = ap (checked 16 chain) (sym (text_bytes chain N n)) ∙ written_accepted N S n e 16 chain few (x_few N S n e) (lines_few N S n e l)

  module _ (g : Moves) (laws : ChainLaws g) (N M : List Node) (S : Sound N) (T : Sound M) (n m : ℕ) (en : Exists N n) (em : Exists M m) (ln : length N ≤ 2046) (lm : length M ≤ 2046) where
    one_sheet : sheet_text chain N n ≡ sheet_text chain M m → sheet_of N n ≡ sheet_of M m
    unfolding root_in
    one_sheet t =
        let e = sym (says N S n en ln) ∙ ap (checked 16 chain) t ∙ says M T m em lm in
        ap₂ (λ (r : ℕ) (l : List NodeLine). record { root = r; lines = l }) (ap root_in e) (ap (λ (o : Outcome Checked). o.0) e)

    one_text : SameOrders g N n M m → sheet_text chain N n ≡ sheet_text chain M m
    one_text o =
        let s = (sheet_set g laws N M S T n m en em).1 o in
        let f = (form_set g laws N M S T n m en em).1 o in
        let count = count-form N S n en ∙ ap counted f ∙ sym (count-form M T m em) in
        sym (text_bytes chain N n) ∙ text_is chain M m chain (count_of N n) (sheet_of N n).lines refl count (ap (λ (t : Sheet). t.lines) s)

    pub sheets_agree : (sheet_text chain N n ≡ sheet_text chain M m) ↔ SameOrders g N n M m
    sheets_agree = (λ t. (sheet_set g laws N M S T n m en em).0 (one_sheet t), one_text)
