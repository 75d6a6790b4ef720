-- The sheet of a number. Assumes nothing.
use Rattle.std.proofs.Common.{◌≡◌, ℕ, zero, suc, ◌<◌, ◌≤◌, ◌↔◌, List, [], ◌∷◌, map, length, get_or, sym, refl, ap, ◌∙◌, subst, arith}
use lib.ListN.{length-map, get_or-map}
use Rattle.diagrams.specs.declared.Node.{Node}
use Rattle.orders.specs.Chains.{ChainLaws}
use Rattle.diagrams.specs.Moves.{Moves}
use Rattle.diagrams.specs.Table.{at, Exists, Sound, Extends, lo_of, hi_of}
use Rattle.diagrams.proofs.Folds.{fold_more}
use Rattle.forms.specs.Forms.{Form, none, one, branch, at_branch, form}
use Rattle.forms.specs.Visits.{number, sheet, read}
use Rattle.forms.specs.Walks.{given, walk, reached, sheet_of}
use Rattle.forms.specs.Facts.{Before, Within, Last, Visit, Reached}
use Rattle.forms.specs.Theorems.{SameOrders, SheetOf}
use Rattle.forms.proofs.Unfolds.{form_zero, form_one, form_node, form_set}
use Rattle.forms.proofs.Walks.{Each, number_same, reached_each, reached_forms, sheet_same}
use Rattle.forms.proofs.Visits.{visit_stands}
use Rattle.forms.proofs.Decodes.{read_sheet, sheet_tells}

module _ (g : Moves) (laws : ChainLaws g) (N M : List Node) (S : Sound N) (T : Sound M) (n m : ℕ) (en : Exists N n) (em : Exists M m) where
  -- one sheet, one set, and back
  pub sheet_set : (sheet_of N n ≡ sheet_of M m) ↔ SameOrders g N n M m
  sheet_set =
      let f = form_set g laws N M S T n m en em in (
        λ e. f.0 (sheet_tells _ _ (sym (sheet_same N S n en) ∙ e ∙ sheet_same M T m em)),
        λ h. sheet_same N S n en ∙ ap sheet (f.1 h) ∙ sym (sheet_same M T m em),
      )

-- from an end nothing is reached
reached_end : (N : List Node) (n : ℕ) → n < 2 → reached N n ≡ []
unfolding reached walk
reached_end N zero h = refl
reached_end N (suc zero) h = refl
reached_end N (suc (suc i)) h = absurd (omega arith)

-- a longer table has the same forms
pub form_more : (N M : List Node) → Sound N → Extends N M → (n : ℕ) → Exists N n → form M n ≡ form N n
unfolding form
form_more N M S X n e = fold_more none one at_branch N M S X (suc n) n e

each_at : (N : List Node) (L : List ℕ) → Each N L → (i : ℕ) → i < length L → Exists N (get_or L i 0)
each_at N [] h i l = absurd (omega arith)
each_at N (a ∷ L) h zero l = h.0
each_at N (a ∷ L) h (suc i) l = each_at N L h.1 i (omega arith)

module _ (N : List Node) (S : Sound N) (n : ℕ) (e : Exists N n) where
  abbrev L : List ℕ
  L = reached N n

  abbrev F : List Form
  F = map (form N) L

  V : Visit (form N n) F
  V = rw (reached_forms N S n e) (visit_stands (form N n))

  long : length F ≡ length L
  long = length-map L (form N)

  there : (i : ℕ) → i < length L → Exists N (get_or L i 0)
  there i l = each_at N L (reached_each N S n e) i l

  is : (m : ℕ) → Exists N m → number F (form N m) ≡ given L m
  is m k = number_same N S L m (reached_each N S n e) k

  form_at : (i : ℕ) → get_or F i none ≡ form N (get_or L i 0)
  form_at i = ap (get_or F i) (sym (form_zero N)) ∙ get_or-map (form N) L i 0

  before : (i : ℕ) → i < length L → Before F i (form N (get_or L i 0))
  before i l = subst (Before F i) (form_at i) (V.visited.parts i (omega (arith, long)))

  -- what the parts come to, by cases of the number
  record Parts (i m : ℕ) : Type 0 where
    node : 2 ≤ m
    lo_before : given L (lo_of N m) < suc (suc i)
    hi_before : given L (hi_of N m) < suc (suc i)

  parts_of : (i m : ℕ) → Exists N m → Before F i (form N m) → Parts i m
  unfolding lo_of hi_of
  parts_of i zero k b = absurd (subst (Before F i) (form_zero N) b)
  parts_of i (suc zero) k b = absurd (subst (Before F i) (form_one N) b)
  parts_of i (suc (suc j)) k b =
      let l : j < length N = omega arith in
      let c = S.ok j l in
      let p : Before F i (branch (at N j).x (at N j).y (form N (at N j).lo) (form N (at N j).hi)) = subst (Before F i) (form_node N S j l) b in
      record {
        node = omega arith;
        lo_before = omega (arith, p.0, is (at N j).lo (omega arith));
        hi_before = omega (arith, p.1, is (at N j).hi (omega arith));
      }

  parts : (i : ℕ) → i < length L → Parts i (get_or L i 0)
  parts i l = parts_of i (get_or L i 0) (there i l) (before i l)

  once : (i : ℕ) → i < length L → given L (get_or L i 0) ≡ suc (suc i)
  once i l = sym (is (get_or L i 0) (there i l)) ∙ ap (number F) (sym (form_at i)) ∙ V.visited.once i (omega (arith, long))

  root_at : (m : ℕ) → Exists N m → Last F (form N m) → 2 ≤ m → (1 ≤ length L) × (given L m ≡ suc (length L))
  root_at zero k t h = absurd (omega arith)
  root_at (suc zero) k t h = absurd (omega arith)
  root_at (suc (suc j)) k t h =
      let l : j < length N = omega arith in
      let u = form_node N S j l in
      let p = subst (Last F) u t in
      let q : number F (branch (at N j).x (at N j).y (form N (at N j).lo) (form N (at N j).hi)) ≡ given L (suc (suc j)) =
      ap (number F) (sym u) ∙ is (suc (suc j)) k in
      (omega (arith, long, p.0), omega (arith, long, p.1, q))

  pub reached_stands : Reached N n L
  reached_stands = record {
    nodes = λ i l. ((parts i l).node, there i l);
    once = once;
    lo_before = λ i l. (parts i l).lo_before;
    hi_before = λ i l. (parts i l).hi_before;
    root_end = reached_end N n;
    root_last = root_at n e V.last;
    all = λ m k w. omega (arith, long, is m k, V.all (form N m) w);
    only = λ i l. subst (λ (f : Form). Within f (form N n)) (form_at i) (V.only i (omega (arith, long)));
  }

  root_by : (m : ℕ) → (2 ≤ m → (1 ≤ length L) × (given L m ≡ suc (length L))) → given L m < suc (suc (length L))
  root_by zero b = omega arith
  root_by (suc zero) b = omega arith
  root_by (suc (suc i)) b = omega (arith, b (omega arith))

  -- the root has a number
  pub root_known : given L n < suc (suc (length L))
  root_known = root_by n reached_stands.root_last

  pub sheet_facts : SheetOf N n
  sheet_facts = record {
    of_form = sheet_same N S n e;
    back = ap read (sheet_same N S n e) ∙ read_sheet (form N n);
    more = λ M T X. sheet_same M T n (omega (arith, X.longer)) ∙ ap sheet (form_more N M S X n e) ∙ sym (sheet_same N S n e);
    order = reached_stands;
  }
