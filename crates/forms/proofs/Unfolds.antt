-- The form of a number: by its parts, its set, and one number to a form. Assumes nothing.
use Prim.{tt}
use Rattle.std.proofs.Common.{◌≡◌, ℕ, zero, suc, ◌<◌, ◌≤◌, ◌||◌, ◌↔◌, List, length, sym, refl, ap, ◌∙◌, ap₂, arith}
use Rattle.diagrams.specs.declared.Node.{Node}
use Rattle.orders.specs.declared.order.Order.{Order}
use Rattle.orders.specs.Chains.{ChainLaws}
use Rattle.diagrams.specs.Moves.{Moves, back}
use Rattle.diagrams.specs.Table.{at, Exists, x_of, y_of, fold, Sound, mem}
use Rattle.diagrams.proofs.Folds.{fold_deep, mem_zero, mem_one, mem_node}
use Rattle.diagrams.proofs.Bools.{both_ways}
use Rattle.diagrams.proofs.Numbers.{top_below}
use Rattle.forms.specs.Forms.{Form, none, one, branch, at_branch, form, top_x, top_y, Some, Well, has}
use Rattle.forms.specs.Theorems.{SameOrders}
use Rattle.forms.proofs.Shapes.{canon}

module _ (N : List Node) where
  pub form_zero : form N 0 ≡ none
  unfolding form fold
  form_zero = refl

  pub form_one : form N 1 ≡ one
  unfolding form fold
  form_one = refl

module _ (N : List Node) (S : Sound N) where
  pub form_node : (i : ℕ) → i < length N → form N (suc (suc i)) ≡ branch (at N i).x (at N i).y (form N (at N i).lo) (form N (at N i).hi)
  unfolding form fold
  form_node i l =
      let k = S.ok i l in
      ap₂ (at_branch (at N i))
      (fold_deep none one at_branch N S (suc (suc i)) (suc (at N i).lo) (at N i).lo (omega arith) (omega arith) (omega arith))
      (fold_deep none one at_branch N S (suc (suc i)) (suc (at N i).hi) (at N i).hi (omega arith) (omega arith) (omega arith))

  pub form_x : (n : ℕ) → Exists N n → top_x (form N n) ≡ x_of N n
  unfolding x_of
  form_x zero e = ap top_x (form_zero N)
  form_x (suc zero) e = ap top_x (form_one N)
  form_x (suc (suc i)) e = ap top_x (form_node i (omega arith))

  pub form_y : (n : ℕ) → Exists N n → top_y (form N n) ≡ y_of N n
  unfolding y_of
  form_y zero e = ap top_y (form_zero N)
  form_y (suc zero) e = ap top_y (form_one N)
  form_y (suc (suc i)) e = ap top_y (form_node i (omega arith))

  form_some : (n : ℕ) → Exists N n → 1 ≤ n → Some (form N n)
  form_some zero e h = absurd (omega arith)
  form_some (suc zero) e h = rw (form_one N) tt
  form_some (suc (suc i)) e h = rw (form_node i (omega arith)) tt

  well_deep : (b n : ℕ) → n < b → Exists N n → Well (form N n)
  well_deep zero n h e = absurd (omega arith)
  well_deep (suc b) zero h e = rw (form_zero N) tt
  well_deep (suc b) (suc zero) h e = rw (form_one N) tt
  well_deep (suc b) (suc (suc i)) h e =
      let l : i < length N = omega arith in
      let k = S.ok i l in
      let el : Exists N (at N i).lo = omega arith in
      let eh : Exists N (at N i).hi = omega arith in
      rw (form_node i l) (
        record {
          x_max = k.x_max;
          y_min = k.y_min;
          y_below = k.y_below;
          lo_under = rw (form_x (at N i).lo el, form_y (at N i).lo el) (top_below N S _ _ _ el k.y_min k.y_below k.lo_level);
          hi_under = rw (form_x (at N i).hi eh) k.hi_x;
          hi_some = form_some (at N i).hi eh k.hi_some;
        },
        (well_deep b (at N i).lo (omega arith) el, well_deep b (at N i).hi (omega arith) eh),
      )

  -- the form of a number keeps the rules
  pub form_well : (n : ℕ) → Exists N n → Well (form N n)
  form_well n e = well_deep (suc n) n (omega arith) e

  inj_deep : (b n m : ℕ) → n < b → Exists N n → Exists N m → form N n ≡ form N m → n ≡ m
  inj_deep zero n m h en em e = absurd (omega arith)
  inj_deep (suc b) zero zero h en em e = refl
  inj_deep (suc b) zero (suc zero) h en em e =
      let p = form_zero N in
      let q = form_one N in
      let z : ◌≡◌ {A = ℕ} 0 1 = cc in
      z
  inj_deep (suc b) zero (suc (suc j)) h en em e =
      let p = form_zero N in
      let q = form_node j (omega arith) in
      let z : ◌≡◌ {A = ℕ} 0 1 = cc in
      absurd (omega arith)
  inj_deep (suc b) (suc zero) zero h en em e =
      let p = form_zero N in
      let q = form_one N in
      let z : ◌≡◌ {A = ℕ} 1 0 = cc in
      z
  inj_deep (suc b) (suc zero) (suc zero) h en em e = refl
  inj_deep (suc b) (suc zero) (suc (suc j)) h en em e =
      let p = form_one N in
      let q = form_node j (omega arith) in
      let z : ◌≡◌ {A = ℕ} 0 1 = cc in
      absurd (omega arith)
  inj_deep (suc b) (suc (suc i)) zero h en em e =
      let p = form_zero N in
      let q = form_node i (omega arith) in
      let z : ◌≡◌ {A = ℕ} 0 1 = cc in
      absurd (omega arith)
  inj_deep (suc b) (suc (suc i)) (suc zero) h en em e =
      let p = form_one N in
      let q = form_node i (omega arith) in
      let z : ◌≡◌ {A = ℕ} 0 1 = cc in
      absurd (omega arith)
  inj_deep (suc b) (suc (suc i)) (suc (suc j)) h en em e =
      let l : i < length N = omega arith in
      let r : j < length N = omega arith in
      let k = S.ok i l in
      let c = S.ok j r in
      let p = form_node i l in
      let q = form_node j r in
      let ex : (at N i).x ≡ (at N j).x = cc in
      let ey : (at N i).y ≡ (at N j).y = cc in
      let el : form N (at N i).lo ≡ form N (at N j).lo = cc in
      let eh : form N (at N i).hi ≡ form N (at N j).hi = cc in
      ap (λ (a : ℕ). suc (suc a)) (S.apart i j l r record {
        same_x = ex;
        same_y = ey;
        same_lo = inj_deep b (at N i).lo (at N j).lo (omega arith) (omega arith) (omega arith) el;
        same_hi = inj_deep b (at N i).hi (at N j).hi (omega arith) (omega arith) (omega arith) eh;
      })

  -- two numbers of a sound table with one form are one number
  pub form_tells : (n m : ℕ) → Exists N n → Exists N m → form N n ≡ form N m → n ≡ m
  form_tells n m en em e = inj_deep (suc n) n m (omega arith) en em e

  module _ (g : Moves) where
    has_deep : (b n : ℕ) → n < b → Exists N n → (o : Order) → has g (form N n) o ≡ mem g N n o
    has_deep zero n h e o = absurd (omega arith)
    has_deep (suc b) zero h e o = ap (λ (f : Form). has g f o) (form_zero N) ∙ sym (mem_zero g N o)
    has_deep (suc b) (suc zero) h e o = ap (λ (f : Form). has g f o) (form_one N) ∙ sym (mem_one g N o)
    has_deep (suc b) (suc (suc i)) h e o =
        let l : i < length N = omega arith in
        let k = S.ok i l in
        ap (λ (f : Form). has g f o) (form_node i l)
        ∙ ap₂ ◌||◌ (has_deep b (at N i).lo (omega arith) (omega arith) o)
        (has_deep b (at N i).hi (omega arith) (omega arith) (back g (at N i).x (at N i).y o))
        ∙ sym (mem_node g N S i l o)

    -- the form has the orders of its number
    pub form_has : (n : ℕ) → Exists N n → (o : Order) → has g (form N n) o ≡ mem g N n o
    form_has n e o = has_deep (suc n) n (omega arith) e o

module _ (g : Moves) (laws : ChainLaws g) (N M : List Node) (S : Sound N) (T : Sound M) (n m : ℕ) (en : Exists N n) (em : Exists M m) where
  pub forms_same : form N n ≡ form M m → (o : Order) → mem g N n o ≡ mem g M m o
  forms_same e o = sym (form_has N S g n en o) ∙ ap (λ (f : Form). has g f o) e ∙ form_has M T g m em o

  pub same_forms : ((o : Order) → mem g N n o ≡ mem g M m o) → form N n ≡ form M m
  same_forms h = canon g laws (form N n) (form M m) (form_well N S n en) (form_well M T m em) (λ o. form_has N S g n en o ∙ h o ∙ sym (form_has M T g m em o))

  -- one form, one set, and back
  pub form_set : (form N n ≡ form M m) ↔ SameOrders g N n M m
  form_set = (λ e o. (λ i. sym (forms_same e o) ∙ i, λ i. forms_same e o ∙ i), λ h. same_forms (λ o. both_ways _ _ (h o).0 (h o).1))
