-- What a number comes to: by its parts, and in a longer table. Assumes nothing.
use Rattle.std.proofs.Common.{◌≡◌, ℕ, zero, suc, ◌<◌, Bool, false, ◌||◌, List, length, refl, ap, ap₂, arith}
use Rattle.orders.specs.declared.order.Order.{Order}
use Rattle.orders.specs.Orders.{standing}
use Rattle.diagrams.specs.declared.Node.{Node}
use Rattle.diagrams.specs.Moves.{Moves, same, back}
use Rattle.diagrams.specs.Table.{at, Exists, Extends, x_of, y_of, level_of, count_of, fold, Sound, at_one, at_node, mem}

-- more depth than the number changes nothing
pub fold_deep : {A : Type 0} (z u : A) (s : Node → A → A → A) (N : List Node) → Sound N →
    (f d n : ℕ) → n < f → n < d → Exists N n → fold z u s f N n ≡ fold z u s d N n
unfolding fold
fold_deep z u s N S zero d n hf hg e = absurd (omega arith)
fold_deep z u s N S (suc f) zero n hf hg e = absurd (omega arith)
fold_deep z u s N S (suc f) (suc d) zero hf hg e = refl
fold_deep z u s N S (suc f) (suc d) (suc zero) hf hg e = refl
fold_deep z u s N S (suc f) (suc d) (suc (suc i)) hf hg e =
    let k = S.ok i (omega arith) in
    ap₂ (s (at N i))
    (fold_deep z u s N S f d (at N i).lo (omega arith) (omega arith) (omega arith))
    (fold_deep z u s N S f d (at N i).hi (omega arith) (omega arith) (omega arith))

-- a longer table says the same
pub fold_more : {A : Type 0} (z u : A) (s : Node → A → A → A) (N M : List Node) → Sound N → Extends N M →
    (f n : ℕ) → Exists N n → fold z u s f M n ≡ fold z u s f N n
unfolding fold
fold_more z u s N M S X zero n e = refl
fold_more z u s N M S X (suc f) zero e = refl
fold_more z u s N M S X (suc f) (suc zero) e = refl
fold_more z u s N M S X (suc f) (suc (suc i)) e =
    let l : i < length N = omega arith in
    let k = S.ok i l in
    rw (X.kept i l) (ap₂ (s (at N i))
    (fold_more z u s N M S X f (at N i).lo (omega arith))
    (fold_more z u s N M S X f (at N i).hi (omega arith)))

pub x_more : (N M : List Node) → Extends N M → (n : ℕ) → Exists N n → x_of M n ≡ x_of N n
unfolding x_of
x_more N M X zero e = refl
x_more N M X (suc zero) e = refl
x_more N M X (suc (suc i)) e = ap (λ (a : Node). a.x) (X.kept i (omega arith))

pub y_more : (N M : List Node) → Extends N M → (n : ℕ) → Exists N n → y_of M n ≡ y_of N n
unfolding y_of
y_more N M X zero e = refl
y_more N M X (suc zero) e = refl
y_more N M X (suc (suc i)) e = ap (λ (a : Node). a.y) (X.kept i (omega arith))

pub level_more : (N M : List Node) → Extends N M → (n : ℕ) → Exists N n → level_of M n ≡ level_of N n
unfolding level_of
level_more N M X zero e = refl
level_more N M X (suc zero) e = refl
level_more N M X (suc (suc i)) e = rw (X.kept i (omega arith))

pub count_more : (N M : List Node) → Extends N M → (n : ℕ) → Exists N n → count_of M n ≡ count_of N n
unfolding count_of
count_more N M X zero e = refl
count_more N M X (suc zero) e = refl
count_more N M X (suc (suc i)) e = ap (λ (a : Node). a.orders) (X.kept i (omega arith))

module _ (g : Moves) where
  pub mem_zero : (N : List Node) (o : Order) → mem g N 0 o ≡ false
  unfolding mem fold
  mem_zero N o = refl

  pub mem_one : (N : List Node) (o : Order) → mem g N 1 o ≡ same o standing
  unfolding mem fold
  mem_one N o = refl

  pub mem_node : (N : List Node) → Sound N → (i : ℕ) → i < length N → (o : Order) →
      mem g N (suc (suc i)) o ≡ (mem g N (at N i).lo o || mem g N (at N i).hi (back g (at N i).x (at N i).y o))
  unfolding mem fold
  mem_node N S i l o =
      let k = S.ok i l in
      ap (λ (F : Order → Bool). F o) (ap₂ (at_node g (at N i))
      (fold_deep (λ _. false) at_one (at_node g) N S (suc (suc i)) (suc (at N i).lo) (at N i).lo (omega arith) (omega arith) (omega arith))
      (fold_deep (λ _. false) at_one (at_node g) N S (suc (suc i)) (suc (at N i).hi) (at N i).hi (omega arith) (omega arith) (omega arith)))

  -- a longer table has the same sets under the same numbers
  pub mem_more : (N M : List Node) → Sound N → Extends N M → (n : ℕ) → Exists N n → (o : Order) → mem g M n o ≡ mem g N n o
  unfolding mem
  mem_more N M S X n e o =
      ap (λ (F : Order → Bool). F o) (fold_more (λ _. false) at_one (at_node g) N M S X (suc n) n e)
