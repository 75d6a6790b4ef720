-- What `follow` means. Assumes nothing.
use Rattle.std.proofs.Common.{◌≡◌, ℕ, zero, suc, ◌+◌, ◌<◌, ◌≤◌, Bool, true, false, ◌||◌, eqb, ◌⊎◌, List, length, sym, refl, ap, ◌∙◌, ap₂, inl, inr, arith, eqb-true}
use mathlib.Core.Path.{fun_ext}
use mathlib.Core.Bool.{false≢true}
use borrow.Author.Tests.{eqb-false}
use Rattle.orders.specs.declared.order.Order.{Order}
use Rattle.orders.specs.Orders.{standing, then, inverse}
use Rattle.orders.specs.Group.{group}
use Rattle.orders.specs.Dimension.{dimension_within}
use Rattle.diagrams.specs.declared.Node.{Node}
use Rattle.diagrams.specs.Moves.{Moves, back}
use Rattle.diagrams.specs.Table.{at, Exists, Extends, x_of, y_of, lo_of, hi_of, level_of, fold, Sound, at_node, mem, In}
use Rattle.diagrams.specs.Script.{Script}
use Rattle.diagrams.specs.Bodies.{row, follow_body}
use Rattle.diagrams.specs.Work.{followed}
use Rattle.diagrams.specs.Meets.{Meets}
use Rattle.diagrams.proofs.Folds.{fold_deep, fold_more, level_more, mem_more, mem_zero, mem_one}
use Rattle.diagrams.proofs.Pushes.{extends_trans}
use Rattle.diagrams.proofs.Numbers.{parts, level_max, x_max, lo_lower, hi_lower}
use Rattle.diagrams.proofs.Bools.{or_split, or_left, or_right, or_none}
use Rattle.diagrams.proofs.Groups.{same_refl, same_sound, back_both}
use Rattle.diagrams.proofs.Tops.{mem_parts}

module _ (g : Moves) where
  -- by the parts of n, with u for the number 1
  abbrev by_parts : (Order → Bool) → List Node → ℕ → Order → Bool
  by_parts u N n = fold (λ o. false) u (at_node g) (suc n) N n

  parts_node : (u : Order → Bool) (N : List Node) → Sound N → (n : ℕ) → Exists N n → 2 ≤ n → (o : Order) →
      by_parts u N n o ≡ (by_parts u N (lo_of N n) o || by_parts u N (hi_of N n) (back g (x_of N n) (y_of N n) o))
  unfolding fold x_of y_of lo_of hi_of
  parts_node u N S zero e h o = absurd (omega arith)
  parts_node u N S (suc zero) e h o = absurd (omega arith)
  parts_node u N S (suc (suc i)) e h o =
      let l : i < length N = omega arith in
      let k = S.ok i l in
      ap (λ (F : Order → Bool). F o) (ap₂ (at_node g (at N i))
      (fold_deep (λ _. false) u (at_node g) N S (suc (suc i)) (suc (at N i).lo) (at N i).lo (omega arith) (omega arith) (omega arith))
      (fold_deep (λ _. false) u (at_node g) N S (suc (suc i)) (suc (at N i).hi) (at N i).hi (omega arith) (omega arith) (omega arith)))

  parts_none : (u : Order → Bool) → ((o : Order) → u o ≡ false) → (N : List Node) → Sound N → (d n : ℕ) → n < d → Exists N n → (o : Order) → by_parts u N n o ≡ false
  parts_none u f N S zero n l e o = absurd (omega arith)
  parts_none u f N S (suc d) zero l e o = unfold fold in refl
  parts_none u f N S (suc d) (suc zero) l e o = unfold fold in f o
  parts_none u f N S (suc d) (suc (suc i)) l e o =
      let n = suc (suc i) in
      let p = parts N S (suc (suc i)) e (omega arith) in
      parts_node u N S (suc (suc i)) e (omega arith) o
      ∙ ap₂ ◌||◌ (parts_none u f N S d (lo_of N (suc (suc i))) (omega arith) (omega arith) o)
      (parts_none u f N S d (hi_of N (suc (suc i))) (omega arith) (omega arith) (back g (x_of N (suc (suc i))) (y_of N (suc (suc i))) o))

  pub followed_more : (N M : List Node) → Sound N → Extends N M → (a n : ℕ) → Exists N a → Exists N n → (o : Order) → followed g M a n o ≡ followed g N a n o
  unfolding followed
  followed_more N M S X a n ea en o =
      ap (λ (F : Order → Bool). F o) (fold_more (λ _. false) (mem g M a) (at_node g) N M S X (suc n) n en)
      ∙ ap (λ (u : Order → Bool). by_parts u N n o) (fun_ext (λ p. mem_more g N M S X a ea p))

  followed_node : (N : List Node) → Sound N → (a n : ℕ) → Exists N n → 2 ≤ n → (o : Order) →
      followed g N a n o ≡ (followed g N a (lo_of N n) o || followed g N a (hi_of N n) (back g (x_of N n) (y_of N n) o))
  unfolding followed
  followed_node N S a n e h o = parts_node (mem g N a) N S n e h o

  followed_zero : (N : List Node) (a : ℕ) (o : Order) → followed g N a 0 o ≡ false
  unfolding followed fold
  followed_zero N a o = refl

  followed_one : (N : List Node) (a : ℕ) (o : Order) → followed g N a 1 o ≡ mem g N a o
  unfolding followed fold
  followed_one N a o = refl

  module _ (N : List Node) (S : Sound N) (a b : ℕ) (ea : Exists N a) (eb : Exists N b) where
    abbrev Owed : List Node → Script → Type 0
    Owed M s = Meets g (followed g N a b) (2450 + level_of N b) M s

    parts_meet : 2 ≤ b → Owed N (follow_body g (row N b) a b false false)
    parts_meet h =
        let p = parts N S b eb h in
        let il : Exists N (lo_of N b) = omega (arith, p.lo_below) in
        let ih : Exists N (hi_of N b) = omega (arith, p.hi_below) in (
          (ea, il),
          omega (arith, lo_lower N S b eb h),
          λ M r m.
              let less : level_of M (hi_of N b) < level_of N b = rw (level_more N M m.extends (hi_of N b) ih) (hi_lower N S b eb h) in (
                (omega (arith, m.extends.longer), omega (arith, m.extends.longer)),
                omega (arith, less),
                λ K s q. (
                  q.there,
                  omega (arith, level_max K q.sound s q.there, x_max K q.sound s q.there, dimension_within (g (x_of N b) (y_of N b))),
                  λ J v w.
                      let er : Exists J r = omega (arith, m.there, q.extends.longer, w.extends.longer) in (
                        (er, w.there),
                        omega (arith, level_max J w.sound r er, level_max J w.sound v w.there),
                        λ L u l. (
                          l.there,
                          λ o. l.means o ∙ ap₂ ◌||◌
                              (mem_more g M J m.sound (extends_trans M K J q.extends w.extends) r m.there o ∙ m.means o)
                              (w.means o ∙ q.means (back g (x_of N b) (y_of N b) o) ∙ followed_more N M S m.extends a (hi_of N b) ea ih (back g (x_of N b) (y_of N b) o))
                              ∙ sym (followed_node N S a b eb h o),
                        ),
                      ),
                ),
              ),
        )

    pub follow_meets : Owed N (follow_body g (row N b) a b (eqb a 0 || eqb b 0) (eqb b 1))
    unfolding followed
    follow_meets = by (eqb a 0 || eqb b 0) (eqb b 1) refl refl
      where
        none : (eqb a 0 ≡ true) ⊎ (eqb b 0 ≡ true) → (o : Order) → mem g N 0 o ≡ followed g N a b o
        none (inl e) o = mem_zero g N o ∙ sym (parts_none (mem g N a) (λ p. rw (eqb-true a 0 e) (mem_zero g N p)) N S (suc b) b (omega arith) eb o)
        none (inr e) o = mem_zero g N o ∙ sym (rw (eqb-true b 0 e) (unfold fold in refl))

        by : (s t : Bool) → (eqb a 0 || eqb b 0) ≡ s → eqb b 1 ≡ t → Owed N (follow_body g (row N b) a b s t)
        by true t es et = (omega arith, none (or_split _ _ es))
        by false true es et = (ea, λ o. sym (rw (eqb-true b 1 et) (unfold followed fold in refl)))
        by false false es et =
            let z : ¬ (b ≡ 0) = eqb-false b 0 (or_none (eqb a 0) (eqb b 0) es).1 in
            let w : ¬ (b ≡ 1) = eqb-false b 1 et in
            parts_meet (omega arith)

    -- in the words of the subject: an order β of n, after one of a
    abbrev pub After : ℕ → Order → Type 0
    After n o = (β : Order) × (In g N n β × In g N a (then o (inverse β)))

    -- of a node, given that it holds of its parts
    node_out : (n : ℕ) → Exists N n → 2 ≤ n → (o : Order) → (followed g N a (lo_of N n) o ≡ true → After (lo_of N n) o) →
        (followed g N a (hi_of N n) (back g (x_of N n) (y_of N n) o) ≡ true → After (hi_of N n) (back g (x_of N n) (y_of N n) o)) →
        followed g N a n o ≡ true → After n o
    node_out n e h o low high i = by (or_split _ _ (sym (followed_node N S a n e h o) ∙ i))
      where
        by : (followed g N a (lo_of N n) o ≡ true) ⊎ (followed g N a (hi_of N n) (back g (x_of N n) (y_of N n) o) ≡ true) → After n o
        by (inl k) = let r = low k in (r.0, (mem_parts g N S n e h r.0 ∙ or_left _ _ r.1.0, r.1.1))
        by (inr k) =
            let r = high k in
            let β = then r.0 (g (x_of N n) (y_of N n)) in
            let undone : back g (x_of N n) (y_of N n) β ≡ r.0 = simp group in
            let turned : then o (inverse β) ≡ then (back g (x_of N n) (y_of N n) o) (inverse r.0) = simp group in
            (β, (mem_parts g N S n e h β ∙ or_right _ _ (ap (mem g N (hi_of N n)) undone ∙ r.1.0), ap (mem g N a) turned ∙ r.1.1))

    followed_out : (d n : ℕ) → n < d → Exists N n → (o : Order) → followed g N a n o ≡ true → After n o
    followed_out zero n l e o i = absurd (omega arith)
    followed_out (suc d) zero l e o i = absurd (false≢true (sym (followed_zero N a o) ∙ i))
    followed_out (suc d) (suc zero) l e o i =
        let still : then o (inverse standing) ≡ o = simp group in
        (standing, (mem_one g N standing ∙ same_refl standing, ap (mem g N a) still ∙ sym (followed_one N a o) ∙ i))
    followed_out (suc d) (suc (suc j)) l e o i =
        let h : 2 ≤ suc (suc j) = omega arith in
        let p = parts N S (suc (suc j)) e h in
        node_out (suc (suc j)) e h o (followed_out d _ (omega arith) (omega arith) o) (followed_out d _ (omega arith) (omega arith) _) i

    node_in : (n : ℕ) → Exists N n → 2 ≤ n → (o β : Order) → (In g N (lo_of N n) β → followed g N a (lo_of N n) o ≡ true) →
        (In g N (hi_of N n) (back g (x_of N n) (y_of N n) β) → followed g N a (hi_of N n) (back g (x_of N n) (y_of N n) o) ≡ true) →
        In g N n β → followed g N a n o ≡ true
    node_in n e h o β low high i = followed_node N S a n e h o ∙ by (or_split _ _ (sym (mem_parts g N S n e h β) ∙ i))
      where
        by : (In g N (lo_of N n) β) ⊎ (In g N (hi_of N n) (back g (x_of N n) (y_of N n) β)) →
            (followed g N a (lo_of N n) o || followed g N a (hi_of N n) (back g (x_of N n) (y_of N n) o)) ≡ true
        by (inl q) = or_left _ _ (low q)
        by (inr q) = or_right _ _ (high q)

    followed_in : (d n : ℕ) → n < d → Exists N n → (o β : Order) → In g N n β → In g N a (then o (inverse β)) → followed g N a n o ≡ true
    followed_in zero n l e o β i k = absurd (omega arith)
    followed_in (suc d) zero l e o β i k = absurd (false≢true (sym (mem_zero g N β) ∙ i))
    followed_in (suc d) (suc zero) l e o β i k =
        let is = same_sound β standing (sym (mem_one g N β) ∙ i) in
        let still : then o (inverse β) ≡ o = simp (is, group) in
        followed_one N a o ∙ sym (ap (mem g N a) still) ∙ k
    followed_in (suc d) (suc (suc j)) l e o β i k =
        let h : 2 ≤ suc (suc j) = omega arith in
        let p = parts N S (suc (suc j)) e h in
        node_in (suc (suc j)) e h o β (λ q. followed_in d _ (omega arith) (omega arith) o β q k)
        (λ q. followed_in d _ (omega arith) (omega arith) _ _ q (ap (mem g N a) (back_both g _ _ o β) ∙ k)) i

    pub followed_is : (o : Order) → (followed g N a b o ≡ true → After b o) × ((β : Order) → In g N b β → In g N a (then o (inverse β)) → followed g N a b o ≡ true)
    followed_is o = (followed_out (suc b) b (omega arith) eb o, followed_in (suc b) b (omega arith) eb o)
