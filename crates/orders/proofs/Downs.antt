-- The dimension, by `find` over the pieces from the last one down.
-- Assumes nothing.
use Rattle.std.specs.Prelude.{◌≡◌, ℕ, ◌+◌, ◌-◌, ◌<◌, Bool, true, false, List, [], ◌∷◌, Option, Some, None, MatchOption, ⊤, ◌≢◌}
use Rattle.std.specs.Borrow.{Bor}
use Rattle.std.specs.declared.iter.Rev.{Rev}
use Rattle.std.specs.declared.ops.Range.{Range}
use Rattle.std.specs.Iterator.{Yields, YieldsThen}
use Rattle.std.specs.Iterator.Adapters.{rev_steps, rev_source}
use Rattle.std.specs.Range.{range_steps_back}
use Rattle.std.specs.List.{FoldsTo}
use Rattle.std.specs.Fn.{CalledAt}
use Rattle.std.specs.Option.{unwrap_or}
use Rattle.std.proofs.Common.{sym, ◌∙◌, subst, arith}
use denote.Param.Members.{Mut}
use Rattle.orders.specs.Dimension.{dimension, dimension_to, to_still_down, to_found, to_none}
use Rattle.orders.specs.Orders.{place}
use Rattle.orders.specs.declared.order.Order.{Order}

abbrev pub downs : Rev (Range ℕ) → Option ℕ → Rev (Range ℕ) → Type 0
downs = rev_steps (range_steps_back (λ a b. b - a) (λ a b. b ≡ a + 1))

-- the numbers n, n - 1, .. 1 are still to come
abbrev pub To : Rev (Range ℕ) → ℕ → Type 0
To s n = ((rev_source s).start ≡ 1) × ((rev_source s).end ≡ n + 1)

one_less : (s t : Rev (Range ℕ)) (n x : ℕ) → To s n → downs s (Some x) t → (0 < n) × (x ≡ n) × To t (n - 1)
one_less s t n x h d = (omega (arith, h, d), omega (arith, h, d), (d.0 ∙ h.0, omega (arith, h, d)))

module _ {F : Type 0} {g : Mut F (Bor ℕ × Unit {0}) Bool} (a : Order) (f : F) (u : Rev (Range ℕ))
    (yes' : (x : ℕ) (q : F) → CalledAt g f x true q → place a x ≢ x)
    (no' : (x : ℕ) (q : F) → CalledAt g f x false q → (q ≡ f) × (place a x ≡ x)) where
  last_at : (r : Option ℕ) (s : Rev (Range ℕ)) (n : ℕ) → To s n → downs s r u → MatchOption r ⊤ (λ x. (q : F) × CalledAt g f x true q)
      → dimension_to a n ≡ unwrap_or r 0
  last_at None s n h d m = to_none a n (omega (arith, h, d))
  last_at (Some x) s n h d m =
      let w = one_less s u n x h d in
      to_found a n w.0 (subst (λ (k : ℕ). place a k ≢ k) w.1 (yes' x m.0 m.1)) ∙ sym w.1

  found_at : (xs : List ℕ) (r : Option ℕ) (s t : Rev (Range ℕ)) (j : F) (n : ℕ) → To s n → Yields downs s xs t → downs t r u
      → FoldsTo (λ p x q. CalledAt g p x false q) f xs j → MatchOption r ⊤ (λ x. (q : F) × CalledAt g j x true q)
      → dimension_to a n ≡ unwrap_or r 0
  found_at [] r s t j n h y d w m =
      last_at r s n h (subst (λ (k : Rev (Range ℕ)). downs k r u) (sym y) d) (subst (λ (k : F). MatchOption r ⊤ (λ x. (q : F) × CalledAt g k x true q)) (sym w) m)
  found_at (x ∷ xs) r s t j n h y d w m =
      let k = one_less s y.0 n x h y.1 in
      let called = no' x w.0 w.1 in
      to_still_down a n k.0 (subst (λ (i : ℕ). place a i ≡ i) k.1 called.1)
      ∙ found_at xs r y.0 t j (n - 1) k.2 y.2 d (subst (λ (i : F). FoldsTo (λ p x q. CalledAt g p x false q) i xs j) called.0 w.2) m

  pub dimension_from_find : (r : Option ℕ) (s : Rev (Range ℕ)) → To s 16
      → (xs : List ℕ) × (j : F) × YieldsThen downs s xs r u × FoldsTo (λ p x q. CalledAt g p x false q) f xs j × MatchOption r ⊤ (λ x. (q : F) × CalledAt g j x true q)
      → unwrap_or r 0 ≡ dimension a
  unfolding dimension
  dimension_from_find r s h d = sym (found_at d.0 r s d.2.0 d.1 16 h d.2.1 d.2.2 d.3 d.4)
