-- A value that is there, or else an error. Assumes nothing.
use Rattle.std.proofs.Common.{◌≡◌, ◌⊎◌, inl, inr, Bool, true, false, ap, IsErrAnd, Some, None, Ok, Err, Option, Result, sym, refl, ◌∙◌, subst, MatchOption, MatchResult}
use Rattle.std.specs.Bool.{then_some}
use Rattle.std.specs.Option.{ok_or}

module _ {A E : Type 0} (o : Option A) (f : E) (r : Result A E) (is : r ≡ ok_or o f) where
  -- what is answered, by what is known of the two
  pub given : (No : Type 0) (Yes Y : A → Type 0) (N : E → Type 0) → MatchOption o No Yes → ((a : A) → Yes a → Y a) → (No → N f) → MatchResult r Y N
  given No Yes Y N m y n = subst (λ s. MatchResult s Y N) (sym is) (by o m)
    where
      by : (p : Option A) → MatchOption p No Yes → MatchResult (ok_or p f) Y N
      by (Some a) q = y a q
      by None q = n q

  pub given_some : (a : A) → r ≡ Ok a → o ≡ Some a
  given_some a e = by o (sym is ∙ e)
    where
      by : (p : Option A) → ok_or p f ≡ Ok a → p ≡ Some a
      by (Some b) q = cc
      by None q = cc

  pub given_none : (g : E) → r ≡ Err g → (o ≡ None) × (g ≡ f)
  given_none g e = by o (sym is ∙ e)
    where
      by : (p : Option A) → ok_or p f ≡ Err g → (p ≡ None) × (g ≡ f)
      by (Some b) q = cc
      by None q = (refl, cc)

  pub given_ok : (No : Type 0) (Yes : A → Type 0) → MatchOption o No Yes → (a : A) → r ≡ Ok a → Yes a
  given_ok No Yes m a e = subst (λ p. MatchOption p No Yes) (given_some a e) m

  pub given_err : (No : Type 0) (Yes : A → Type 0) → MatchOption o No Yes → (g : E) → r ≡ Err g → No × (g ≡ f)
  given_err No Yes m g e = let n = given_none g e in (subst (λ p. MatchOption p No Yes) n.0 m, n.1)

-- an error that is made another
module _ {A E D : Type 0} (o : Result A E) (r : Result A D) (Post : E → D → Type 0) (m : MatchResult o (λ x. r ≡ Ok x) (λ e. IsErrAnd r (Post e))) where
  pub mapped_ok : (a : A) → r ≡ Ok a → o ≡ Ok a
  mapped_ok a e = by o m
    where
      by : (p : Result A E) → MatchResult p (λ x. r ≡ Ok x) (λ e. IsErrAnd r (Post e)) → p ≡ Ok a
      by (Ok b) q = cc
      by (Err x) q = absurd (subst (λ s. IsErrAnd s (Post x)) e q)

  pub mapped_err : (g : D) → r ≡ Err g → (x : E) × (o ≡ Err x) × Post x g
  mapped_err g e = by o m
    where
      by : (p : Result A E) → MatchResult p (λ x. r ≡ Ok x) (λ e. IsErrAnd r (Post e)) → (x : E) × (p ≡ Err x) × Post x g
      by (Ok b) q = cc
      by (Err x) q = (x, refl, subst (λ s. IsErrAnd s (Post x)) e q)

-- a value that has to pass a test
module _ {A : Type 0} (o p : Option A) (Post : A → Bool → Type 0) (m : MatchOption o (p ≡ None) (λ x. (b : Bool) × Post x b × (p ≡ then_some b x)))
    (t : A → Bool) (tests : (x : A) (b : Bool) → Post x b → b ≡ t x) where
  by_test : (x : A) → (b : Bool) × Post x b × (p ≡ then_some b x) → p ≡ then_some (t x) x
  by_test x q = q.2 ∙ ap (λ b. then_some b x) (tests x q.0 q.1)

  pub filtered_some : (x : A) → p ≡ Some x → (o ≡ Some x) × (t x ≡ true)
  filtered_some x e = by o m
    where
      then_by : (y : A) (b : Bool) → t y ≡ b → p ≡ then_some b y → (Some y ≡ Some x) × (t x ≡ true)
      then_by y true s q =
          let is : y ≡ x = let w = sym q ∙ e in cc in
          (ap Some is, ap t (sym is) ∙ s)
      then_by y false s q = cc

      by : (r : Option A) → MatchOption r (p ≡ None) (λ x. (b : Bool) × Post x b × (p ≡ then_some b x)) → (r ≡ Some x) × (t x ≡ true)
      by (Some y) q = then_by y (t y) refl (by_test y q)
      by None q = cc

  pub filtered_none : p ≡ None → (o ≡ None) ⊎ ((x : A) × (o ≡ Some x) × (t x ≡ false))
  filtered_none e = by o m
    where
      then_by : (y : A) (b : Bool) → t y ≡ b → p ≡ then_some b y → t y ≡ false
      then_by y true s q = cc
      then_by y false s q = s

      by : (r : Option A) → MatchOption r (p ≡ None) (λ x. (b : Bool) × Post x b × (p ≡ then_some b x)) → (r ≡ None) ⊎ ((x : A) × (r ≡ Some x) × (t x ≡ false))
      by (Some y) q = inr (y, refl, then_by y (t y) refl (by_test y q))
      by None q = inl refl
