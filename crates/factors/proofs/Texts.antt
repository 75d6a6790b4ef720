-- The text of factors, one after the other. Assumes nothing.
use Rattle.std.proofs.Common.{◌≡◌, ℕ, suc, ◌+◌, ◌<◌, ◌≤◌, ◌⊎◌, subst, take, true≢false, append_assoc, lt-ltb, le-ltb, Bool, true, false, cond, ltb, List, [], ◌∷◌, ◌++◌, length, get_or, codes, sym, refl, ap, ◌∙◌, inl, inr, append-nil, add-one, arith, length-append}
use Rattle.orders.specs.Factors.{pairs_in}
use Rattle.orders.proofs.Runs.{last_of}
use Rattle.factors.specs.Account.{factor_text, factor_list, factors_text, or_none, Cut}

by_test : (b : Bool) (x y : ℕ) (rest : List (ℕ × ℕ)) → factor_list (cond b ((x, y) ∷ rest) rest) ≡ factor_text x y b ++ factor_list rest
by_test true x y rest = refl
by_test false x y rest = refl

-- the factor at n + 1, and those below it
list_more : (row : List ℕ) (n : ℕ) → factor_list (pairs_in row (n + 1)) ≡ factor_text (n + 1) (get_or row n 0) (ltb (get_or row n 0) (n + 1)) ++ factor_list (pairs_in row n)
unfolding pairs_in
list_more row n = rw (add-one n) (by_test (ltb (get_or row n 0) (suc n)) (suc n) (get_or row n 0) (pairs_in row n))

pub none_left : (row : List ℕ) → factor_list (pairs_in row 0) ≡ []
unfolding pairs_in
none_left row = refl

pub or_some : (bs : List ℕ) → (length bs ≡ 0 → ⊥) → or_none bs ≡ bs
or_some [] some = absurd (some refl)
or_some (b ∷ bs) some = refl

-- what is left after a line is shorter
pub cut_shorter : (text line rest : List ℕ) → Cut text line rest → 0 < length text → length rest < length text
cut_shorter text line rest cut some = elim cut.parts [
  | inl e ↦ omega (arith, ap length e, length-append line (10 ∷ rest))
  | inr e ↦ omega (arith, ap length e.1)
]

-- whether nothing is written yet
abbrev pub Flag : Bool → List ℕ → Type 0
Flag none bs = ((none ≡ true) × (bs ≡ [])) ⊎ ((none ≡ false) × (0 < length bs))

-- one turn: y is the last of the rest, and `below` is what stands before it
module _ (row rest below : List ℕ) (y : ℕ) (front : rest ≡ take (length rest) row) (cut : rest ≡ below ++ y ∷ []) (bs : List ℕ) (inv : bs ++ factor_list (pairs_in row (length rest)) ≡ factor_list (pairs_in row 16)) where
  size : length rest ≡ length below + 1
  size = omega (arith, ap length cut, length-append below (y ∷ []))

  last : (below ≡ take (length below) row) × (y ≡ get_or row (length below) 0)
  last = last_of row below y (subst (λ l. l ≡ take (length l) row) cut front)

  pub below_front : below ≡ take (length below) row
  below_front = last.0

  next : factor_list (pairs_in row (length rest)) ≡ factor_text (length rest) y (ltb y (length rest)) ++ factor_list (pairs_in row (length below))
  next =
      ap (λ n. factor_list (pairs_in row n)) size ∙ list_more row (length below)
      ∙ (λ i. factor_text (sym size i) (sym last.1 i) (ltb (sym last.1 i) (sym size i)) ++ factor_list (pairs_in row (length below)))

  pub factor_put : y < length rest → (bs ++ factor_text (length rest) y true) ++ factor_list (pairs_in row (length below)) ≡ factor_list (pairs_in row 16)
  factor_put h =
      append_assoc bs (factor_text (length rest) y true) (factor_list (pairs_in row (length below)))
      ∙ ap (λ l. bs ++ l) (sym (next ∙ ap (λ b. factor_text (length rest) y b ++ factor_list (pairs_in row (length below))) (lt-ltb y (length rest) h))) ∙ inv

  pub none_put : length rest ≤ y → bs ++ factor_list (pairs_in row (length below)) ≡ factor_list (pairs_in row 16)
  none_put h =
      ap (λ l. bs ++ l) (sym (next ∙ ap (λ b. factor_text (length rest) y b ++ factor_list (pairs_in row (length below))) (le-ltb y (length rest) h))) ∙ inv

-- all factors are written, or `none`
module _ (row rest bs : List ℕ) (end : length rest ≡ 0) (inv : bs ++ factor_list (pairs_in row (length rest)) ≡ factor_list (pairs_in row 16)) where
  whole : bs ≡ factor_list (pairs_in row 16)
  whole = sym (append-nil bs) ∙ ap (λ l. bs ++ l) (sym (ap (λ n. factor_list (pairs_in row n)) end ∙ none_left row)) ∙ inv

  pub none_written : Flag true bs → bs ++ codes " none" ≡ factors_text (pairs_in row 16)
  none_written (inl w) = ap (λ l. l ++ codes " none") w.1 ∙ ap or_none (sym w.1 ∙ whole)
  none_written (inr w) = absurd (true≢false w.0)

  pub some_written : Flag false bs → bs ≡ factors_text (pairs_in row 16)
  some_written (inl w) = absurd (true≢false (sym w.0))
  some_written (inr w) = whole ∙ sym (or_some (factor_list (pairs_in row 16)) (λ z. omega (arith, w.1, z, ap length whole)))
