-- Digits at the front of a text, and the number that they write. Assumes nothing.
use Rattle.std.proofs.Common.{◌≡◌, ℕ, zero, suc, ◌+◌, ◌-◌, ◌*◌, ◌^◌, ◌<◌, ◌≤◌, List, [], ◌∷◌, ◌++◌, length, get_or, take, drop, Some, None, decimal, Option, MatchOption, sym, refl, ap, ◌∙◌, subst, arith, rules}
use Rattle.std.proofs.lemmas.List.{take_more, length-take}
use Rattle.std.proofs.ByRecursion.{All-take}
use Rattle.std.specs.List.{AllByRecursion, AllWithin, HoldsAt}
use Rattle.std.specs.Option.{unwrap_or}
use Rattle.std.proofs.lemmas.Str.Parse.{IsNumeralModel, numerals_by_fold, digits_value_short}
use Rattle.std.proofs.lemmas.Fmt.{digits_decimal, decimal-digits_value, decimal_digit, decimal_nonempty, first_decimal, length-decimal-le, decimal_injective}
use Rattle.lines.specs.Format.{Digit, Ends, Plain, read_on, more}

pub own : IsNumeralModel (AllByRecursion Digit) (read_on 0)
own = numerals_by_fold _ (search rules) read_on (search rules)

pub below_64 : (n : ℕ) → n < 10 ^ 14 → n < 2 ^ 64
below_64 n h = omega arith

-- a text has one front of digits
pub split : (ds es a b : List ℕ) → AllByRecursion Digit ds → AllByRecursion Digit es → Ends a → Ends b → ds ++ a ≡ es ++ b → (ds ≡ es) × (a ≡ b)
split [] [] a b p q u v e = (refl, e)
split [] (y ∷ es) [] b p q u v e = let l : ◌≡◌ {A = ℕ} 0 (suc (length (es ++ b))) = ap length e in absurd (omega arith)
split [] (y ∷ es) (x ∷ a) b p q u v e = absurd (u (subst Digit (sym (ap (λ l. get_or l 0 0) e)) q.0))
split (x ∷ ds) [] a [] p q u v e = let l : ◌≡◌ {A = ℕ} (suc (length (ds ++ a))) 0 = ap length e in absurd (omega arith)
split (x ∷ ds) [] a (y ∷ b) p q u v e = absurd (v (subst Digit (ap (λ l. get_or l 0 0) e) p.0))
split (x ∷ ds) (y ∷ es) a b p q u v e =
    let h = split ds es a b p.1 q.1 u v (ap (drop 1) e) in
    let f : x ≡ y = ap (λ l. get_or l 0 0) e in
    ((λ i. f i ∷ h.0 i), h.1)

pub digits_of : (n : ℕ) → n < 10 ^ 14 → AllByRecursion Digit (decimal n)
digits_of n h = digits_decimal own n (below_64 n h)

pub plain_decimal : (n : ℕ) → n < 10 ^ 14 → Plain (decimal n)
plain_decimal zero h = let e = decimal_digit 0 (omega arith) in subst Plain (sym e) (omega arith, omega arith, λ _. refl)
plain_decimal (suc n) h = (
  decimal_nonempty (suc n) (below_64 _ h),
  length-decimal-le 14 (suc n) (omega arith) h (below_64 _ h),
  λ e. absurd (omega (arith, first_decimal (suc n) (omega arith) (below_64 _ h))),
)

-- digits as they are printed are those of their number
pub decimal_back : (ds : List ℕ) → AllByRecursion Digit ds → Plain ds → (decimal (read_on 0 ds) ≡ ds) × (read_on 0 ds < 10 ^ 14)
decimal_back ds p q =
    let small : read_on 0 ds < 10 ^ 14 = digits_value_short own ds 14 p q.1 in
    (decimal-digits_value own ds p q.0 q.2 (below_64 _ small), small)

-- one digit more
pub read_on_push : (n : ℕ) (ds : List ℕ) (c : ℕ) → read_on n (ds ++ c ∷ []) ≡ read_on n ds * 10 + (c - 48)
read_on_push n [] c = refl
read_on_push n (d ∷ ds) c = read_on_push (n * 10 + (d - 48)) ds c

pub read_on_more : (ds : List ℕ) (i : ℕ) → i < length ds → read_on 0 (take (i + 1) ds) ≡ read_on 0 (take i ds) * 10 + (get_or ds i 0 - 48)
read_on_more ds i h = ap (read_on 0) (take_more ds i 0 h) ∙ read_on_push 0 (take i ds) (get_or ds i 0)

pub read_on_small : (ds : List ℕ) (i : ℕ) → AllByRecursion Digit ds → length ds ≤ 14 → read_on 0 (take i ds) < 10 ^ 14
read_on_small ds i p h = digits_value_short own (take i ds) 14 (All-take Digit i ds p) (simp length-take (omega arith))

-- the text is cut after the digits in front
pub record Front (text ds after : List ℕ) : Type 0 where
  pub joined : text ≡ ds ++ after
  pub digits : AllByRecursion Digit ds
  pub stops : Ends after

module _ {text ds after : List ℕ} (f : Front text ds after) where
  pub front_is : (n : ℕ) (rest : List ℕ) → n < 10 ^ 14 → Ends rest → text ≡ decimal n ++ rest → (ds ≡ decimal n) × (after ≡ rest)
  front_is n rest h ends t = split ds (decimal n) after rest f.digits (digits_of n h) f.stops ends (sym f.joined ∙ t)

  pub reads_back : Plain ds → (read_on 0 ds < 10 ^ 14) × Ends after × (text ≡ decimal (read_on 0 ds) ++ after)
  reads_back p = let b = decimal_back ds f.digits p in (b.1, f.stops, f.joined ∙ ap (λ l. l ++ after) (sym b.0))

  pub refuses : (Plain ds → ⊥) → (n : ℕ) (rest : List ℕ) → n < 10 ^ 14 → Ends rest → text ≡ decimal n ++ rest → ⊥
  refuses not n rest h ends t = not (subst Plain (sym (front_is n rest h ends t).0) (plain_decimal n h))

-- a text begins with one number
pub same_number : (m n : ℕ) (r s : List ℕ) → m < 10 ^ 14 → n < 10 ^ 14 → Ends r → Ends s → decimal m ++ r ≡ decimal n ++ s → (m ≡ n) × (r ≡ s)
same_number m n r s h k u v t =
    let p = split (decimal m) (decimal n) r s (digits_of m h) (digits_of n k) u v t in
    (decimal_injective m n (below_64 m h) (below_64 n k) p.0, p.1)

-- what follows a number is no digit
pub ends_more : (ns : List ℕ) → Ends (more ns)
ends_more [] = tt
ends_more (n ∷ ns) = λ d. omega (arith, d.0)

-- what holds up to a place holds of the front
pub front_all : (P : ℕ → Type 0) (xs : List ℕ) (n : ℕ) → n ≤ length xs → AllWithin P xs 0 n → AllByRecursion P (take n xs)
front_all P xs zero h all = tt
front_all P [] (suc n) h all = absurd (omega arith)
front_all P (x ∷ xs) (suc n) h all = (all 0 0 (omega arith) (omega arith), front_all P xs n (omega arith) (λ k d l m. all (suc k) d (omega arith) (omega arith)))

-- all that stands before the first that is not P
pub before_first : (P : ℕ → Type 0) (xs : List ℕ) (r : Option ℕ) (n : ℕ) → n ≡ unwrap_or r (length xs) →
    MatchOption r (AllWithin P xs 0 (length xs)) (λ i. (i < length xs) × HoldsAt (λ x. P x → ⊥) xs i × AllWithin P xs 0 i) → AllByRecursion P (take n xs)
before_first P xs None n e h = subst (λ k. AllByRecursion P (take k xs)) (sym e) (front_all P xs (length xs) (omega arith) h)
before_first P xs (Some i) n e h = subst (λ k. AllByRecursion P (take k xs)) (sym e) (front_all P xs i (omega (arith, h.0)) h.2)
