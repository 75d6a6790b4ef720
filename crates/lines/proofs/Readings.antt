-- What is read off a text is what would be written. Assumes nothing.
use Rattle.std.proofs.Common.{◌≡◌, ℕ, ◌^◌, ◌<◌, ◌≤◌, Bool, true, false, ◌&&◌, eqb, ltb, List, [], ◌∷◌, ◌++◌, map, length, Some, None, decimal, Option, sym, refl, ap, ◌∙◌, subst, ap₂, append-nil, arith, length-take-le, Bor, ltb-true, lt-ltb, ne_eqb, eqb-true, MatchOption}
use borrow.Author.Tests.{eqb-false}
use lib.ListN.{length-map}
use Rattle.std.specs.Option.{option_map}
use Rattle.std.specs.List.{AllByRecursion}
use Rattle.std.specs.Str.{bytes_eq}
use Rattle.std.proofs.lemmas.Bool.{and_parts}
use Rattle.std.proofs.lemmas.Slice.Eq.{bytes_eq-Decides}
use Rattle.std.proofs.lemmas.Fmt.{digits_value-decimal}
use Rattle.lines.specs.declared.numbers.Fields.{Fields}
use Rattle.lines.specs.Format.{Digit, read_on, more, written, Values, Without}
use Rattle.lines.specs.Held.{held}
use Rattle.lines.specs.Reading.{cut_by, cut, word_by, words, below, numbers_by, guess, numbers}
use Rattle.lines.proofs.Fronts.{own, below_64, digits_of}

-- a line and its end are cut off as they stand
pub cut_line : (l rest : List ℕ) → Without 10 l → cut (l ++ 10 ∷ rest) ≡ Some (l, rest)
cut_line [] rest w = refl
cut_line (c ∷ l) rest w = ap₂ (λ (t : Bool) (r : Option (List ℕ × List ℕ)). cut_by t c (l ++ 10 ∷ rest) r) (ne_eqb c 10 w.0) (cut_line l rest w.1)

-- where no line ends, none is cut off
pub cut_none : (t : List ℕ) → Without 10 t → cut t ≡ None
cut_none [] w = refl
cut_none (c ∷ t) w = ap₂ (λ (b : Bool) (r : Option (List ℕ × List ℕ)). cut_by b c t r) (ne_eqb c 10 w.0) (cut_none t w.1)

-- what is cut off stood there
abbrev pub Cuts : List ℕ → Option (List ℕ × List ℕ) → Type 0
Cuts t None = Without 10 t
Cuts t (Some p) = (t ≡ p.0 ++ 10 ∷ p.1) × Without 10 p.0

pub cut_is : (t : List ℕ) → Cuts t (cut t)
cut_is [] = tt
cut_is (c ∷ t) = by (eqb c 10) refl (cut t) (cut_is t)
  where
    by : (b : Bool) → eqb c 10 ≡ b → (r : Option (List ℕ × List ℕ)) → Cuts t r → Cuts (c ∷ t) (cut_by b c t r)
    by true e r h = (ap (λ (x : ℕ). x ∷ t) (eqb-true c 10 e), tt)
    by false e None h = (eqb-false c 10 e, h)
    by false e (Some p) h = (ap (λ (z : List ℕ). c ∷ z) h.0, (eqb-false c 10 e, h.1))

-- a word that ends in a blank, and the last one
words_more : (w rest : List ℕ) → Without 32 w → words (w ++ 32 ∷ rest) ≡ w ∷ words rest
words_more [] rest h = refl
words_more (c ∷ w) rest h = ap₂ (λ (b : Bool) (ws : List (List ℕ)). word_by b c ws) (ne_eqb c 32 h.0) (words_more w rest h.1)

words_last : (w : List ℕ) → Without 32 w → words w ≡ w ∷ []
words_last [] h = refl
words_last (c ∷ w) h = ap₂ (λ (b : Bool) (ws : List (List ℕ)). word_by b c ws) (ne_eqb c 32 h.0) (words_last w h.1)

-- digits are no blanks, and end no line
digits_no : (b : ℕ) → b < 48 → (ds : List ℕ) → AllByRecursion Digit ds → Without b ds
digits_no b h [] d = tt
digits_no b h (c ∷ ds) d = (λ e. omega (arith, d.0.0), digits_no b h ds d.1)

without_append : (b : ℕ) (l r : List ℕ) → Without b l → Without b r → Without b (l ++ r)
without_append b [] r h k = k
without_append b (c ∷ l) r h k = (h.0, without_append b l r h.1 k)

-- a written line has no end in it
more_plain : (ns : List ℕ) → Values ns → Without 10 (more ns)
more_plain [] v = tt
more_plain (n ∷ ns) v = (λ e. omega arith, without_append 10 (decimal n) (more ns) (digits_no 10 (omega arith) _ (digits_of n v.0)) (more_plain ns v.1))

pub written_plain : (ns : List ℕ) → Values ns → Without 10 (written ns)
written_plain [] v = tt
written_plain (n ∷ ns) v = without_append 10 (decimal n) (more ns) (digits_no 10 (omega arith) _ (digits_of n v.0)) (more_plain ns v.1)

-- the numbers that were written are guessed
guess_written : (n : ℕ) (ns : List ℕ) → Values (n ∷ ns) → guess (written (n ∷ ns)) ≡ n ∷ ns
guess_written n [] v =
    let d = digits_of n v.0 in
    ap (map (read_on 0)) (ap words (append-nil (decimal n)) ∙ words_last (decimal n) (digits_no 32 (omega arith) _ d))
    ∙ ap (λ (m : ℕ). m ∷ []) (digits_value-decimal own n (below_64 n v.0))
guess_written n (m ∷ ms) v =
    let d = digits_of n v.0 in
    ap (map (read_on 0)) (words_more (decimal n) (written (m ∷ ms)) (digits_no 32 (omega arith) _ d))
    ∙ ap₂ (λ (k : ℕ) (l : List ℕ). k ∷ l) (digits_value-decimal own n (below_64 n v.0)) (guess_written m ms v.1)

below_values : (ns : List ℕ) → Values ns → below ns ≡ true
below_values [] v = refl
below_values (n ∷ ns) v = ap₂ ◌&&◌ (lt-ltb n (10 ^ 14) v.0) (below_values ns v.1)

values_below : (ns : List ℕ) → below ns ≡ true → Values ns
values_below [] e = tt
values_below (n ∷ ns) e = let p = and_parts _ _ e in (ltb-true _ _ p.0, values_below ns p.1)

-- numbers that were written are read
pub numbers_written : (ns : List ℕ) → Values ns → 1 ≤ length ns → length ns ≤ 16 → numbers (written ns) ≡ Some ns
numbers_written [] v l h = absurd (omega arith)
numbers_written (n ∷ ns) v l h =
    let bs = written (n ∷ ns) in
    ap (λ (g : List ℕ). numbers_by g (bytes_eq (written g) bs && (below g && ltb (length g) 17))) (guess_written n ns v)
    ∙ ap (numbers_by (n ∷ ns)) (ap₂ ◌&&◌ ((bytes_eq-Decides bs bs).1 refl) (ap₂ ◌&&◌ (below_values (n ∷ ns) v) (lt-ltb _ _ (omega arith))))

-- a line has some word
words_some : (bs : List ℕ) → 1 ≤ length (words bs)
words_some [] = omega arith
words_some (c ∷ cs) = by (eqb c 32) (words cs)
  where
    by : (t : Bool) (ws : List (List ℕ)) → 1 ≤ length (word_by t c ws)
    by true ws = omega arith
    by false [] = omega arith
    by false (w ∷ ws) = omega arith

-- what is read off a line, or none
pub record Read (bs ns : List ℕ) : Type 0 where
  pub values : Values ns
  pub some : 1 ≤ length ns
  pub few : length ns ≤ 16
  pub is : bs ≡ written ns

pub numbers_read : (bs ns : List ℕ) → numbers bs ≡ Some ns → Read bs ns
numbers_read bs ns = by (bytes_eq (written (guess bs)) bs && (below (guess bs) && ltb (length (guess bs)) 17)) refl
  where
    by : (t : Bool) → (bytes_eq (written (guess bs)) bs && (below (guess bs) && ltb (length (guess bs)) 17)) ≡ t → numbers_by (guess bs) t ≡ Some ns → Read bs ns
    by false e h = let z : ◌≡◌ {A = ℕ} 0 1 = cc in absurd (omega arith)
    by true e h =
        let p = and_parts _ _ e in
        let q = and_parts _ _ p.1 in
        let g : guess bs ≡ ns = cc in
        record {
          values = subst Values g (values_below (guess bs) q.0);
          some = omega (arith, words_some bs, length-map (words bs) (read_on 0), ap length g);
          few = omega (arith, ltb-true _ _ q.1, ap length g);
          is = sym ((bytes_eq-Decides _ _).0 p.0) ∙ ap written g;
        }

-- the fields that are read, as the definition has them
pub fields_are : (bs : List ℕ) (r : Option Fields) →
    MatchOption r ((ns : List ℕ) → Values ns → 1 ≤ length ns → length ns ≤ 16 → bs ≡ written ns → ⊥)
    (λ f. Values (held f) × (1 ≤ length (held f)) × (bs ≡ written (held f))) → option_map held r ≡ numbers bs
fields_are bs (Some f) h =
    let few = length-take-le f.count f.values (omega (arith, f.few, f.long)) in
    sym (ap numbers h.2 ∙ numbers_written (held f) h.0 h.1 (omega (arith, few, f.few)))
fields_are bs None h = by (numbers bs) refl
  where
    by : (r : Option (List ℕ)) → numbers bs ≡ r → None ≡ numbers bs
    by None e = sym e
    by (Some ns) e = let w = numbers_read bs ns e in absurd (h ns w.values w.some w.few w.is)

-- the line that is cut off, as the definition has it
pub first_is : (t : List ℕ) (r : Option (Bor (List ℕ) × Bor (List ℕ))) →
    MatchOption r (Without 10 t) (λ p. (t ≡ p.0.now ++ 10 ∷ p.1.now) × Without 10 p.0.now) → option_map (λ p. (p.0.now, p.1.now)) r ≡ cut t
first_is t None h = sym (cut_none t h)
first_is t (Some p) h = sym (ap cut h.0 ∙ cut_line p.0.now p.1.now h.1)
