-- Numbers that follow others on a line. Assumes nothing.
use Rattle.std.proofs.Common.{◌≡◌, ℕ, ◌+◌, ◌^◌, ◌<◌, ◌≤◌, List, [], ◌∷◌, ◌++◌, length, get_or, drop, Some, None, decimal, Option, sym, refl, ap, ◌∙◌, subst, append_assoc, arith, length-append, MatchOption}
use Rattle.std.specs.List.{between}
use Rattle.std.proofs.lemmas.Slice.{first_rest}
use Rattle.lines.specs.Format.{Ends, more, written, Values}
use Rattle.lines.specs.Held.{held}
use Rattle.lines.specs.declared.numbers.Fields.{Fields}
use Rattle.lines.proofs.Fronts.{same_number, ends_more}

-- no number stands first
abbrev pub NoNumber : List ℕ → Type 0
NoNumber text = (n : ℕ) (rest : List ℕ) → n < 10 ^ 14 → Ends rest → text ≡ decimal n ++ rest → ⊥

-- a number stands first
abbrev pub Number : List ℕ → ℕ → List ℕ → Type 0
Number text n rest = (n < 10 ^ 14) × Ends rest × (text ≡ decimal n ++ rest)

-- nothing that may follow k numbers stands here
abbrev pub NoMore : List ℕ → ℕ → Type 0
NoMore text k = (ns : List ℕ) → Values ns → k + length ns ≤ 16 → text ≡ more ns → ⊥

-- what stands here follows the numbers h, and f has all of them
abbrev pub More : List ℕ → List ℕ → Fields → Type 0
More text h f = (ns : List ℕ) × Values ns × (held f ≡ h ++ ns) × (text ≡ more ns)

no_nil : {x : ℕ} {xs : List ℕ} → x ∷ xs ≡ [] → ⊥
no_nil e = let z : ◌≡◌ {A = ℕ} 0 1 = cc in omega arith

-- a blank, and what follows it
pub after_blank : (text : List ℕ) → 0 < length text → get_or text 0 0 ≡ 32 → text ≡ 32 ∷ between 1 (length text) text
after_blank text some first = first_rest text 0 some ∙ ap (λ x. x ∷ between 1 (length text) text) first

pub first_none : (text after : List ℕ) (k : ℕ) → text ≡ 32 ∷ after → NoNumber after → NoMore text k
first_none text after k e bar [] v l t = no_nil (sym e ∙ t)
first_none text after k e bar (n ∷ ns) v l t = bar n (more ns) v.0 (ends_more ns) (ap (drop 1) (sym e ∙ t))

pub no_room : (text after : List ℕ) (k : ℕ) → text ≡ 32 ∷ after → 16 ≤ k → NoMore text k
no_room text after k e full [] v l t = no_nil (sym e ∙ t)
no_room text after k e full (n ∷ ns) v l t = omega arith

pub other_first : (text : List ℕ) (k : ℕ) → (text ≡ [] → ⊥) → ((after : List ℕ) → text ≡ 32 ∷ after → ⊥) → NoMore text k
other_first text k some not [] v l t = some t
other_first text k some not (n ∷ ns) v l t = not (decimal n ++ more ns) t

module _ (text after rest : List ℕ) (value : ℕ) (e : text ≡ 32 ∷ after) (number : Number after value rest) where
  same : (n : ℕ) (ns : List ℕ) → n < 10 ^ 14 → text ≡ more (n ∷ ns) → (value ≡ n) × (rest ≡ more ns)
  same n ns h t = same_number value n rest (more ns) number.0 h number.1 (ends_more ns) (sym number.2 ∙ ap (drop 1) (sym e ∙ t))

  pub shorter : length rest < length text
  shorter = omega (arith, ap length e, ap length number.2, length-append (decimal value) rest)

  pub later_none : (k j : ℕ) → j ≤ k + 1 → NoMore rest j → NoMore text k
  later_none k j s bar [] v l t = no_nil (sym e ∙ t)
  later_none k j s bar (n ∷ ns) v l t = bar ns v.1 (omega arith) (same n ns v.0 t).1

  pub later_more : (h : List ℕ) (g f : Fields) → held g ≡ h ++ value ∷ [] → More rest (held g) f → More text h f
  later_more h g f one (ns, v, all, t) = (
    value ∷ ns,
    (number.0, v),
    all ∙ ap (λ l. l ++ ns) one ∙ append_assoc h (value ∷ []) ns,
    e ∙ ap (λ l. 32 ∷ l) (number.2 ∙ ap (λ l. decimal value ++ l) t),
  )

-- the first number of a line, and those that follow
module _ (text rest : List ℕ) (value : ℕ) (number : Number text value rest) where
  pub line_none : (k : ℕ) → k ≤ 1 → NoMore rest k → (ns : List ℕ) → Values ns → 1 ≤ length ns → length ns ≤ 16 → text ≡ written ns → ⊥
  line_none k s bar [] v l h t = omega arith
  line_none k s bar (n ∷ ns) v l h t =
      bar ns v.1 (omega arith) (same_number value n rest (more ns) number.0 v.0 number.1 (ends_more ns) (sym number.2 ∙ t)).1

  pub line_more : (g f : Fields) → held g ≡ value ∷ [] → More rest (held g) f → Values (held f) × (1 ≤ length (held f)) × (text ≡ written (held f))
  line_more g f one (ns, v, all, t) =
      let is : held f ≡ value ∷ ns = all ∙ ap (λ l. l ++ ns) one in (
        subst Values (sym is) (number.0, v),
        omega (arith, ap length is),
        number.2 ∙ ap (λ l. decimal value ++ l) t ∙ sym (ap written is),
      )

pub first_line_none : (text : List ℕ) → NoNumber text → (ns : List ℕ) → Values ns → 1 ≤ length ns → length ns ≤ 16 → text ≡ written ns → ⊥
first_line_none text bar [] v l h t = omega arith
first_line_none text bar (n ∷ ns) v l h t = bar n (more ns) v.0 (ends_more ns) t

-- the same by the answer of a call
pub cases_map : {A : Type 0} (P Q : Type 0) (R S : A → Type 0) (r : Option A) → (P → Q) → ((a : A) → R a → S a) → MatchOption r P R → MatchOption r Q S
cases_map P Q R S None f g h = f h
cases_map P Q R S (Some a) f g h = g a h

-- a line is read in one way
more_tells : (ns ms : List ℕ) → Values ns → Values ms → more ns ≡ more ms → ns ≡ ms
more_tells [] [] v w e = refl
more_tells [] (m ∷ ms) v w e = absurd (no_nil (sym e))
more_tells (n ∷ ns) [] v w e = absurd (no_nil e)
more_tells (n ∷ ns) (m ∷ ms) v w e =
    let p = same_number n m (more ns) (more ms) v.0 w.0 (ends_more ns) (ends_more ms) (ap (drop 1) e) in
    let q = more_tells ns ms v.1 w.1 p.1 in
    λ i. p.0 i ∷ q i

pub written_tells : (ns ms : List ℕ) → Values ns → Values ms → 1 ≤ length ns → 1 ≤ length ms → written ns ≡ written ms → ns ≡ ms
written_tells [] ms v w a b e = absurd (omega arith)
written_tells (n ∷ ns) [] v w a b e = absurd (omega arith)
written_tells (n ∷ ns) (m ∷ ms) v w a b e =
    let p = same_number n m (more ns) (more ms) v.0 w.0 (ends_more ns) (ends_more ms) e in
    let q = more_tells ns ms v.1 w.1 p.1 in
    λ i. p.0 i ∷ q i
