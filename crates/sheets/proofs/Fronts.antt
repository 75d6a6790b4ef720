-- Lines of names and of values at the front of a text. Assumes nothing.
use Rattle.std.proofs.Common.{◌≡◌, ℕ, suc, ◌+◌, ◌-◌, ◌≤◌, Bool, true, false, List, [], ◌∷◌, ◌++◌, length, get_or, take, drop, Some, None, Ok, Err, sym, refl, ap, ◌∙◌, ap₂, arith, eq-eqb, ne_eqb}
use Rattle.std.specs.Str.{bytes_eq}
use Rattle.std.proofs.lemmas.Slice.Eq.{bytes_eq-Decides}
use Rattle.std.proofs.lemmas.List.{drop_more, take_at, drop_at, take_rest, take-append-drop}
use Rattle.lines.specs.Reading.{cut, numbers}
use Rattle.sheets.specs.Faults.{bad_line}
use Rattle.sheets.specs.Lines.{ask, names, values_by, values_in, values}

-- the bytes of xs from k on are those of ps
abbrev pub From : ℕ → List ℕ → List ℕ → Type 0
From k [] xs = Unit {0}
From k (p ∷ ps) xs = (get_or xs k 0 ≡ p) × From (k + 1) ps xs

pub from_drop : (ps xs : List ℕ) (k : ℕ) → k + length ps ≤ length xs → From k ps xs → drop k xs ≡ ps ++ drop (k + length ps) xs
from_drop [] xs k h f = ap (λ n. drop n xs) (omega arith)
from_drop (p ∷ ps) xs k h f =
    let more = from_drop ps xs (k + 1) (omega arith) f.1 in
    let n : (k + 1) + length ps ≡ k + suc (length ps) = omega arith in
    drop_more xs k 0 (omega arith) ∙ (λ j. f.0 j ∷ (more ∙ ap (λ m. ps ++ drop m xs) n) j)

-- bytes that are read one by one stand first
pub front_read : (wanted text : List ℕ) → length wanted ≤ length text → From 0 wanted text → text ≡ wanted ++ take (length text - length wanted) (drop (length wanted) text)
front_read wanted text h f =
    from_drop wanted text 0 (omega arith) f ∙ ap (λ n. wanted ++ drop n text) (let z : 0 + length wanted ≡ length wanted = omega arith in z)
    ∙ ap (λ l. wanted ++ l) (sym (take_rest text (length wanted)))

-- names that stand first are taken off
pub names_ok : (wanted : List ℕ) (k : ℕ) (text rest : List ℕ) → text ≡ wanted ++ rest → names wanted k text ≡ Ok rest
unfolding names
names_ok wanted k text rest e =
    ap₂ (λ (t : Bool) (r : List ℕ). ask t (bad_line k) (Ok r))
    ((bytes_eq-Decides _ _).1 (ap (take (length wanted)) e ∙ take_at wanted rest _ refl))
    (ap (drop (length wanted)) e ∙ drop_at wanted rest _ refl)

-- other names are a fault of the line
pub names_no : (wanted : List ℕ) (k : ℕ) (text : List ℕ) → ((rest : List ℕ) → text ≡ wanted ++ rest → ⊥) → names wanted k text ≡ Err (bad_line k)
unfolding names
names_no wanted k text bar = by (bytes_eq (take (length wanted) text) wanted) refl
  where
    by : (t : Bool) → bytes_eq (take (length wanted) text) wanted ≡ t → ask t (bad_line k) (Ok (drop (length wanted) text)) ≡ Err (bad_line k)
    by true e = absurd (bar _ (sym (take-append-drop (length wanted) text) ∙ ap (λ l. l ++ drop (length wanted) text) ((bytes_eq-Decides _ _).0 e)))
    by false e = refl

-- a line of values, by what is cut off and read
module _ (count k : ℕ) (text : List ℕ) where
  pub values_no_line : cut text ≡ None → values count k text ≡ Err (bad_line k)
  unfolding values
  values_no_line e = ap (values_in count k) e

  module _ (l rest : List ℕ) (c : cut text ≡ Some (l, rest)) where
    pub values_no_numbers : numbers l ≡ None → values count k text ≡ Err (bad_line k)
    unfolding values
    values_no_numbers e = ap (values_in count k) c ∙ ap (values_by count k rest) e

    module _ (ns : List ℕ) (n : numbers l ≡ Some ns) where
      pub values_ok : length ns ≡ count → values count k text ≡ Ok (ns, rest)
      unfolding values
      values_ok e = ap (values_in count k) c ∙ ap (values_by count k rest) n ∙ ap (λ t. ask t (bad_line k) (Ok (ns, rest))) (eq-eqb _ _ e)

      pub values_no : (length ns ≡ count → ⊥) → values count k text ≡ Err (bad_line k)
      unfolding values
      values_no e = ap (values_in count k) c ∙ ap (values_by count k rest) n ∙ ap (λ t. ask t (bad_line k) (Ok (ns, rest))) (ne_eqb _ _ e)
