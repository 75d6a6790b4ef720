-- Lines 1 to 3 of a sheet, question by question. Assumes nothing.
use Rattle.std.proofs.Common.{◌≡◌, ℕ, ◌<◌, ◌≤◌, Bool, true, false, eqb, List, length, get_or, IsErrAnd, Some, None, Ok, Err, Option, Result, sym, refl, ap, ◌∙◌, subst, arith, le-ltb, lt-ltb, eq-eqb, ne_eqb, eqb-true, MatchResult}
use Rattle.lines.specs.Reading.{cut, numbers}
use Rattle.sheets.specs.declared.fault.Fault.{Fault}
use Rattle.sheets.specs.Faults.{bad_line, other_chain}
use Rattle.sheets.specs.Format.{head, node_names}
use Rattle.sheets.specs.Lines.{ask, after, names, values_by, values_in, values}
use Rattle.sheets.specs.Checks.{Top, top_by, top}

-- a question that is answered
pub asked_yes : {A : Type 0} (t : Bool) (f : Fault) (r : Result A Fault) → t ≡ true → ask t f r ≡ r
asked_yes t f r e = ap (λ b. ask b f r) e

pub asked_no : {A : Type 0} (t : Bool) (f : Fault) (r : Result A Fault) → t ≡ false → ask t f r ≡ Err f
asked_no t f r e = ap (λ b. ask b f r) e

-- a fault that is passed on
pub passed : {A : Type 0} (P : A → Type 0) (Q : Fault → Type 0) (x : Fault) (r : Result A Fault) → IsErrAnd r (λ y. y ≡ x) → Q x → MatchResult r P Q
passed P Q x (Ok a) e q = absurd e
passed P Q x (Err y) e q = subst Q (sym e) q

-- values that are read are as many as asked for
pub values_count : (count k : ℕ) (text : List ℕ) (p : List ℕ × List ℕ) → values count k text ≡ Ok p → length p.0 ≡ count
unfolding values
values_count count k text p = by (cut text)
  where
    then_by : (ns rest : List ℕ) (t : Bool) → eqb (length ns) count ≡ t → ask t (bad_line k) (Ok (ns, rest)) ≡ Ok p → length p.0 ≡ count
    then_by ns rest true e h = let is : ns ≡ p.0 = ap (λ (r : Result (List ℕ × List ℕ) Fault). elim r [ Ok q ↦ q.0 | Err f ↦ ns ]) h in sym (ap length is) ∙ eqb-true _ _ e
    then_by ns rest false e h = let z : ◌≡◌ {A = ℕ} 0 1 = cc in absurd (omega arith)

    in_by : (rest : List ℕ) (r : Option (List ℕ)) → values_by count k rest r ≡ Ok p → length p.0 ≡ count
    in_by rest None h = let z : ◌≡◌ {A = ℕ} 0 1 = cc in absurd (omega arith)
    in_by rest (Some ns) h = then_by ns rest (eqb (length ns) count) refl h

    by : (r : Option (List ℕ × List ℕ)) → values_in count k r ≡ Ok p → length p.0 ≡ count
    by None h = let z : ◌≡◌ {A = ℕ} 0 1 = cc in absurd (omega arith)
    by (Some q) h = in_by q.1 (numbers q.0) h

module _ (chain : ℕ) (text : List ℕ) where
  pub top_no_names : (f : Fault) → names head 1 text ≡ Err f → top chain text ≡ Err f
  unfolding top
  top_no_names f e = ap (λ r. after r (λ rest. after (values 3 2 rest) (top_by chain))) e

  module _ (t : List ℕ) (one : names head 1 text ≡ Ok t) where
    pub top_no_values : (f : Fault) → values 3 2 t ≡ Err f → top chain text ≡ Err f
    unfolding top
    top_no_values f e = ap (λ r. after r (λ rest. after (values 3 2 rest) (top_by chain))) one ∙ ap (λ r. after r (top_by chain)) e

    module _ (ns u : List ℕ) (two : values 3 2 t ≡ Ok (ns, u)) where
      top_is : top chain text ≡ top_by chain (ns, u)
      unfolding top
      top_is = ap (λ r. after r (λ rest. after (values 3 2 rest) (top_by chain))) one ∙ ap (λ r. after r (top_by chain)) two

      pub top_many : 2046 < get_or ns 1 0 → top chain text ≡ Err (bad_line 2)
      top_many h = top_is ∙ asked_no _ _ _ (le-ltb (get_or ns 1 0) 2047 (omega arith))

      module _ (few : get_or ns 1 0 ≤ 2046) where
        pub top_other : (get_or ns 0 0 ≡ chain → ⊥) → top chain text ≡ Err other_chain
        top_other h = top_is ∙ asked_yes _ _ _ (lt-ltb (get_or ns 1 0) 2047 (omega arith)) ∙ asked_no _ _ _ (ne_eqb _ _ h)

        module _ (same : get_or ns 0 0 ≡ chain) where
          abbrev made : List ℕ → Result Top Fault
          made rest = Ok record { nodes = get_or ns 1 0; orders = get_or ns 2 0; rest = rest }

          then_names : top chain text ≡ after (names node_names 3 u) made
          then_names = top_is ∙ asked_yes _ _ _ (lt-ltb (get_or ns 1 0) 2047 (omega arith)) ∙ asked_yes _ _ _ (eq-eqb _ _ same)

          pub top_no_node_names : (f : Fault) → names node_names 3 u ≡ Err f → top chain text ≡ Err f
          top_no_node_names f e = then_names ∙ ap (λ r. after r made) e

          pub top_ok : (rest : List ℕ) → names node_names 3 u ≡ Ok rest → top chain text ≡ made rest
          top_ok rest e = then_names ∙ ap (λ r. after r made) e
