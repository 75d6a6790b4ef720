-- A line of values, read as it was written. Assumes nothing.
use Rattle.std.proofs.Common.{◌≡◌, ℕ, ◌≤◌, Bool, true, false, eqb, List, [], ◌∷◌, ◌++◌, length, Some, None, Ok, Err, Option, Result, sym, refl, ap, ◌∙◌, ap₂, append_assoc, arith, eqb-true}
use Rattle.lines.specs.Format.{Values, written, line}
use Rattle.lines.specs.Reading.{cut, numbers}
use Rattle.lines.proofs.Readings.{Cuts, cut_is, cut_line, written_plain, numbers_written, Read, numbers_read}
use Rattle.sheets.specs.declared.fault.Fault.{Fault}
use Rattle.sheets.specs.Faults.{bad_line}
use Rattle.sheets.specs.Lines.{ask, values_by, values_in, values}
use Rattle.sheets.proofs.Fronts.{values_ok}

-- values that were written are read
pub values_written : (count k : ℕ) (ns rest : List ℕ) → Values ns → 1 ≤ length ns → length ns ≤ 16 → length ns ≡ count → values count k (line ns ++ rest) ≡ Ok (ns, rest)
values_written count k ns rest v some few n =
    values_ok count k (line ns ++ rest) (written ns) rest
    (ap cut (append_assoc (written ns) (10 ∷ []) rest) ∙ cut_line (written ns) rest (written_plain ns v))
    ns (numbers_written ns v some few) n

-- what is read of a line: the values that it is written of
pub record Line (count : ℕ) (text ns rest : List ℕ) : Type 0 where
  pub values : Values ns
  pub some : 1 ≤ length ns
  pub few : length ns ≤ 16
  pub many : length ns ≡ count
  pub is : text ≡ line ns ++ rest

pub values_read : (count k : ℕ) (text ns rest : List ℕ) → values count k text ≡ Ok (ns, rest) → Line count text ns rest
unfolding values
values_read count k text ns rest = by (cut text) (cut_is text)
  where
    then_by : (l ms u : List ℕ) (t : Bool) → text ≡ l ++ 10 ∷ u → Read l ms → eqb (length ms) count ≡ t → ask {A = List ℕ × List ℕ} t (bad_line k) (Ok (ms, u)) ≡ Ok (ns, rest) → Line count text ns rest
    then_by l ms u false w r e h = let z : ◌≡◌ {A = ℕ} 0 1 = cc in absurd (omega arith)
    then_by l ms u true w r e h =
        let one : ms ≡ ns = ap (λ (r : Result (List ℕ × List ℕ) Fault). elim r [ Ok q ↦ q.0 | Err f ↦ ms ]) h in
        let two : u ≡ rest = ap (λ (r : Result (List ℕ × List ℕ) Fault). elim r [ Ok q ↦ q.1 | Err f ↦ u ]) h in
        record {
          values = rw one at r.values;
          some = omega (arith, r.some, ap length one);
          few = omega (arith, r.few, ap length one);
          many = sym (ap length one) ∙ eqb-true _ _ e;
          is = w ∙ ap (λ b. b ++ 10 ∷ u) r.is ∙ ap₂ (λ (b c : List ℕ). written b ++ 10 ∷ c) one two ∙ sym (append_assoc (written ns) (10 ∷ []) rest);
        }

    in_by : (l u : List ℕ) (r : Option (List ℕ)) → text ≡ l ++ 10 ∷ u → numbers l ≡ r → values_by count k u r ≡ Ok (ns, rest) → Line count text ns rest
    in_by l u None w e h = let z : ◌≡◌ {A = ℕ} 0 1 = cc in absurd (omega arith)
    in_by l u (Some ms) w e h = then_by l ms u (eqb (length ms) count) w (numbers_read l ms e) refl h

    by : (r : Option (List ℕ × List ℕ)) → Cuts text r → values_in count k r ≡ Ok (ns, rest) → Line count text ns rest
    by None w h = let z : ◌≡◌ {A = ℕ} 0 1 = cc in absurd (omega arith)
    by (Some p) w h = in_by p.0 p.1 (numbers p.0) w.0 refl h
