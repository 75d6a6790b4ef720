-- Reading a sheet line by line: names, and a number of values. Assumes nothing.
use Rattle.std.specs.Prelude.{ℕ, Bool, true, false, List, length, take, drop, Some, None, Ok, Err, Option, Result, ◌==◌}
use Rattle.std.specs.Str.{bytes_eq}
use Rattle.lines.specs.Reading.{cut, numbers}
use Rattle.sheets.specs.declared.fault.Fault.{Fault}
use Rattle.sheets.specs.Faults.{bad_line}

-- a question: yes goes on, no declines
abbrev pub ask : {A : Type 0} → Bool → Fault → Result A Fault → Result A Fault
ask true f r = r
ask false f r = Err f

-- and then: what comes after, if there was no fault
abbrev pub after : {A B : Type 0} → Result A Fault → (A → Result B Fault) → Result B Fault
after (Ok a) k = k a
after (Err f) k = Err f

-- what follows a line of names, which is line k
unfoldable pub names : List ℕ → ℕ → List ℕ → Result (List ℕ) Fault
names wanted k text = ask (bytes_eq (take (length wanted) text) wanted) (bad_line k) (Ok (drop (length wanted) text))

-- by what the line holds
abbrev pub values_by : ℕ → ℕ → List ℕ → Option (List ℕ) → Result (List ℕ × List ℕ) Fault
values_by count k rest None = Err (bad_line k)
values_by count k rest (Some ns) = ask (length ns == count) (bad_line k) (Ok (ns, rest))

-- by where it ends
abbrev pub values_in : ℕ → ℕ → Option (List ℕ × List ℕ) → Result (List ℕ × List ℕ) Fault
values_in count k None = Err (bad_line k)
values_in count k (Some p) = values_by count k p.1 (numbers p.0)

-- the values of the first line, which is line k, if there are exactly so many, and what follows it
unfoldable pub values : ℕ → ℕ → List ℕ → Result (List ℕ × List ℕ) Fault
values count k text = values_in count k (cut text)
