-- What the fields of a line hold. Assumes nothing.
use Rattle.std.specs.Prelude.{ℕ, cond, List, take, nat_lt}
use Rattle.lines.specs.declared.numbers.Fields.{Fields}

-- the numbers of a line
abbrev pub held : Fields → List ℕ
held f = take f.count f.values

-- a number as a place; what is above 16 is none, and stands as 0
abbrev pub place_of : ℕ → ℕ
place_of v = cond (nat_lt 16 v) 0 v
