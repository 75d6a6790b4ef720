-- What is read off a text: its first line, and the numbers of a line. Assumes nothing.
use Rattle.std.specs.Prelude.{ℕ, ◌^◌, Bool, true, false, ◌&&◌, List, [], ◌∷◌, map, length, Some, None, Option, ◌==◌, nat_lt}
use Rattle.std.specs.Str.{bytes_eq}
use Rattle.lines.specs.Format.{read_on, written}

-- one byte more in front: it ends a line of nothing, or stands first in the line
abbrev pub cut_by : Bool → ℕ → List ℕ → Option (List ℕ × List ℕ) → Option (List ℕ × List ℕ)
cut_by true c cs r = Some ([], cs)
cut_by false c cs None = None
cut_by false c cs (Some p) = Some (c ∷ p.0, p.1)

-- the first line without its end, and what follows; none where no line ends
abbrev pub cut : List ℕ → Option (List ℕ × List ℕ)
cut [] = None
cut (c ∷ cs) = cut_by (c == 10) c cs (cut cs)

-- one byte more in front: a blank begins another word
abbrev pub word_by : Bool → ℕ → List (List ℕ) → List (List ℕ)
word_by true c ws = [] ∷ ws
word_by false c [] = (c ∷ []) ∷ []
word_by false c (w ∷ ws) = (c ∷ w) ∷ ws

-- what stands between the blanks of a line
abbrev pub words : List ℕ → List (List ℕ)
words [] = [] ∷ []
words (c ∷ cs) = word_by (c == 32) c (words cs)

-- each number is below 10^14
abbrev pub below : List ℕ → Bool
below [] = true
below (n ∷ ns) = nat_lt n (10 ^ 14) && below ns

-- by the test that the line is just what is written of them
abbrev pub numbers_by : List ℕ → Bool → Option (List ℕ)
numbers_by ns true = Some ns
numbers_by ns false = None

-- what the words of a line would be as numbers
abbrev pub guess : List ℕ → List ℕ
guess bs = map (read_on 0) (words bs)

-- the numbers of a line: those that are written as it, if there are at most 16, of at most 14 digits
abbrev pub numbers : List ℕ → Option (List ℕ)
numbers bs = numbers_by (guess bs) (bytes_eq (written (guess bs)) bs && (below (guess bs) && nat_lt (length (guess bs)) 17))
