-- What the reading of a book comes to: every question in its order. Assumes nothing.
use Rattle.std.specs.Prelude.{ℕ, zero, suc, ◌+◌, ◌&&◌, List, [], ◌∷◌, ◌++◌, length, Ok, Err, Result, nat_lt, slice_index}
use Rattle.sheets.specs.declared.fault.Fault.{Fault}
use Rattle.sheets.specs.Lines.{ask, after, names, values}
use Rattle.books.specs.declared.top.Book.{Book}
use Rattle.books.specs.Faults.{bad_pieces, other_chain, bad_row, no_room}
use Rattle.books.specs.Format.{head, order_name}
use Rattle.books.specs.Rows.{is_row, code_of}

-- the two values of line 2: 1, then 15
abbrev pub book_of : ℕ → ℕ → Result Book Fault
book_of pieces chain =
    ask (nat_lt 1 pieces && nat_lt pieces 17) bad_pieces
    (ask (nat_lt 0 chain && nat_lt chain 3) other_chain (Ok record { pieces = pieces; chain = chain }))

-- line 3, after what line 2 says
abbrev pub third : List ℕ → Book → Result (Book × List ℕ) Fault
third text b = after (names order_name 3 text) (λ rest. Ok (b, rest))

-- lines 2 and 3
abbrev pub second : List ℕ × List ℕ → Result (Book × List ℕ) Fault
second p = after (book_of (slice_index p.0 0) (slice_index p.0 1)) (third p.1)

-- lines 1 to 3: 14 of the first two, 1, 15, and 14 of the third; and the text after them
unfoldable pub top : List ℕ → Result (Book × List ℕ) Fault
top text = after (names head 1 text) (λ rest. after (values 2 2 rest) second)

-- one order after the codes cs, with room for so many: 14, 3, then 7
abbrev pub row_by : ℕ → List ℕ → List ℕ × List ℕ → Result (ℕ × List ℕ) Fault
row_by room cs p =
    ask (is_row p.0) (bad_row (length cs + 4))
    (ask (nat_lt (length cs) room) (no_room (length cs + 4)) (Ok (code_of p.0, p.1)))

unfoldable pub row : Book → ℕ → List ℕ → List ℕ → Result (ℕ × List ℕ) Fault
row b room cs text = after (values b.pieces (length cs + 4) text) (row_by room cs)

-- what is in the list, and what is answered
abbrev pub Outcome : Type 0
Outcome = List ℕ × Result Book Fault

abbrev pub rows_by : List ℕ → Result (ℕ × List ℕ) Fault → (ℕ → List ℕ → Outcome) → Outcome
rows_by cs (Err f) go = (cs, Err f)
rows_by cs (Ok p) go = go p.0 p.1

-- the orders of the text, after the codes cs, until the text ends; each has at least a byte, so that there are at most as many as bytes
unfoldable pub rows : ℕ → Book → ℕ → List ℕ → List ℕ → Outcome
rows zero b room cs text = (cs, Ok b)
rows (suc k) b room cs [] = (cs, Ok b)
rows (suc k) b room cs (t ∷ ts) = rows_by cs (row b room cs (t ∷ ts)) (λ c rest. rows k b room (cs ++ (c ∷ [])) rest)

abbrev pub reads_on : ℕ → Result (Book × List ℕ) Fault → Outcome
reads_on room (Err f) = ([], Err f)
reads_on room (Ok p) = rows (length p.1) p.0 room [] p.1

-- a whole book, read into a list with room for so many orders: the codes that are in it then, and the answer
unfoldable pub read : ℕ → List ℕ → Outcome
read room text = reads_on room (top text)
