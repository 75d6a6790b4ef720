-- The faults that a book has beside those of a line. Assumes nothing.
use Rattle.std.specs.Prelude.{ℕ}
use Rattle.orders.specs.declared.refusal.Refusal.TheVariants.{BadPieces, BadRow, NoRoom, OtherChain}
use Rattle.sheets.specs.declared.fault.Fault.{Fault}
use Rattle.sheets.specs.declared.fault.Part.TheVariants.{Line, Book}

-- 1, at line 2
abbrev pub bad_pieces : Fault
bad_pieces = record { refusal = BadPieces; line = 2; part = Book }

-- 15, at line 2
abbrev pub other_chain : Fault
other_chain = record { refusal = OtherChain; line = 2; part = Book }

-- 3, at a line
abbrev pub bad_row : ℕ → Fault
bad_row k = record { refusal = BadRow; line = k; part = Line }

-- 7, at a line
abbrev pub no_room : ℕ → Fault
no_room k = record { refusal = NoRoom; line = k; part = Book }
