-- The faults of a sheet. Assumes nothing.
use Rattle.std.specs.Prelude.{ℕ, List, ◌++◌, codes, decimal}
use Rattle.orders.specs.declared.refusal.Refusal.TheVariants.{BadLine, OtherChain, BadNode, Misnumbered, WrongCount}
use Rattle.sheets.specs.declared.fault.Fault.{Fault}
use Rattle.orders.specs.Refusals.{number}
use Rattle.sheets.specs.declared.fault.Part.{Part}
use Rattle.sheets.specs.declared.fault.Part.TheVariants.{Line, Sheet, Store, Book}

-- 14, at a line
abbrev pub bad_line : ℕ → Fault
bad_line k = record { refusal = BadLine; line = k; part = Line }

-- 15, at line 2
abbrev pub other_chain : Fault
other_chain = record { refusal = OtherChain; line = 2; part = Sheet }

-- 16, at a line
abbrev pub bad_node : ℕ → Fault
bad_node k = record { refusal = BadNode; line = k; part = Line }

-- 17, at a line
abbrev pub misnumbered : ℕ → Fault
misnumbered k = record { refusal = Misnumbered; line = k; part = Sheet }

-- 18, at line 2
abbrev pub wrong_count : Fault
wrong_count = record { refusal = WrongCount; line = 2; part = Sheet }

-- how a part and a fault are shown, as line 4 (sheet): refused by 17
abbrev pub part_name : Part → List ℕ
part_name Line = codes "line"
part_name Sheet = codes "sheet"
part_name Store = codes "store"
part_name Book = codes "book"

abbrev pub shown : Fault → List ℕ
shown f = codes "line " ++ (decimal f.line ++ (codes " (" ++ (part_name f.part ++ (codes "): refused by " ++ decimal (number f.refusal)))))
