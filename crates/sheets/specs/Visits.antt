-- What a visit leaves. Assumes nothing.
use Rattle.std.specs.Prelude.{take}
use Rattle.forms.specs.Marks.{Marks}
use Rattle.sheets.specs.declared.numbering.Numbering.{Numbering}

-- the marks, and the numbers in the order of the visit
abbrev pub marks_in : Numbering → Marks
marks_in r = record { marks = r.marks; order = take r.count r.order }
