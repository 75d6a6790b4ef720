-- The number of each refusal. Assumes nothing.
use Rattle.std.specs.Prelude.{ℕ}
use Rattle.orders.specs.declared.refusal.Refusal.{Refusal}
use Rattle.orders.specs.declared.refusal.Refusal.TheVariants.{BadPieces, BadCapacity, BadRow, OtherSeason, NoSuchNumber, OutOfRange, NoRoom, NoSuchPeg, PegFilled, NoSuchHold, LastSeason, PastEnd, ShortPage, BadLine, OtherChain, BadNode, Misnumbered, WrongCount}

abbrev pub number : Refusal → ℕ
number BadPieces = 1
number BadCapacity = 2
number BadRow = 3
number OtherSeason = 4
number NoSuchNumber = 5
number OutOfRange = 6
number NoRoom = 7
number NoSuchPeg = 8
number PegFilled = 9
number NoSuchHold = 10
number LastSeason = 11
number PastEnd = 12
number ShortPage = 13
number BadLine = 14
number OtherChain = 15
number BadNode = 16
number Misnumbered = 17
number WrongCount = 18
