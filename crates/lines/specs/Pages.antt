-- What is put on a lent page. Assumes nothing.
use Rattle.std.specs.Prelude.{◌≡◌, ℕ, ◌+◌, ◌<◌, ◌≤◌, List, length, Ok, Err, Result}
use Rattle.orders.specs.declared.refusal.Refusal.{Refusal}
use Rattle.lists.specs.declared.filled.Filled.{Filled}
use Rattle.lists.specs.Items.{items_of, room_of, laid, Extended}
use Rattle.orders.specs.declared.refusal.Refusal.TheVariants.{ShortPage}

-- the page with the bytes in place of what stood from `at` on; the rest of it stays
abbrev pub put : List ℕ → ℕ → List ℕ → List ℕ
put page at bytes = laid page at bytes

-- the bytes stand on the page from `at` on, and they end at `end`
pub record Stands (before after : List ℕ) (at : ℕ) (bytes : List ℕ) (end : ℕ) : Type 0 where
  pub room : at + length bytes ≤ length before
  pub ends : end ≡ at + length bytes
  pub page : after ≡ put before at bytes

-- the page is too short for them, and nothing has changed
pub record Short (before after : List ℕ) (at : ℕ) (bytes : List ℕ) (why : Refusal) : Type 0 where
  pub number : why ≡ ShortPage
  pub room : length before < at + length bytes
  pub page : after ≡ before

-- what putting bytes on a page answers
abbrev pub Put : List ℕ → List ℕ → ℕ → List ℕ → Result ℕ Refusal → Type 0
Put before after at bytes (Ok end) = Stands before after at bytes end
Put before after at bytes (Err why) = Short before after at bytes why

-- what putting bytes on a page that is a list answers: they stand behind the others, or there is not room for them and nothing has changed
abbrev pub Laid : Filled ℕ → Filled ℕ → List ℕ → Result (Unit {0}) Refusal → Type 0
Laid before after bytes (Ok _) = Extended before after bytes
Laid before after bytes (Err why) = (why ≡ ShortPage) × (length (room_of before) < length (items_of before) + length bytes) × (after ≡ before)
