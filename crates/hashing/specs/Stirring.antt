-- A hash into which numbers are stirred. Assumes nothing.
use Rattle.std.specs.Prelude.{ℕ, ◌*◌, ◌%◌, ◌^◌, bit_xor}
use Rattle.std.specs.Int.{rotate_left, w64}

-- one more number stirred in: a product in 64 bits, turned left
unfoldable pub stirred : ℕ → ℕ → ℕ → ℕ
stirred turn hash number = rotate_left w64 ((bit_xor hash number * 0x9e37_79b9_7f4a_7c15) % 2 ^ 64) turn
