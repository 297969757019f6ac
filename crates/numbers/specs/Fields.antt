-- A number's field: n bits from a shift on.
use Rattle.std.specs.Prelude.{ℕ, ◌+◌, ◌*◌, ◌/◌, ◌%◌, ◌^◌}

-- 01, Maps and pointers: the n bits of x from this shift on
unfoldable pub field : (shift n x : ℕ) → ℕ
field shift n x = x / 2 ^ shift % 2 ^ n

-- 01, Maps and pointers: x with the n bits from this shift on replaced by the low bits of v
unfoldable pub with_field : (shift n v x : ℕ) → ℕ
with_field shift n v x = x / 2 ^ (shift + n) * 2 ^ (shift + n) + v % 2 ^ n * 2 ^ shift + x % 2 ^ shift
