-- Numbers as bytes, least significant first, and what a register's stored bytes become in a write.
use Rattle.std.specs.Prelude.{ℕ, zero, suc, ◌+◌, ◌-◌, ◌*◌, ◌/◌, ◌%◌, ◌^◌, Bool, ◌&&◌, List, [], ◌∷◌, leb, ltb}
use Rattle.numbers.specs.Choose.{choose}
use Rattle.numbers.specs.declared.bytes.Write.{Write}

-- 01, Registers: bytes go least significant first; the n low bytes of x
unfoldable pub le : ℕ → ℕ → List ℕ
le zero x = []
le (suc n) x = x % 256 ∷ le n (x / 256)

-- 01, Registers: the number that these bytes are
unfoldable pub number_of : List ℕ → ℕ
number_of [] = 0
number_of (b ∷ bs) = b + 256 * number_of bs

-- 01, Registers: byte k of x
unfoldable pub byte_of : ℕ → ℕ → ℕ
byte_of x k = x / 256 ^ k % 256

-- 01, Registers: the n bytes of x that follow its lowest skip bytes
unfoldable pub part_of : (skip n x : ℕ) → ℕ
part_of skip n x = x / 256 ^ skip % 256 ^ n

-- 01, Registers: the n low bits of x, to which map index (2), condition (3), format (4), and sizes, dimensions, mask origin and pointers (12) are reduced
abbrev pub low : ℕ → ℕ → ℕ
low n x = x % 2 ^ n

-- 01, Registers: whether the write covers the register byte at this offset
unfoldable pub covers : Write → ℕ → Bool
covers w at = leb w.offset at && ltb (at - w.offset) w.length

-- 01, Registers: the stored bytes, from offset at on, take the new ones that the write covers
unfoldable pub latched_bytes : (n at : ℕ) → Write → (stored : ℕ) → List ℕ
latched_bytes zero at w stored = []
latched_bytes (suc n) at w stored =
    choose (covers w at) (byte_of w.value (at - w.offset)) (stored % 256) ∷ latched_bytes n (suc at) w (stored / 256)

-- 01, Registers: the number of n bytes that a register at this offset holds after the write, before it is reduced
unfoldable pub latched : (n at : ℕ) → Write → (stored : ℕ) → ℕ
latched n at w stored = number_of (latched_bytes n at w stored)
