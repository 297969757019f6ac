-- The mixes of a source and a destination pixel of n bits, and the plane mask. Every number counts by its n low bits.
use Rattle.std.specs.Prelude.{ℕ, zero, suc, ◌+◌, ◌-◌, ◌*◌, ◌/◌, ◌%◌, ◌^◌, min, max, [], ◌∷◌, get_or, ltb, eqb}
use Rattle.numbers.specs.Choose.{choose}
use Rattle.mixes.specs.declared.Depth.{Depth}

-- 01, One position: a pixel's bits, the pixel that is all ones, and the plane mask, which counts by those bits
unfoldable pub depth_of : ℕ → ℕ → Depth
depth_of n m = record { bits = n; ones = 2 ^ n - 1; planes = m % 2 ^ n }

-- 01, One position, mixes 0 to F hex: in 01's order they are the sixteen truth tables; the code's bit 0 is the result for S and D,
-- bit 1 for S and not D, bit 2 for not S and D, bit 3 for neither
unfoldable pub table_bit : (code s d : ℕ) → ℕ
table_bit code s d = code / 2 ^ (3 - (2 * s + d)) % 2

-- 01, One position, mixes 0 to F hex: each bit of the result is the table's, from the bits of S and D there
unfoldable pub logical : (n code s d : ℕ) → ℕ
logical zero code s d = 0
logical (suc n) code s d = table_bit code (s % 2) (d % 2) + 2 * logical n code (s / 2) (d / 2)

-- docs/DIFFERENCES.md, D2: the bits of x that the mask enables, in their order, as one number
unfoldable pub gathered : (n m x : ℕ) → ℕ
gathered zero m x = 0
gathered (suc n) m x =
    choose (eqb (m % 2) 1) (x % 2 + 2 * gathered n (m / 2) (x / 2)) (gathered n (m / 2) (x / 2))

-- docs/DIFFERENCES.md, D2: that number's bits, put back where the mask enables them, and 0 elsewhere
unfoldable pub scattered : (n m y : ℕ) → ℕ
scattered zero m y = 0
scattered (suc n) m y = choose (eqb (m % 2) 1) (y % 2 + 2 * scattered n (m / 2) (y / 2)) (2 * scattered n (m / 2) y)

-- 01, One position, mixes 10 to 15 hex, on numbers from 0 to top: greater, lesser, S + D held at the top, D - S and S - D held at 0,
-- average rounded down
unfoldable pub worked : (code top s d : ℕ) → ℕ
worked code top s d =
    get_or (max s d ∷ min s d ∷ min (s + d) top ∷ (d - s) ∷ (s - d) ∷ (s + d) / 2 ∷ []) (code - 16) 0

-- docs/DIFFERENCES.md, D2: an arithmetic mix works on the gathered bits as one number, whose top is all ones
unfoldable pub arithmetic : (n code m s d : ℕ) → ℕ
arithmetic n code m s d = scattered n m (worked code (gathered n m m) (gathered n m s) (gathered n m d))

-- 01, One position: plane-mask 1 bits come from the mix and 0 bits stay
unfoldable pub merged : (n m r d : ℕ) → ℕ
merged zero m r d = 0
merged (suc n) m r d = choose (eqb (m % 2) 1) (r % 2) (d % 2) + 2 * merged n (m / 2) (r / 2) (d / 2)

-- 01, One position: the destination pixel after a mix under the plane mask
unfoldable pub mixed : (n code m s d : ℕ) → ℕ
mixed n code m s d = merged n m (choose (ltb code 16) (logical n code s d) (arithmetic n code m s d)) d
