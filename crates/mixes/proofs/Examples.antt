-- The worked cases, each computed from the definitions.
use mathlib.Core.Path.{◌≡◌, refl}
use Rattle.mixes.specs.Mixes.{table_bit, logical, gathered, scattered, worked, arithmetic, merged, mixed}

-- 01, Cases, 1: S F0, D 3C hex: and 30, xor CC, S and not D C0
pub case1 : (mixed 8 1 0xFF 0xF0 0x3C ≡ 0x30) × (mixed 8 6 0xFF 0xF0 0x3C ≡ 0xCC) × (mixed 8 2 0xFF 0xF0 0x3C ≡ 0xC0)
unfolding table_bit logical merged mixed
case1 = (refl, refl, refl)

-- 01, Cases, 2: 8 bits, S 200, D 100: add 255, D - S 0; 4 bits, 9 + 9: 15
pub case2 : (mixed 8 0x12 255 200 100 ≡ 255) × (mixed 8 0x13 255 200 100 ≡ 0) × (mixed 4 0x12 15 9 9 ≡ 15)
unfolding gathered scattered worked arithmetic merged mixed
case2 = (refl, refl, refl)

-- 01, Cases, 3: plane mask 0F, D 55, mix S with AA: 5A hex
pub case3 : mixed 8 3 0x0F 0xAA 0x55 ≡ 0x5A
unfolding table_bit logical merged mixed
case3 = refl

-- docs/DIFFERENCES.md, D2: plane mask 0F, S and D 19 hex, add: 1F, since 9 + 9 is held at F and the bits outside stay
pub masked_add : mixed 8 0x12 0x0F 0x19 0x19 ≡ 0x1F
unfolding gathered scattered worked arithmetic merged mixed
masked_add = refl
