-- The register bank: each register's offset, bytes and reduction, said once; which bytes are listed, and which reads and writes are placed.
use Rattle.std.specs.Prelude.{ℕ, zero, suc, ◌+◌, ◌%◌, Bool, true, false, ◌&&◌, ◌||◌, List, [], ◌∷◌, ◌++◌, leb, ltb, eqb}

-- 01, Registers: what the stored bytes are reduced to: all of them, so many low bits, or a number modulo size, into -low to size - low - 1
pub data Reduction : Type 0 where
  Whole : Reduction
  Low : (bits : ℕ) → Reduction
  Circle : (low size : ℕ) → Reduction

-- 01, Registers: a register's offset, how many bytes it has, and its reduction
pub record Register : Type 0 where
  pub at : ℕ
  pub bytes : ℕ
  pub reduction : Reduction

-- 01, Registers: a register that keeps all its bytes
abbrev pub whole : (bytes at : ℕ) → Register
whole bytes at = record { at = at; bytes = bytes; reduction = Whole }

-- 01, Registers: one that is reduced to so many bits
abbrev pub low_bits : (bits bytes at : ℕ) → Register
low_bits bits bytes at = record { at = at; bytes = bytes; reduction = Low bits }

-- 01, Registers: width, height, dimensions, mask origin, source and pattern pointers to 12 bits
abbrev pub twelve : ℕ → Register
twelve at = low_bits 12 2 at

-- 01, Registers: E, K1 and K2, modulo 16,384 into -8,192 to 8,191
abbrev pub term : ℕ → Register
term at = record { at = at; bytes = 4; reduction = Circle 8192 16384 }

-- 01, Registers: destination X and Y, modulo 8,192 into -2,048 to 6,143
abbrev pub coordinate : ℕ → Register
coordinate at = record { at = at; bytes = 2; reduction = Circle 2048 8192 }

-- ---- the table, in the paper's order

-- 01, Registers: 12:1 map index
abbrev pub map_index : Register
map_index = low_bits 2 1 0x12

-- 01, Registers: for the selected map, 14:4 base
abbrev pub map_base : Register
map_base = whole 4 0x14

-- 01, Registers: 18:2 width
abbrev pub map_width : Register
map_width = twelve 0x18

-- 01, Registers: 1A:2 height
abbrev pub map_height : Register
map_height = twelve 0x1A

-- 01, Registers: 1C:1 format
abbrev pub map_format : Register
map_format = low_bits 4 1 0x1C

-- 01, Registers: 20:4 E
abbrev pub error_term : Register
error_term = term 0x20

-- 01, Registers: 24:4 K1
abbrev pub first_constant : Register
first_constant = term 0x24

-- 01, Registers: 28:4 K2
abbrev pub second_constant : Register
second_constant = term 0x28

-- 01, Registers: 2C:4 direction steps
abbrev pub direction_steps : Register
direction_steps = whole 4 0x2C

-- 01, Registers: 48:1 foreground mix
abbrev pub foreground_mix : Register
foreground_mix = whole 1 0x48

-- 01, Registers: 49:1 background mix
abbrev pub background_mix : Register
background_mix = whole 1 0x49

-- 01, Registers: 4A:1 compare condition
abbrev pub compare_condition : Register
compare_condition = low_bits 3 1 0x4A

-- 01, Registers: 4C:4 compare value
abbrev pub compare_value : Register
compare_value = whole 4 0x4C

-- 01, Registers: 50:4 plane mask
abbrev pub plane_mask : Register
plane_mask = whole 4 0x50

-- 01, Registers: 54:4 carry mask
abbrev pub carry_mask : Register
carry_mask = whole 4 0x54

-- 01, Registers: 58:4 foreground colour
abbrev pub foreground_colour : Register
foreground_colour = whole 4 0x58

-- 01, Registers: 5C:4 background colour
abbrev pub background_colour : Register
background_colour = whole 4 0x5C

-- 01, Registers: 60:2 and 62:2 dimensions
abbrev pub dimension1 : Register
dimension1 = twelve 0x60

-- 01, Registers: 60:2 and 62:2 dimensions
abbrev pub dimension2 : Register
dimension2 = twelve 0x62

-- 01, Registers: 6C:2 and 6E:2 mask origin X and Y
abbrev pub origin_x : Register
origin_x = twelve 0x6C

-- 01, Registers: 6C:2 and 6E:2 mask origin X and Y
abbrev pub origin_y : Register
origin_y = twelve 0x6E

-- 01, Registers: 70 to 7A source, pattern, destination X and Y, 2 each
abbrev pub source_x : Register
source_x = twelve 0x70

-- 01, Registers: 70 to 7A source, pattern, destination X and Y, 2 each
abbrev pub source_y : Register
source_y = twelve 0x72

-- 01, Registers: 70 to 7A source, pattern, destination X and Y, 2 each
abbrev pub pattern_x : Register
pattern_x = twelve 0x74

-- 01, Registers: 70 to 7A source, pattern, destination X and Y, 2 each
abbrev pub pattern_y : Register
pattern_y = twelve 0x76

-- 01, Registers: 70 to 7A source, pattern, destination X and Y, 2 each
abbrev pub destination_x : Register
destination_x = coordinate 0x78

-- 01, Registers: 70 to 7A source, pattern, destination X and Y, 2 each
abbrev pub destination_y : Register
destination_y = coordinate 0x7A

-- 01, Registers: 7C:4 pixel operations
abbrev pub pixel_operations : Register
pixel_operations = whole 4 0x7C

-- 01, Registers: the map index, and those of the map that it selects
unfoldable pub selected : List Register
selected = map_index ∷ map_base ∷ map_width ∷ map_height ∷ map_format ∷ []

-- 01, Registers: every other register
unfoldable pub others : List Register
others =
    error_term ∷ first_constant ∷ second_constant ∷ direction_steps
    ∷ foreground_mix ∷ background_mix ∷ compare_condition ∷ compare_value ∷ plane_mask ∷ carry_mask ∷ foreground_colour ∷ background_colour
    ∷ dimension1 ∷ dimension2
    ∷ origin_x ∷ origin_y ∷ source_x ∷ source_y ∷ pattern_x ∷ pattern_y ∷ destination_x ∷ destination_y ∷ pixel_operations
    ∷ []

-- 01, Registers: every listed register
unfoldable pub registers : List Register
registers = selected ++ others

-- ---- listed and placed

-- 01, refusal 3: whether one of these registers has the byte at this offset
unfoldable pub among : List Register → ℕ → Bool
among [] offset = false
among (r ∷ rs) offset = (leb r.at offset && ltb offset (r.at + r.bytes)) || among rs offset

-- 01, refusal 3: whether every one of the n bytes from this offset on is of a listed register
unfoldable pub listed : (n offset : ℕ) → Bool
listed zero offset = true
listed (suc n) offset = among registers offset && listed n (suc offset)

-- 01, refusal 1: length 1, 2 or 4, the offset a multiple of it and at most 7F hex
unfoldable pub placed : (offset length : ℕ) → Bool
placed offset length =
    (eqb length 1 || eqb length 2 || eqb length 4) && eqb (offset % length) 0 && leb offset 0x7F
