-- The fields of the pixel operations register (003, Pixel Operations Register, lines 2875 to 2970).
use Rattle.std.specs.Prelude.{ℕ, ◌/◌, ◌%◌, ◌^◌, Bool, ◌&&◌, ◌||◌, leb, eqb}
use Rattle.numbers.specs.Choose.{choose}

-- 003: bits 31-30, background source: 00 colour, 10 source pixel map
abbrev pub background_source : ℕ → ℕ
background_source operations = operations / 2 ^ 30 % 4

-- 003: bits 29-28, foreground source
abbrev pub foreground_source : ℕ → ℕ
foreground_source operations = operations / 2 ^ 28 % 4

-- 003: bits 27-24, step function
abbrev pub function_of : ℕ → ℕ
function_of operations = operations / 2 ^ 24 % 16

-- 003: bits 23-20, source pixel map
abbrev pub source_field : ℕ → ℕ
source_field operations = operations / 2 ^ 20 % 16

-- 003: bits 19-16, destination pixel map
abbrev pub destination_field : ℕ → ℕ
destination_field operations = operations / 2 ^ 16 % 16

-- 003: bits 15-12, pattern pixel map; 8 is the foreground, 9 is made from the source
abbrev pub pattern_field : ℕ → ℕ
pattern_field operations = operations / 2 ^ 12 % 16

-- 003: bits 7-6, mask pixel map: 00 disabled, 01 boundary enabled, 10 enabled
abbrev pub mask_mode : ℕ → ℕ
mask_mode operations = operations / 2 ^ 6 % 4

-- 003: bits 5-4, drawing mode: 00 all pixels, 01 first null, 10 last null, 11 area boundary
abbrev pub drawing_mode : ℕ → ℕ
drawing_mode operations = operations / 2 ^ 4 % 4

-- 003: bits 2-0, octant: bit 2 negative X, bit 1 negative Y, bit 0 Y major
abbrev pub octant_of : ℕ → ℕ
octant_of operations = operations % 8

-- 01, refusal 5: a field that names map A, B or C
unfoldable pub is_map : ℕ → Bool
is_map field = leb 1 field && leb field 3

-- 003: line draw read is 3, write 5
unfoldable pub is_line : ℕ → Bool
is_line operations = eqb (function_of operations) 3 || eqb (function_of operations) 5

-- 003: draw and step read is 2, write 4
unfoldable pub is_codes : ℕ → Bool
is_codes operations = eqb (function_of operations) 2 || eqb (function_of operations) 4

-- 003: area fill is 10
unfoldable pub is_fill : ℕ → Bool
is_fill operations = eqb (function_of operations) 10

-- 003: PxBlt is 8, inverting PxBlt 9; 02, 102: an area fill has the positions of a PxBlt
unfoldable pub is_block : ℕ → Bool
is_block operations = eqb (function_of operations) 8 || eqb (function_of operations) 9 || is_fill operations

-- 01, The functions, PxBlt: drawing mode is ignored; 02, 102: by a fill too
unfoldable pub mode_of : ℕ → ℕ
mode_of operations = choose (is_block operations) 0 (drawing_mode operations)

-- 01, refusal 4; 02, 102: the functions that draw
unfoldable pub draws : ℕ → Bool
draws operations = is_line operations || is_codes operations || is_block operations

-- 01, refusal 7: the source is used as colour if a source field is 10
unfoldable pub source_is_colour : ℕ → Bool
source_is_colour operations = eqb (foreground_source operations) 2 || eqb (background_source operations) 2

-- 01, Numbers a call answers with: the source map is used if either source field is 10 or the pattern is 9
unfoldable pub uses_source : ℕ → Bool
uses_source operations = source_is_colour operations || eqb (pattern_field operations) 9

-- docs/DECISIONS.md, 3: the pattern map is used if its code is 1 to 3
unfoldable pub uses_pattern : ℕ → Bool
uses_pattern operations = is_map (pattern_field operations)

-- 01, Numbers a call answers with: the mask map counts as used only when enabled (10)
unfoldable pub uses_mask : ℕ → Bool
uses_mask operations = eqb (mask_mode operations) 2
