-- A pixel in memory: what it is, and memory with another one there.
use Rattle.std.specs.Prelude.{ℕ, List, get_or, set}
use Rattle.numbers.specs.Fields.{field, with_field}
use Rattle.pixels.specs.declared.Map.{Map}
use Rattle.pixels.specs.Maps.{bits_of, place_of, shift_of}

-- docs/DECISIONS.md, 20: the byte in which pixel (x, y) lies, 0 beyond the memory
unfoldable pub byte_at : List ℕ → Map → ℕ → ℕ → ℕ
byte_at memory map x y = get_or memory (place_of map x y) 0

-- 01, Maps and pointers: pixel (x, y)
unfoldable pub pixel_at : List ℕ → Map → ℕ → ℕ → ℕ
pixel_at memory map x y = field (shift_of map x y) (bits_of map.format) (byte_at memory map x y)

-- docs/DECISIONS.md, 20: memory with the low bits of v for pixel (x, y), and as it was where that lies beyond the memory
unfoldable pub with_pixel : List ℕ → Map → (x y v : ℕ) → List ℕ
with_pixel memory map x y v =
    set memory (place_of map x y) (with_field (shift_of map x y) (bits_of map.format) v (byte_at memory map x y))
