-- The four maps, chosen by a field of the pixel operations.
use Rattle.std.specs.Prelude.{ℕ, ◌+◌, ◌%◌, Bool, ◌&&◌, List, get_or, leb, ltb, eqb}
use Rattle.pixels.specs.declared.Map.{Map}
use Rattle.pixels.specs.Maps.{bits_of, needed_of}
use Rattle.parts.specs.declared.shapes.Point.{Point}

-- 01, Registers: a fresh state's map, one pixel at the memory's start
abbrev pub fresh_map : Map
fresh_map = record { base = 0; width = 0; height = 0; format = 0 }

-- 01, Registers: 0 M, 1 A, 2 B, 3 C; docs/DECISIONS.md, 7: by the two low bits
unfoldable pub map_at : List Map → ℕ → Map
map_at maps field = get_or maps (field % 4) fresh_map

-- 01, refusal 7; 02, 101: the pixel code, bits 2 to 0, is 0 to 3, in either order
unfoldable pub format_holds : Map → Bool
format_holds map = ltb (map.format % 8) 4

-- 01, refusal 7: a pixel of 1 bit
unfoldable pub is_one_bit : Map → Bool
is_one_bit map = eqb (bits_of map.format) 1

-- 01, refusal 8: the map ends within a memory of this size
unfoldable pub end_holds : ℕ → Map → Bool
end_holds size map = leb (map.base + needed_of map) size

-- 01, State image: the pointer lies in the map
unfoldable pub is_inside : Map → Point ℕ → Bool
is_inside map p = leb p.x map.width && leb p.y map.height
