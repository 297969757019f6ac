-- How the code asks it: what functions inside promise each other, proved to be the same as the rules; nothing here has to be believed.
use Rattle.std.specs.Prelude.{ℕ, ◌+◌, ◌-◌, ◌*◌, ◌/◌, ◌%◌, List}
use Rattle.numbers.specs.Choose.{choose}
use Rattle.pixels.specs.declared.Map.{Map}
use Rattle.pixels.specs.declared.Cell.{Cell}
use Rattle.pixels.specs.Maps.{bits_of, place_of, is_motorola, shift_of}
use Rattle.pixels.specs.Pixels.{byte_at}

-- the byte in which pixel number n of a map from `base` on lies, and how far up it lies there
abbrev pub place_at : (format base n : ℕ) → ℕ
place_at format base n = base + n * bits_of format / 8

abbrev pub shift_at : (format n : ℕ) → ℕ
shift_at format n = choose (is_motorola format) (8 - bits_of format - n * bits_of format % 8) (n * bits_of format % 8)

-- the byte of pixel (x, y), and its bits there
unfoldable pub cell_at : List ℕ → Map → ℕ → ℕ → Cell
cell_at memory map x y =
    record { at = place_of map x y; byte = byte_at memory map x y; shift = shift_of map x y; bits = bits_of map.format }
