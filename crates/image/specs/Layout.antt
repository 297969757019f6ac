-- The layout of the image: where each of its fields lies, one after another.
use Rattle.std.specs.Prelude.{ℕ, ◌+◌, ◌-◌, ◌*◌, List, ltb, take, drop}
use Rattle.numbers.specs.Choose.{choose}
use Rattle.numbers.specs.Bytes.{number_of}
use Rattle.parts.specs.Registers.{Register}

-- 01, State image: the first byte of a field, and how many bytes it has
pub record Place : Type 0 where
  pub from : ℕ
  pub bytes : ℕ

-- 01, State image: the n bytes that follow a field
abbrev pub following : Place → ℕ → Place
following p n = record { from = p.from + p.bytes; bytes = n }

-- 01, State image: the number that n bytes from k on are, low byte first
unfoldable pub at : (k n : ℕ) → List ℕ → ℕ
at k n b = number_of (take n (drop k b))

-- 01, State image: the number at a field's place
abbrev pub field_at : Place → List ℕ → ℕ
field_at p b = at p.from p.bytes b

-- ---- mark to map index

-- 01, State image: the mark XGS
abbrev pub the_mark : ℕ
the_mark = 0x534758

-- 01, State image: version 1
abbrev pub the_version : ℕ
the_version = 1

-- 01, State image: 0 mark
abbrev pub mark : Place
mark = record { from = 0; bytes = 3 }

-- 01, State image: 3 version
abbrev pub version : Place
version = following mark 2

-- 01, State image: 5 memory size
abbrev pub memory_size : Place
memory_size = following version 4

-- 01, State image: 9 state
abbrev pub state : Place
state = following memory_size 1

-- 01, State image: 10 positions done in this row, line or code
abbrev pub done : Place
done = following state 2

-- 01, State image: 12 rows or codes done
abbrev pub passed : Place
passed = following done 2

-- 01, State image: 14 codes in the starting write
abbrev pub count : Place
count = following passed 1

-- 01, State image: 15 map index
abbrev pub map_index : Place
map_index = following count 1

-- ---- the maps

-- 01, State image: 16 maps M, A, B, C, nine bytes each
abbrev pub map_base : ℕ → Place
map_base k = record { from = map_index.from + map_index.bytes + 9 * k; bytes = 4 }

-- 01, State image: a map's width
abbrev pub map_width : ℕ → Place
map_width k = following (map_base k) 2

-- 01, State image: a map's height
abbrev pub map_height : ℕ → Place
map_height k = following (map_width k) 2

-- 01, State image: a map's format
abbrev pub map_format : ℕ → Place
map_format k = following (map_height k) 1

-- ---- the registers

-- 01, State image: 52, after four maps
abbrev pub after_maps : ℕ
after_maps = (map_base 4).from

-- 01, State image: 52 registers 20-2F hex; 68 48-4A; 71 4C-63; 95 6C-7F: where a register's first byte lies
abbrev pub place_from : ℕ → ℕ
place_from offset =
    choose (ltb offset 0x48) (after_maps + (offset - 0x20))
    (choose (ltb offset 0x4C) (after_maps + 16 + (offset - 0x48))
    (choose (ltb offset 0x6C) (after_maps + 19 + (offset - 0x4C))
    (after_maps + 43 + (offset - 0x6C))))

-- 01, State image: a register's place
abbrev pub register : Register → Place
register r = record { from = place_from r.at; bytes = r.bytes }

-- 01, State image: 115 bytes
abbrev pub image_length : ℕ
image_length = place_from 0x80
