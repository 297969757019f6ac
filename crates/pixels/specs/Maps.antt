-- Where a map's pixels lie in memory.
use Rattle.std.specs.Prelude.{ℕ, ◌+◌, ◌-◌, ◌*◌, ◌/◌, ◌%◌, ◌^◌, ◌≤◌, ◌≡◌, Bool, eqb}
use Rattle.numbers.specs.Choose.{choose}
use Rattle.pixels.specs.declared.Map.{Map}

-- 01, Maps and pointers: formats 0 to 3 mean 1, 2, 4, 8 bits; docs/DECISIONS.md, 19: by the two low bits
unfoldable pub bits_of : ℕ → ℕ
bits_of format = 2 ^ (format % 4)

-- 01, Maps and pointers: pixel (X, Y) starts at bit (Y times row length + X) times size from the base
unfoldable pub start_of : Map → ℕ → ℕ → ℕ
start_of map x y = (y * (map.width + 1) + x) * bits_of map.format

-- 01, Maps and pointers: the byte of memory in which that bit lies
unfoldable pub place_of : Map → ℕ → ℕ → ℕ
place_of map x y = map.base + start_of map x y / 8

-- 003, Pixel Map n Format Register (lines 2545 to 2565); 02, 101: format bit 3 is the order: 0 Intel, 1 Motorola
abbrev pub is_motorola : ℕ → Bool
is_motorola format = eqb (format / 8 % 2) 1

-- 003, Memory map (lines 586 to 640); 02, 101: how far above its byte's lowest bit the pixel lies: Intel order counts from the byte's
-- lowest bit up, Motorola order from its highest down
unfoldable pub shift_of : Map → ℕ → ℕ → ℕ
shift_of map x y = choose (is_motorola map.format) (8 - bits_of map.format - start_of map x y % 8) (start_of map x y % 8)

-- 01, Maps and pointers: bytes needed are rounded up
unfoldable pub needed_of : Map → ℕ
needed_of map = ((map.width + 1) * (map.height + 1) * bits_of map.format + 7) / 8

-- 02, 101 and 102: no byte belongs to both maps
unfoldable pub Apart : Map → Map → Type 0
Apart a b = (x y x' y' : ℕ) → x ≤ a.width → y ≤ a.height → x' ≤ b.width → y' ≤ b.height → place_of a x y ≡ place_of b x' y' → ⊥
