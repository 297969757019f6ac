-- A pointer's step: in its map, where it wraps, or on the destination's circle.
use Rattle.std.specs.Prelude.{ℕ, ◌+◌, ℤ, pos, ◌+ℤ◌, ◌-ℤ◌}
use Rattle.numbers.specs.Circles.{forth, back, circle}
use Rattle.pixels.specs.declared.Map.{Map}
use Rattle.parts.specs.declared.shapes.Point.{Point}
use Rattle.moves.specs.declared.Turn.{Turn}
use Rattle.moves.specs.declared.Turn.TheVariants.{Stay, Forth, Back}

-- 01, The functions, PxBlt: the other way
abbrev pub opposite : Turn → Turn
opposite Stay = Stay
opposite Forth = Back
opposite Back = Forth

-- 01, Maps and pointers: k steps in a map of last + 1 columns or rows; stepping past an edge comes in at the other
unfoldable pub turned_by : Turn → (k last x : ℕ) → ℕ
turned_by Stay k last x = x
turned_by Forth k last x = forth (last + 1) k x
turned_by Back k last x = back (last + 1) k x

-- 01, Maps and pointers: k steps of a destination pointer, signed, from 6,143 to -2,048 and back
unfoldable pub circled_by : Turn → ℕ → ℤ → ℤ
circled_by Stay k z = z
circled_by Forth k z = circle 2048 8192 (z +ℤ pos k)
circled_by Back k z = circle 2048 8192 (z -ℤ pos k)

-- 01, Maps and pointers: one step of a source or pattern pointer in its map
unfoldable pub point_stepped : Map → Point Turn → Point ℕ → Point ℕ
point_stepped map s p = record { x = turned_by s.x 1 map.width p.x; y = turned_by s.y 1 map.height p.y }

-- 01, Maps and pointers: one step of the destination pointer
unfoldable pub spot_stepped : Point Turn → Point ℤ → Point ℤ
spot_stepped s p = record { x = circled_by s.x 1 p.x; y = circled_by s.y 1 p.y }
