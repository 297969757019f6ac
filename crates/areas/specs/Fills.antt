-- An area fill: which positions are foreground.
use Rattle.std.specs.Prelude.{ℕ, zero, suc, ◌+◌, ◌/◌, ◌%◌, ◌≡◌, Bool, true, false, List, eqb}
use Rattle.numbers.specs.Choose.{choose}
use Rattle.numbers.specs.Circles.{forth}
use Rattle.pixels.specs.declared.Map.{Map}
use Rattle.pixels.specs.Maps.{Apart}
use Rattle.pixels.specs.Pixels.{pixel_at}
use Rattle.parts.specs.declared.shapes.Point.{Point}
use Rattle.parts.specs.declared.drawing.Drawing.TheVariants.{Block}
use Rattle.rules.specs.Operations.{function_of, destination_field, pattern_field, octant_of}
use Rattle.rules.specs.Maps.{map_at}
use Rattle.position.specs.Drawn.{is_foreground}
use Rattle.coprocessor.specs.declared.Coprocessor.{Coprocessor}
use Rattle.coprocessor.specs.Valid.{valid_of}
use Rattle.coprocessor.specs.Runs.{setup_of, ran_of}
use Rattle.areas.specs.Outlines.{crossings_of}

-- 003, Area Fill: an odd number
unfoldable pub is_odd : ℕ → Bool
is_odd n = eqb (n % 2) 1

-- 02, 102: a fill, at the first position of a row, whose pattern map shares no byte with its destination map
pub record Row (row : ℕ) (c : Coprocessor) : Type 0 where
  pub valid : valid_of c ≡ true
  pub function : function_of c.registers.figure.operations ≡ 10
  pub start : c.drawing ≡ Block false 0 row
  pub apart : Apart (map_at c.maps (pattern_field c.registers.figure.operations)) (map_at c.maps (destination_field c.registers.figure.operations))

-- 01, One position: whether the position after n is foreground
unfoldable pub foreground_after : Coprocessor → List ℕ → ℕ → Bool
foreground_after c memory n = is_foreground (setup_of c) (ran_of c memory n).memory (ran_of c memory n).pen

-- 003, Area Fill; 01, Maps and pointers: the 1s of the pattern map among the first n positions from this pointer on, to the right, wrapping at its edge
unfoldable pub ones_from : List ℕ → Map → Point ℕ → ℕ → ℕ
ones_from memory map p zero = 0
ones_from memory map p (suc n) = ones_from memory map p n + choose (eqb (pixel_at memory map (forth (map.width + 1) n p.x) p.y) 0) 0 1

-- 02, 102: a fill with this map as pattern, from its corner down, just started
pub record Filling (map : Map) (c : Coprocessor) : Type 0 where
  pub valid : valid_of c ≡ true
  pub function : function_of c.registers.figure.operations ≡ 10
  pub start : c.drawing ≡ Block false 0 0
  pub pattern : map_at c.maps (pattern_field c.registers.figure.operations) ≡ map
  pub corner : c.registers.pointers.pattern ≡ record { x = 0; y = 0 }
  pub down : octant_of c.registers.figure.operations / 2 % 2 ≡ 0
  pub apart : Apart map (map_at c.maps (destination_field c.registers.figure.operations))

-- 02, 102: the crossings of an outline at this column of a row and left of it
unfoldable pub crossings_up_to : List Coprocessor → ℕ → ℕ → ℕ
crossings_up_to cs zero y = crossings_of cs 0 y
crossings_up_to cs (suc x) y = crossings_up_to cs x y + crossings_of cs (suc x) y
