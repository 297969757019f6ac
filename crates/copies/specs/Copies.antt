-- A block copy: what its registers are, and where its positions lie.
use Rattle.std.specs.Prelude.{ℤ, ℕ, ◌-◌, ◌/◌, ◌%◌, ◌^◌, ◌≡◌, true, false, pos}
use Rattle.pixels.specs.declared.Map.{Map}
use Rattle.pixels.specs.Maps.{bits_of, Apart}
use Rattle.parts.specs.declared.shapes.Point.{Point}
use Rattle.parts.specs.declared.drawing.Drawing.TheVariants.{Block}
use Rattle.rules.specs.Operations.{foreground_source, function_of, source_field, destination_field, pattern_field, mask_mode, octant_of}
use Rattle.rules.specs.Maps.{map_at}
use Rattle.moves.specs.Turns.{turned_by, circled_by}
use Rattle.moves.specs.Decoded.{sign_of}
use Rattle.coprocessor.specs.declared.Coprocessor.{Coprocessor}
use Rattle.coprocessor.specs.Valid.{valid_of}

-- 01, Registers, 7C: the map from which a block copies
abbrev pub from_map : Coprocessor → Map
from_map c = map_at c.maps (source_field c.registers.figure.operations)

-- 01, Registers, 7C: and the map into which it does
abbrev pub to_map : Coprocessor → Map
to_map c = map_at c.maps (destination_field c.registers.figure.operations)

-- 02, 101: a block copy, just started: PxBlt of the source's pixels, pattern 8, mix S, all planes, no mask, compare never, between maps that share no byte
pub record Copy (c : Coprocessor) : Type 0 where
  pub valid : valid_of c ≡ true
  pub function : function_of c.registers.figure.operations ≡ 8
  pub start : c.drawing ≡ Block false 0 0
  pub source : foreground_source c.registers.figure.operations ≡ 2
  pub pattern : pattern_field c.registers.figure.operations ≡ 8
  pub mix : c.registers.colours.foreground.mix ≡ 3
  pub planes : c.registers.colours.planes % 2 ^ bits_of (to_map c).format ≡ 2 ^ bits_of (to_map c).format - 1
  pub mask : mask_mode c.registers.figure.operations ≡ 0
  pub condition : c.registers.colours.compare.condition ≡ 4
  pub apart : Apart (from_map c) (to_map c)

-- 01, The functions, PxBlt; Maps and pointers: the source pixel of the position at this column and row of the block, by the octant's signs, wrapping at the map's edges
unfoldable pub from_place : Coprocessor → ℕ → ℕ → Point ℕ
from_place c column row =
    record {
      x = turned_by (sign_of (octant_of c.registers.figure.operations / 4 % 2)) column (from_map c).width c.registers.pointers.source.x;
      y = turned_by (sign_of (octant_of c.registers.figure.operations / 2 % 2)) row (from_map c).height c.registers.pointers.source.y;
    }

-- 01, The functions, PxBlt; Maps and pointers: and its destination, on the pointers' circle
unfoldable pub to_place : Coprocessor → ℕ → ℕ → Point ℤ
to_place c column row =
    record {
      x = circled_by (sign_of (octant_of c.registers.figure.operations / 4 % 2)) column c.registers.pointers.destination.x;
      y = circled_by (sign_of (octant_of c.registers.figure.operations / 2 % 2)) row c.registers.pointers.destination.y;
    }

-- 02, 101: a copy of all of map a into map b, which has its columns and rows, from corner to corner
pub record Transfer (a b : Map) (c : Coprocessor) : Type 0 where
  pub copy : Copy c
  pub from : from_map c ≡ a
  pub to : to_map c ≡ b
  pub columns : b.width ≡ a.width
  pub rows : b.height ≡ a.height
  pub dimensions : c.registers.figure.dimensions ≡ record { x = a.width; y = a.height }
  pub right : octant_of c.registers.figure.operations / 4 % 2 ≡ 0
  pub down : octant_of c.registers.figure.operations / 2 % 2 ≡ 0
  pub first : c.registers.pointers.source ≡ record { x = 0; y = 0 }
  pub corner : c.registers.pointers.destination ≡ record { x = pos 0; y = pos 0 }
