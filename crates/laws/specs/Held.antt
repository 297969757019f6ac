-- The bounds that validity does not test, since the sizes of the fields give them.
use Rattle.std.specs.Prelude.{◌≡◌, ℕ, ◌^◌, ◌<◌, length}
use Rattle.parts.specs.declared.shapes.Colours.{Colours}
use Rattle.parts.specs.declared.shapes.Figure.{Figure}
use Rattle.rules.specs.Maps.{map_at}
use Rattle.coprocessor.specs.declared.Coprocessor.{Coprocessor}

-- 01, Registers: compare value, plane mask, carry mask and colours of 4 bytes; mixes of 1
pub record HeldColours (k : Colours) : Type 0 where
  pub foreground_mix : k.foreground.mix < 256
  pub background_mix : k.background.mix < 256
  pub compare_value : k.compare.value < 2 ^ 32
  pub planes : k.planes < 2 ^ 32
  pub carries : k.carries < 2 ^ 32
  pub foreground_colour : k.foreground.colour < 2 ^ 32
  pub background_colour : k.background.colour < 2 ^ 32

-- 01, Registers: direction steps and pixel operations of 4 bytes
pub record HeldFigure (f : Figure) : Type 0 where
  pub steps : f.steps < 2 ^ 32
  pub operations : f.operations < 2 ^ 32

-- 01, Registers: four maps, a base of 4 bytes
pub record Held (c : Coprocessor) : Type 0 where
  pub four : length c.maps ≡ 4
  pub bases : (field : ℕ) → (map_at c.maps field).base < 2 ^ 32
  pub colours : HeldColours c.registers.colours
  pub figure : HeldFigure c.registers.figure
