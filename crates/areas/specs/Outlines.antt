-- An outline: lines and codes in mode 11, drawn one after another into a map of 1 bit.
use Rattle.std.specs.Prelude.{ℕ, ◌+◌, ◌%◌, ◌≡◌, Bool, true, false, not, ◌&&◌, ◌||◌, List, [], ◌∷◌, eqb}
use Rattle.pixels.specs.declared.Map.{Map}
use Rattle.parts.specs.declared.drawing.Drawing.{Drawing}
use Rattle.parts.specs.declared.drawing.Drawing.TheVariants.{Nothing, Line, Codes, Block}
use Rattle.rules.specs.Operations.{foreground_source, function_of, destination_field, pattern_field, mask_mode, drawing_mode}
use Rattle.rules.specs.Maps.{map_at}
use Rattle.coprocessor.specs.declared.Coprocessor.{Coprocessor}
use Rattle.coprocessor.specs.Valid.{valid_of}
use Rattle.coprocessor.specs.Runs.{setup_of, pen_of, whole_of, run_memory}
use Rattle.areas.specs.Crossings.{crossings}

-- 01, Registers: a line or codes at their start; codes whose first is 00 have ended there
unfoldable pub at_start : Drawing → Bool
at_start (Nothing stopped) = true
at_start (Line rose done) = eqb done 0 && not rose
at_start (Codes count code done) = eqb code 0 && eqb done 0
at_start (Block inside column row) = false

-- 003, Area Boundary Drawing; 02, 102: a stroke of an outline in this map: a line or codes of a write form, just started, in mode 11, with mix xor, colour 1,
-- no mask, compare never, and plane 0 enabled
pub record Stroke (map : Map) (size : ℕ) (c : Coprocessor) : Type 0 where
  pub valid : valid_of c ≡ true
  pub memory : c.size ≡ size
  pub start : at_start c.drawing ≡ true
  pub function : (eqb (function_of c.registers.figure.operations) 4 || eqb (function_of c.registers.figure.operations) 5) ≡ true
  pub mode : drawing_mode c.registers.figure.operations ≡ 3
  pub mask : mask_mode c.registers.figure.operations ≡ 0
  pub pattern : pattern_field c.registers.figure.operations ≡ 8
  pub source : foreground_source c.registers.figure.operations ≡ 0
  pub destination : map_at c.maps (destination_field c.registers.figure.operations) ≡ map
  pub mix : c.registers.colours.foreground.mix ≡ 6
  pub colour : c.registers.colours.foreground.colour % 2 ≡ 1
  pub condition : c.registers.colours.compare.condition ≡ 4
  pub plane : c.registers.colours.planes % 2 ≡ 1

-- 02, 102: each of these is a stroke
pub data Strokes (map : Map) (size : ℕ) : List Coprocessor → Type 0 where
  none : Strokes map size []
  more : {c : Coprocessor} {cs : List Coprocessor} → Stroke map size c → Strokes map size cs → Strokes map size (c ∷ cs)

-- 02, 102: the memory after each was run to its end, the first first
unfoldable pub outlined : List Coprocessor → List ℕ → List ℕ
outlined [] memory = memory
outlined (c ∷ cs) memory = outlined cs (run_memory c memory (whole_of c))

-- 02, 102: the crossings of all of them at column x of row y
unfoldable pub crossings_of : List Coprocessor → ℕ → ℕ → ℕ
crossings_of [] x y = 0
crossings_of (c ∷ cs) x y = crossings (setup_of c).travel (pen_of c) x y (whole_of c) + crossings_of cs x y
