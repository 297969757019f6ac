-- What an accepted start sets.
use Rattle.std.specs.Prelude.{ℕ, ◌+◌, ◌%◌, true, false, List}
use Rattle.numbers.specs.Choose.{choose}
use Rattle.pixels.specs.declared.Map.{Map}
use Rattle.parts.specs.declared.shapes.Point.{Point}
use Rattle.parts.specs.declared.shapes.Figure.{Figure}
use Rattle.parts.specs.declared.shapes.Pointers.{Pointers}
use Rattle.parts.specs.declared.drawing.Drawing.{Drawing}
use Rattle.parts.specs.declared.drawing.Drawing.TheVariants.{Nothing, Line, Codes, Block}
use Rattle.rules.specs.Operations.{source_field, pattern_field, is_line, is_block, uses_source, uses_pattern}
use Rattle.rules.specs.Maps.{map_at}
use Rattle.rules.specs.Codes.{stops, code_at}

-- 01, Maps and pointers: a pointer becomes the remainder by its map's size
unfoldable pub turned : Map → Point ℕ → Point ℕ
turned map p = record { x = p.x % (map.width + 1); y = p.y % (map.height + 1) }

-- 01, Maps and pointers: at a start used source and pattern pointers are turned; unused ones stay
unfoldable pub pointers_started : ℕ → List Map → Pointers → Pointers
pointers_started operations maps pointers =
    record {
      source = choose (uses_source operations) (turned (map_at maps (source_field operations)) pointers.source) pointers.source;
      pattern = choose (uses_pattern operations) (turned (map_at maps (pattern_field operations)) pointers.pattern) pointers.pattern;
      destination = pointers.destination;
    }

-- 01, Registers: a line, a block, or as many codes as the write has bytes; a first code 00 ends at once, flagged as stopped; 02, 102: each row starts outside
unfoldable pub drawing_started : Figure → ℕ → Drawing
drawing_started f length =
    choose (is_line f.operations) (Line false 0)
    (choose (is_block f.operations) (Block false 0 0)
    (choose (stops (code_at f.steps length 0)) (Nothing true)
    (Codes length 0 0)))
