-- Whether a drawing in hand can go on: the image rules for states 1 and 3.
use Rattle.std.specs.Prelude.{ℕ, suc, Bool, true, not, ◌&&◌, ◌||◌, List, leb, ltb, eqb}
use Rattle.pixels.specs.declared.Map.{Map}
use Rattle.parts.specs.declared.shapes.Figure.{Figure}
use Rattle.parts.specs.declared.shapes.Pointers.{Pointers}
use Rattle.parts.specs.declared.drawing.Drawing.{Drawing}
use Rattle.parts.specs.declared.drawing.Drawing.TheVariants.{Nothing, Line, Codes, Block}
use Rattle.rules.specs.Operations.{source_field, pattern_field, is_line, is_codes, is_fill, is_block, mode_of, uses_source, uses_pattern}
use Rattle.rules.specs.Maps.{map_at, is_inside}
use Rattle.rules.specs.Codes.{steps_of, is_count, code_at, none_stopped}

-- 01, State image: the drawing fits the function, a position remains at the counters, codes number 1, 2 or 4, and none up to the current one is 00;
-- 02, 102: the bit is set only for a line in mode 11 with a position done, and for a fill with a position done in its row
unfoldable pub counters_hold : Figure → Drawing → Bool
counters_hold f (Nothing stopped) = true
counters_hold f (Line rose done) =
    is_line f.operations && leb done f.dimensions.x && (not rose || (eqb (mode_of f.operations) 3 && leb 1 done))
counters_hold f (Codes count code done) =
    is_codes f.operations
    && is_count count
    && ltb code count
    && none_stopped f.steps count (suc code)
    && leb done (steps_of (code_at f.steps count code))
counters_hold f (Block inside column row) =
    is_block f.operations
    && leb column f.dimensions.x
    && leb row f.dimensions.y
    && (not inside || (is_fill f.operations && leb 1 column))

-- 01, State image: used source and pattern pointers lie in their maps
unfoldable pub pointers_hold : ℕ → List Map → Pointers → Bool
pointers_hold operations maps pointers =
    (not (uses_source operations) || is_inside (map_at maps (source_field operations)) pointers.source)
    && (not (uses_pattern operations) || is_inside (map_at maps (pattern_field operations)) pointers.pattern)
