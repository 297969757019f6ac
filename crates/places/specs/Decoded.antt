-- What the registers say of a drawing's positions beside its moves, decoded once.
use Rattle.std.specs.Prelude.{ℕ, List, eqb, ℤ, pos, negsuc}
use Rattle.numbers.specs.Choose.{choose}
use Rattle.pixels.specs.declared.Map.{Map}
use Rattle.pixels.specs.Maps.{bits_of}
use Rattle.mixes.specs.Mixes.{depth_of}
use Rattle.parts.specs.declared.shapes.Colours.{Colours}
use Rattle.parts.specs.declared.shapes.Figure.{Figure}
use Rattle.rules.specs.Operations.{background_source, foreground_source, destination_field, pattern_field, mask_mode, mode_of, is_fill}
use Rattle.rules.specs.Maps.{map_at}
use Rattle.places.specs.declared.Flow.{Flow}
use Rattle.places.specs.declared.Brush.{Brush}

-- 003, Area Outline Scissoring (lines 2031 to 2033); docs/DIFFERENCES.md, D5: the lowest X that a destination counts as: column 0
-- where an area boundary is drawn, and otherwise any
unfoldable pub edge_of : ℕ → ℤ
edge_of operations = choose (eqb (mode_of operations) 3) (pos 0) (negsuc 2047)

-- 003, Pixel Operations Register: whether the pattern is made from the source (9), which source fields are 10, whether it is an
-- area fill, and the drawing mode
unfoldable pub flow_of : ℕ → Flow
flow_of operations =
    record {
      derived = eqb (pattern_field operations) 9;
      foreground = eqb (foreground_source operations) 2;
      background = eqb (background_source operations) 2;
      fills = is_fill operations;
      mode = mode_of operations;
    }

-- 01, Registers, 7C: the field chooses the destination's map, the mask's is map 0; the plane mask counts by the destination's bits
unfoldable pub brush_of : Figure → List Map → Colours → Brush
brush_of f maps colours =
    record {
      destination = map_at maps (destination_field f.operations);
      mask = record { mode = mask_mode f.operations; map = map_at maps 0; origin = f.origin };
      edge = edge_of f.operations;
      flow = flow_of f.operations;
      colours = colours;
      depth = depth_of (bits_of (map_at maps (destination_field f.operations)).format) colours.planes;
    }
