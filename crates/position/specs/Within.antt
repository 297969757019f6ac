-- That every pixel which a position reads or writes lies in the memory.
use Rattle.std.specs.Prelude.{◌≡◌, Bool, true, ◌||◌, ℕ, ◌<◌}
use Rattle.pixels.specs.Maps.{place_of}
use Rattle.moves.specs.declared.Pen.{Pen}
use Rattle.places.specs.declared.MaskMode.TheVariants.{Enabled}
use Rattle.places.specs.declared.Flow.{Flow}
use Rattle.places.specs.declared.Setup.{Setup}
use Rattle.places.specs.Places.{column_of, place_x, on_map, mask_x, mask_y, named_mask, in_mask}

-- 01, One position: the source pixel is read where a source field is 10 or the pattern is 9
abbrev pub reads_source : Flow → Bool
reads_source flow = flow.foreground || flow.background || flow.derived

-- 02, 108; docs/DECISIONS.md, 6: each pixel that a position reads or writes lies, by its byte, in a memory of this size: pattern and
-- source where they are read, mask and destination where the destination is inside its map and the mask boundary
pub record Within (s : Setup) (size : ℕ) (pen : Pen) : Type 0 where
  pub pattern : s.travel.pattern.used ≡ true → place_of s.travel.pattern.map pen.pointers.pattern.x pen.pointers.pattern.y < size
  pub source : reads_source s.brush.flow ≡ true → place_of s.travel.source.map pen.pointers.source.x pen.pointers.source.y < size
  pub mask : on_map s.brush pen ≡ true → in_mask s.brush pen ≡ true → named_mask s.brush.mask.mode ≡ Enabled
      → place_of s.brush.mask.map (column_of (mask_x s.brush pen)) (column_of (mask_y s.brush pen)) < size
  pub destination : on_map s.brush pen ≡ true → in_mask s.brush pen ≡ true
      → place_of s.brush.destination (column_of (place_x s.brush pen)) (column_of pen.pointers.destination.y) < size
