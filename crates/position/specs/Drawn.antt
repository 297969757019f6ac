-- What a position writes.
use Rattle.std.specs.Prelude.{ℕ, Bool, true, not, ◌&&◌, List, eqb}
use Rattle.numbers.specs.Choose.{choose}
use Rattle.pixels.specs.Pixels.{pixel_at, with_pixel}
use Rattle.mixes.specs.Mixes.{mixed}
use Rattle.parts.specs.declared.shapes.Ink.{Ink}
use Rattle.parts.specs.Drawings.{inside_of, with_inside}
use Rattle.moves.specs.declared.Travel.{Travel}
use Rattle.moves.specs.declared.Pen.{Pen}
use Rattle.moves.specs.Moves.{pen_with}
use Rattle.places.specs.declared.Setup.{Setup}
use Rattle.places.specs.Places.{column_of, place_x}
use Rattle.position.specs.declared.Fate.{Fate}
use Rattle.position.specs.declared.Fate.TheVariants.{Moved, Nulled, OutsideMap, OutsideMask, MaskZero, Compared, Painted}
use Rattle.position.specs.Fates.{destination_pixel, fate_of}

-- 01, One position: the source pixel
unfoldable pub source_pixel : Travel → List ℕ → Pen → ℕ
source_pixel t memory pen = pixel_at memory t.source.map pen.pointers.source.x pen.pointers.source.y

-- 01, One position: the pattern map's pixel is 1
unfoldable pub is_one : Travel → List ℕ → Pen → Bool
is_one t memory pen = not (eqb (pixel_at memory t.pattern.map pen.pointers.pattern.x pen.pointers.pattern.y) 0)

-- 003, Area Fill (line 2096); 02, 102: at every position of a fill, drawn or left out, a pattern pixel of 1 turns inside to outside
-- or back
unfoldable pub inside_at : Setup → List ℕ → Pen → Bool
inside_at s memory pen =
    s.brush.flow.fills && choose (is_one s.travel memory pen) (not (inside_of pen.drawing)) (inside_of pen.drawing)

-- 02, 102: the pen with a fill's bit as it is after this position's pattern pixel
unfoldable pub crossed : Setup → List ℕ → Pen → Pen
crossed s memory pen = pen_with (with_inside (inside_at s memory pen) pen.drawing) pen

-- 01, One position: the pattern is 1; code 8 is always 1, code 9 is 1 where the source pixel is not 0; 02, 102: in a fill it is 1
-- where that then is inside
unfoldable pub is_foreground : Setup → List ℕ → Pen → Bool
is_foreground s memory pen =
    choose s.travel.pattern.used (choose s.brush.flow.fills (inside_at s memory pen) (is_one s.travel memory pen))
    (choose s.brush.flow.derived (not (eqb (source_pixel s.travel memory pen) 0))
    true)

-- 01, One position: pattern 1 picks the foreground mix, 0 the background
unfoldable pub ink_of : Setup → List ℕ → Pen → Ink
ink_of s memory pen = choose (is_foreground s memory pen) s.brush.colours.foreground s.brush.colours.background

-- 01, One position: S is the source pixel where the picked source field is 10, otherwise the picked colour
unfoldable pub picked : Setup → List ℕ → Pen → ℕ
picked s memory pen =
    choose (choose (is_foreground s memory pen) s.brush.flow.foreground s.brush.flow.background) (source_pixel s.travel memory pen)
    (ink_of s memory pen).colour

-- 01, One position: the pixel after the mix, under the plane mask
unfoldable pub mixed_pixel : Setup → List ℕ → Pen → ℕ
mixed_pixel s memory pen =
    mixed s.brush.depth.bits (ink_of s memory pen).mix s.brush.depth.planes (picked s memory pen) (destination_pixel s.brush memory pen)

-- 01, One position: only a painted position changes memory, and all its reads come before
unfoldable pub drawn_by : Fate → Setup → List ℕ → Pen → List ℕ
drawn_by Moved s memory pen = memory
drawn_by Nulled s memory pen = memory
drawn_by OutsideMap s memory pen = memory
drawn_by OutsideMask s memory pen = memory
drawn_by MaskZero s memory pen = memory
drawn_by Compared s memory pen = memory
drawn_by Painted s memory pen =
    with_pixel memory s.brush.destination (column_of (place_x s.brush pen)) (column_of pen.pointers.destination.y) (mixed_pixel s memory pen)

-- 01, One position: the memory after it
unfoldable pub drawn : Setup → List ℕ → Pen → List ℕ
drawn s memory pen = drawn_by (fate_of s memory pen) s memory pen
