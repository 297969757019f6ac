-- What becomes of a position.
use Rattle.std.specs.Prelude.{ℕ, Bool, not, ◌&&◌, List, eqb}
use Rattle.numbers.specs.Choose.{choose}
use Rattle.pixels.specs.Pixels.{pixel_at}
use Rattle.mixes.specs.Conditions.{condition_holds}
use Rattle.moves.specs.declared.Pen.{Pen}
use Rattle.places.specs.declared.Brush.{Brush}
use Rattle.places.specs.declared.Setup.{Setup}
use Rattle.places.specs.Places.{column_of, place_x, on_map, mask_x, mask_y, named_mask, is_enabled, in_mask, is_move, is_nulled}
use Rattle.position.specs.declared.Fate.{Fate}
use Rattle.position.specs.declared.Fate.TheVariants.{Moved, Nulled, OutsideMap, OutsideMask, MaskZero, Compared, Painted}

-- 01, One position: the destination pixel
unfoldable pub destination_pixel : Brush → List ℕ → Pen → ℕ
destination_pixel b memory pen = pixel_at memory b.destination (column_of (place_x b pen)) (column_of pen.pointers.destination.y)

-- 01, One position: a 0 mask pixel, in mode 10
unfoldable pub on_zero : Brush → List ℕ → Pen → Bool
on_zero b memory pen =
    is_enabled (named_mask b.mask.mode) && eqb (pixel_at memory b.mask.map (column_of (mask_x b pen)) (column_of (mask_y b pen))) 0

-- 01, One position: the compare condition is true of the destination
unfoldable pub is_compared : Brush → List ℕ → Pen → Bool
is_compared b memory pen =
    condition_holds b.depth.bits b.colours.compare.condition b.depth.planes (destination_pixel b memory pen) b.colours.compare.value

-- 01, One position; 02, 102; docs/DECISIONS.md, 43: nothing is written for a move code, a nulled pixel (first, last, or kept back by
-- the boundary mode), outside the map, outside the mask boundary, on a 0 mask pixel, or when the condition is true
unfoldable pub fate_of : Setup → List ℕ → Pen → Fate
fate_of s memory pen =
    choose (is_move s.travel pen.drawing) Moved
    (choose (is_nulled s pen) Nulled
    (choose (not (on_map s.brush pen)) OutsideMap
    (choose (not (in_mask s.brush pen)) OutsideMask
    (choose (on_zero s.brush memory pen) MaskZero
    (choose (is_compared s.brush memory pen) Compared
    Painted)))))
