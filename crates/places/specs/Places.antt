-- Where a position lies: on its map, in the mask's boundary, first or last of its line or code, on an area's boundary.
use Rattle.std.specs.Prelude.{ℕ, Bool, true, false, not, ◌&&◌, ◌||◌, leb, eqb, ℤ, pos, negsuc, ◌-ℤ◌}
use Rattle.std.specs.Int.Signed.{lt_z}
use Rattle.numbers.specs.Choose.{choose}
use Rattle.parts.specs.declared.drawing.Drawing.{Drawing}
use Rattle.parts.specs.declared.drawing.Drawing.TheVariants.{Nothing, Line, Codes, Block}
use Rattle.rules.specs.Codes.{only_moves, steps_of, code_at}
use Rattle.moves.specs.declared.Turn.{Turn}
use Rattle.moves.specs.declared.Turn.TheVariants.{Stay, Forth, Back}
use Rattle.moves.specs.declared.Travel.{Travel}
use Rattle.moves.specs.declared.Pen.{Pen}
use Rattle.moves.specs.Steps.{line_step, code_step, moves_row}
use Rattle.places.specs.declared.MaskMode.{MaskMode}
use Rattle.places.specs.declared.MaskMode.TheVariants.{Disabled, Boundary, Enabled}
use Rattle.places.specs.declared.Mode.{Mode}
use Rattle.places.specs.declared.Mode.TheVariants.{AllPixels, FirstNull, LastNull, AreaBoundary}
use Rattle.places.specs.declared.Brush.{Brush}
use Rattle.places.specs.declared.Setup.{Setup}

-- 01, One position: from 0 to the last column or row; edges are inside
unfoldable pub is_within : ℕ → ℤ → Bool
is_within last (pos n) = leb n last
is_within last (negsuc n) = false

-- 01, One position: a place that is within, as a column or row; 0 for one below 0, which no rule asks
unfoldable pub column_of : ℤ → ℕ
column_of (pos n) = n
column_of (negsuc n) = 0

-- 003, Area Outline Scissoring (lines 2031 to 2033); docs/DIFFERENCES.md, D5: the destination's X, and in an area boundary column 0
-- for one left of the map
unfoldable pub place_x : Brush → Pen → ℤ
place_x b pen = choose (lt_z pen.pointers.destination.x b.edge) b.edge pen.pointers.destination.x

-- 01, One position: the destination is inside its map
unfoldable pub on_map : Brush → Pen → Bool
on_map b pen = is_within b.destination.width (place_x b pen) && is_within b.destination.height pen.pointers.destination.y

-- docs/DECISIONS.md, 14: the mask pixel is (destination - origin); its column
unfoldable pub mask_x : Brush → Pen → ℤ
mask_x b pen = place_x b pen -ℤ pos b.mask.origin.x

-- docs/DECISIONS.md, 14: and its row
unfoldable pub mask_y : Brush → Pen → ℤ
mask_y b pen = pen.pointers.destination.y -ℤ pos b.mask.origin.y

-- 003, Pixel Operations Register: the mask mode of a number: 00 disabled, 01 the boundary alone, 10 enabled; 11, which a start
-- refuses, and any above are as 01
abbrev pub named_mask : ℕ → MaskMode
named_mask number = choose (eqb number 0) Disabled (choose (eqb number 2) Enabled Boundary)

-- 01, One position: mode 00, in which there is no mask boundary
abbrev pub is_disabled : MaskMode → Bool
is_disabled Disabled = true
is_disabled Boundary = false
is_disabled Enabled = false

-- 01, One position: mode 10, in which the mask map is used
abbrev pub is_enabled : MaskMode → Bool
is_enabled Disabled = false
is_enabled Boundary = false
is_enabled Enabled = true

-- 01, One position: inside the mask boundary, in modes 01 and 10
unfoldable pub in_mask : Brush → Pen → Bool
in_mask b pen =
    is_disabled (named_mask b.mask.mode) || (is_within b.mask.map.width (mask_x b pen) && is_within b.mask.map.height (mask_y b pen))

-- 01, The functions, Codes: bit 4 draws; a code without it only moves
unfoldable pub is_move : Travel → Drawing → Bool
is_move t (Nothing stopped) = false
is_move t (Line rose done) = false
is_move t (Codes count code done) = only_moves (code_at t.figure.steps count code)
is_move t (Block inside column row) = false

-- 01, The functions: the first position of a line or code
unfoldable pub is_first : Drawing → Bool
is_first (Nothing stopped) = false
is_first (Line rose done) = eqb done 0
is_first (Codes count code done) = eqb done 0
is_first (Block inside column row) = false

-- 01, The functions: the last position of a line or code
unfoldable pub is_last : Travel → Drawing → Bool
is_last t (Nothing stopped) = false
is_last t (Line rose done) = eqb done t.figure.dimensions.x
is_last t (Codes count code done) = eqb done (steps_of (code_at t.figure.steps count code))
is_last t (Block inside column row) = false

-- 003, Area Boundary Drawing (lines 2024 to 2026): going up only the first of every horizontal run, going down only the last, going
-- level none
abbrev pub of_run : Turn → Bool → Bool → Bool
of_run Stay first last = false
of_run Forth first last = last
of_run Back first last = first

-- 003, the same; 02, 102: the first of a run is the position that a step in Y led to, and the last the one that a step in Y leaves;
-- each code is a line of its own
unfoldable pub on_boundary : Travel → ℤ → Drawing → Bool
on_boundary t e (Nothing stopped) = true
on_boundary t e (Line rose done) =
    of_run t.course.y rose (not (is_last t (Line rose done)) && moves_row (line_step t.course e).y)
on_boundary t e (Codes count code done) =
    of_run (code_step (code_at t.figure.steps count code)).y (not (is_first (Codes count code done))) (not (is_last t (Codes count code done)))
on_boundary t e (Block inside column row) = true

-- 003, Pixel Operations Register: the drawing mode of a number: 00 draws all pixels, 01 first null, 10 last null, 11 an area boundary;
-- any above are as 00
abbrev pub named_mode : ℕ → Mode
named_mode number = choose (eqb number 1) FirstNull (choose (eqb number 2) LastNull (choose (eqb number 3) AreaBoundary AllPixels))

-- 01, The functions: mode 00, which draws all pixels
abbrev pub is_all : Mode → Bool
is_all AllPixels = true
is_all FirstNull = false
is_all LastNull = false
is_all AreaBoundary = false

-- 01, The functions: what a drawing mode leaves out: none, the first position, the last, or what is not on an area's boundary
abbrev pub left_out : Mode → (first last bounds : Bool) → Bool
left_out AllPixels first last bounds = false
left_out FirstNull first last bounds = first
left_out LastNull first last bounds = last
left_out AreaBoundary first last bounds = not bounds

-- 01, The functions: first null (mode 01), last null (mode 10); 02, 102: area boundary (mode 11); for each line and each code
unfoldable pub nulled_by : Setup → ℤ → Drawing → Bool
nulled_by s e d = left_out (named_mode s.brush.flow.mode) (is_first d) (is_last s.travel d) (on_boundary s.travel e d)

-- 01, One position: a nulled pixel, at the pen's E and drawing
unfoldable pub is_nulled : Setup → Pen → Bool
is_nulled s pen = nulled_by s pen.e pen.drawing
