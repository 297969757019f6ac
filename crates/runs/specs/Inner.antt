-- How the code draws rows: what functions inside promise and ask of each other, proved from the rules; nothing here has to be believed.
use Rattle.std.specs.Prelude.{◌≡◌, ℕ, zero, suc, ◌+◌, ◌-◌, ◌*◌, ◌%◌, ◌^◌, ◌<◌, ◌≤◌, min, Bool, true, false, not, ◌&&◌, ◌||◌, List, ℤ, pos, ◌==◌, ◌≢◌, int_lt, nat_lt, Option, Some, None}
use Rattle.std.proofs.Math.IntN.{sub_ℕ}
use Rattle.numbers.specs.Choose.{choose}
use Rattle.numbers.specs.Circles.{forth, residue}
use Rattle.pixels.specs.declared.Map.{Map}
use Rattle.pixels.specs.Maps.{bits_of}
use Rattle.pixels.specs.Inner.{place_at}
use Rattle.mixes.specs.declared.logical.Blend.{Blend}
use Rattle.mixes.specs.Inner.{blended}
use Rattle.rows.specs.declared.Lane.{Lane}
use Rattle.rows.specs.declared.Trail.{Trail}
use Rattle.rows.specs.Inner.{wholly, Alike, Inked, along, Reach}
use Rattle.parts.specs.declared.drawing.Drawing.{Drawing}
use Rattle.parts.specs.declared.drawing.Drawing.TheVariants.{Nothing, Line, Codes, Block}
use Rattle.parts.specs.Reduced.{term_reduced}
use Rattle.rules.specs.Codes.{only_moves, steps_of, code_at}
use Rattle.moves.specs.declared.Turn.{Turn}
use Rattle.moves.specs.declared.Turn.TheVariants.{Stay, Forth, Back}
use Rattle.parts.specs.declared.shapes.Point.{Point}
use Rattle.moves.specs.declared.Course.{Course}
use Rattle.moves.specs.declared.Travel.{Travel}
use Rattle.moves.specs.declared.Pen.{Pen}
use Rattle.moves.specs.Steps.{code_step}
use Rattle.moves.specs.Moves.{code_passed}
use Rattle.moves.specs.Inner.{columns_passed}
use Rattle.places.specs.declared.MaskMode.{MaskMode}
use Rattle.places.specs.declared.Brush.{Brush}
use Rattle.places.specs.declared.Setup.{Setup}
use Rattle.places.specs.Places.{column_of, place_x, on_map, named_mask, is_disabled, is_enabled, in_mask, named_mode, is_all}
use Rattle.position.specs.declared.Blends.{Blends}
use Rattle.position.specs.Drawn.{drawn}
use Rattle.runs.specs.declared.Ran.{Ran}
use Rattle.runs.specs.declared.plans.RowPlan.{RowPlan}
use Rattle.runs.specs.declared.plans.StrokePlan.{StrokePlan}
use Rattle.runs.specs.declared.plans.Plan.{Plan}
use Rattle.runs.specs.declared.plans.Plan.TheVariants.{Rows, Strokes, Singly}
use Rattle.runs.specs.declared.plans.Taken.{Taken}
use Rattle.runs.specs.declared.plans.Taken.TheVariants.{Own, Source, Pattern}
use Rattle.runs.specs.declared.strokes.Stroke.{Stroke}
use Rattle.runs.specs.Runs.{begun, after}

-- ---- positions of one row

-- a block's drawing k columns further, outside
abbrev pub drawing_on : ℕ → Drawing → Drawing
drawing_on k (Nothing stopped) = Nothing stopped
drawing_on k (Line rose done) = Line rose done
drawing_on k (Codes count code done) = Codes count code done
drawing_on k (Block inside column row) = Block false (column + k) row

-- the pen k columns further
abbrev pub columns_on : Travel → ℕ → Pen → Pen
columns_on s k pen = columns_passed s k (drawing_on k pen.drawing) pen

-- the memory after k positions of a row
unfoldable pub row_drawn : Setup → ℕ → List ℕ → Pen → List ℕ
row_drawn s zero memory pen = memory
row_drawn s (suc k) memory pen = drawn s (row_drawn s k memory pen) (columns_on s.travel k pen)

-- ---- what a drawing's rows have in common

-- whether it is a block
abbrev pub is_block : Drawing → Bool
is_block (Nothing stopped) = false
is_block (Line rose done) = false
is_block (Codes count code done) = false
is_block (Block inside column row) = true

-- whether it is a line or codes
abbrev pub is_stroke : Drawing → Bool
is_stroke (Nothing stopped) = false
is_stroke (Line rose done) = true
is_stroke (Codes count code done) = true
is_stroke (Block inside column row) = false

-- the first and the last place inside the mask boundary, and the last inside the map too, on the circle
abbrev pub low_edge : MaskMode → (origin : ℕ) → ℕ
low_edge mode origin = choose (is_disabled mode) 0 origin

abbrev pub mask_end : MaskMode → (origin extent : ℕ) → ℕ
mask_end mode origin extent = choose (is_disabled mode) 6143 (origin + extent)

abbrev pub high_edge : (last : ℕ) → MaskMode → (origin extent : ℕ) → ℕ
high_edge last mode origin extent = min (min last 6143) (mask_end mode origin extent)

-- the columns and rows that are inside the map and the mask boundary
abbrev pub left_edge : Brush → ℕ
left_edge b = low_edge (named_mask b.mask.mode) b.mask.origin.x

abbrev pub right_edge : Brush → ℕ
right_edge b = high_edge b.destination.width (named_mask b.mask.mode) b.mask.origin.x b.mask.map.width

abbrev pub top_edge : Brush → ℕ
top_edge b = low_edge (named_mask b.mask.mode) b.mask.origin.y

abbrev pub bottom_edge : Brush → ℕ
bottom_edge b = high_edge b.destination.height (named_mask b.mask.mode) b.mask.origin.y b.mask.map.height

-- whether a turn moves
abbrev pub goes_across : Turn → Bool
goes_across Stay = false
goes_across Forth = true
goes_across Back = true

-- whether it goes back
abbrev pub goes_back : Turn → Bool
goes_back Stay = false
goes_back Forth = false
goes_back Back = true

-- no position is kept back by a mask pixel or by the condition
abbrev pub is_free : Brush → Bool
is_free b = not (is_enabled (named_mask b.mask.mode)) && b.colours.compare.condition == 4

-- it goes row by row, on either side of the map's left edge
abbrev pub goes_in_rows : Setup → Bool
goes_in_rows s = int_lt s.brush.edge (pos 0) && goes_across s.travel.course.x

-- every position is of the foreground, and none is kept back by a mask pixel or by the condition
abbrev pub is_plain : Setup → Bool
is_plain s = (not s.brush.flow.fills && not s.travel.pattern.used && not s.brush.flow.derived) && is_free s.brush

-- its mix is logical, of pixels of the map's size, and a source pixel is of the destination's format
abbrev pub is_blended : Setup → Bool
is_blended s =
    (nat_lt s.brush.colours.foreground.mix 16 && s.brush.depth.bits == bits_of s.brush.destination.format)
    && (not s.brush.flow.foreground || s.travel.source.map.format == s.brush.destination.format)

-- rows are drawn as rows
abbrev pub has_rows : Setup → Bool
has_rows s = is_plain s && is_blended s && goes_in_rows s

-- every position is of the ink that its pattern pixel picks, neither takes the source pixel, and none is kept back
abbrev pub is_inked : Setup → Bool
is_inked s =
    ((not s.brush.flow.fills && s.travel.pattern.used) && (not s.brush.flow.foreground && not s.brush.flow.background)) && is_free s.brush

-- both mixes are logical, of pixels of the map's size, which is a byte, and a pattern pixel is a bit
abbrev pub is_expanded : Setup → Bool
is_expanded s =
    ((nat_lt s.brush.colours.foreground.mix 16 && nat_lt s.brush.colours.background.mix 16)
    && s.brush.depth.bits == bits_of s.brush.destination.format)
    && (bits_of s.brush.destination.format == 8 && bits_of s.travel.pattern.map.format == 1)

-- rows are drawn through a pattern
abbrev pub has_inks : Setup → Bool
has_inks s = is_inked s && is_expanded s && goes_in_rows s

-- what the pixels of a row are made of beside themselves decides how they are drawn: of nothing, of the source's, or of the pattern's
abbrev pub RowsBy : Setup → Taken → Type 0
RowsBy s Own = (has_rows s ≡ true) × (s.brush.flow.foreground ≡ false)
RowsBy s Source = (has_rows s ≡ true) × (s.brush.flow.foreground ≡ true)
RowsBy s Pattern = has_inks s ≡ true

-- a straight step is a part of the turned one
abbrev pub agrees : (straight turned : Turn) → Bool
agrees Stay turned = true
agrees Forth turned = goes_across turned && not (goes_back turned)
agrees Back turned = goes_back turned

-- each step of a line moves the destination, and none is marked
abbrev pub is_straight : Course → Bool
is_straight c = (not c.read && not c.bounds) && (agrees c.straight.x c.x && agrees c.straight.y c.y)

-- lines and codes are drawn as strokes: solid, and each position of them
abbrev pub has_strokes : Setup → Bool
has_strokes s =
    is_plain s && is_blended s && (int_lt s.brush.edge (pos 0) && is_straight s.travel.course)
    && ((not s.travel.source.used && not s.brush.flow.foreground) && is_all (named_mode s.brush.flow.mode))

-- the map whose pixels a row takes beside its own
abbrev pub taken_map : Setup → Taken → Map
taken_map s Own = s.brush.destination
taken_map s Source = s.travel.source.map
taken_map s Pattern = s.travel.pattern.map

-- a plan of rows is that of a drawing
pub record RowPlanned (s : Setup) (p : RowPlan) : Type 0 where
  pub rows : RowsBy s p.takes
  pub map : p.map ≡ taken_map s p.takes
  pub back : p.back ≡ goes_back s.travel.course.x
  pub left : p.left ≡ left_edge s.brush
  pub right : p.right ≡ right_edge s.brush

-- and so is one of strokes
pub record StrokePlanned (s : Setup) (p : StrokePlan) : Type 0 where
  pub strokes : has_strokes s ≡ true
  pub left : p.left ≡ left_edge s.brush
  pub right : p.right ≡ right_edge s.brush
  pub top : p.top ≡ top_edge s.brush
  pub bottom : p.bottom ≡ bottom_edge s.brush

abbrev pub Planned : Setup → Plan → Type 0
Planned s (Rows p) = RowPlanned s p
Planned s (Strokes p) = StrokePlanned s p
Planned s Singly = Unit {0}

-- its blends of bytes are those of the inks' pixels
abbrev pub BlendOf : Setup → Blend ℕ → Blend ℕ → Type 0
BlendOf s blend whole = Alike s.brush.destination.format (blended (bits_of s.brush.destination.format) blend) (wholly whole)

abbrev pub RowBlended : Setup → Blends → RowPlan → Type 0
RowBlended s blends p = BlendOf s blends.foreground p.front × BlendOf s blends.background p.rear

abbrev pub Blended : Setup → Blends → Plan → Type 0
Blended s blends (Rows p) = RowBlended s blends p
Blended s blends (Strokes p) = BlendOf s blends.foreground p.whole
Blended s blends Singly = Unit {0}

-- ---- a stretch of a row

-- k places from here on, back or forth, lie from low to high
abbrev pub Spans : Bool → (here k low high : ℕ) → Type 0
Spans true here k low high = (k + low ≤ here + 1) × (here ≤ high)
Spans false here k low high = (low ≤ here) × (here + k ≤ high + 1)

-- how many pixels of a map come before this one
abbrev pub pixel_number : Map → (x y : ℕ) → ℕ
pixel_number map x y = y * (map.width + 1) + x

-- a map's sizes are of 16 bits
abbrev pub Sized : Map → Type 0
Sized map = (map.width < 2 ^ 16) × (map.height < 2 ^ 16)

-- the destination's column and row
abbrev pub column_at : Setup → Pen → ℕ
column_at s pen = column_of (place_x s.brush pen)

abbrev pub row_at : Pen → ℕ
row_at pen = column_of pen.pointers.destination.y

-- the pixel that a row takes beside its own
abbrev pub taken_x : Setup → Taken → Pen → ℕ
taken_x s Own pen = column_at s pen
taken_x s Source pen = pen.pointers.source.x
taken_x s Pattern pen = pen.pointers.pattern.x

abbrev pub taken_y : Setup → Taken → Pen → ℕ
taken_y s Own pen = row_at pen
taken_y s Source pen = pen.pointers.source.y
taken_y s Pattern pen = pen.pointers.pattern.y

-- the lane of a row from the pen's pixel on, back or forth
abbrev pub lane_by : Setup → Taken → Map → Bool → Pen → Lane
lane_by s taken map back pen =
    record {
      format = s.brush.destination.format;
      back = back;
      source = map.base;
      destination = s.brush.destination.base;
      from = pixel_number map (taken_x s taken pen) (taken_y s taken pen);
      to = pixel_number s.brush.destination (column_at s pen) (row_at pen);
    }

abbrev pub lane_at : Setup → RowPlan → Pen → Lane
lane_at s p pen = lane_by s p.takes p.map p.back pen

-- what is made of a pixel that is taken and one of the destination
abbrev pub row_op : Setup → Blends → Taken → ℕ → ℕ → ℕ
row_op s blends Own S D = blended (bits_of s.brush.destination.format) blends.foreground S D
row_op s blends Source S D = blended (bits_of s.brush.destination.format) blends.foreground S D
row_op s blends Pattern S D =
    choose (S == 0) (blended (bits_of s.brush.destination.format) blends.background 0 D)
    (blended (bits_of s.brush.destination.format) blends.foreground 0 D)

-- an operation of pixels is that of a lane's bytes: the blend's, or that of the ink which a pattern pixel picks
abbrev pub Makes : Taken → (format : ℕ) → (op : ℕ → ℕ → ℕ) → (front rear : Blend ℕ) → Type 0
Makes Own format op front rear = Alike format op (wholly front)
Makes Source format op front rear = Alike format op (wholly front)
Makes Pattern format op front rear = Inked op front rear

-- the formats of a lane's pixels and of those that it takes: bytes and bits through a pattern, and otherwise the same
abbrev pub Formed : Taken → (order format : ℕ) → Type 0
Formed Own order format = order ≡ format
Formed Source order format = order ≡ format
Formed Pattern order format = (bits_of format ≡ 8) × (bits_of order ≡ 1)

-- whether it is a pattern's
abbrev pub is_pattern : Taken → Bool
is_pattern Own = false
is_pattern Source = false
is_pattern Pattern = true

-- no byte of n pixels that a lane takes lies among those that it makes
abbrev pub Separate : (order : ℕ) → Lane → ℕ → Type 0
Separate order l n =
    (i j : ℕ) → i < n → j < n
    → place_at order l.source (along l.back l.from i) ≢ place_at l.format l.destination (along l.back l.to j)

-- n pixels of a lane and those that they take lie in a memory
pub record Laid (taken : Taken) (order : ℕ) (l : Lane) (n size : ℕ) : Type 0 where
  pub some : 0 < n
  pub formed : Formed taken order l.format
  pub from : Reach l.back l.from n (2 ^ 32)
  pub to : Reach l.back l.to n (2 ^ 32)
  pub source : (i : ℕ) → i < n → place_at order l.source (along l.back l.from i) < size
  pub destination : (i : ℕ) → i < n → place_at l.format l.destination (along l.back l.to i) < size

-- k positions from the pen on are alike: in one row, inside the map and the mask boundary, and no pointer wraps between them
pub record Stretch (s : Setup) (p : RowPlan) (pen : Pen) (k : ℕ) : Type 0 where
  pub column : ℕ
  pub row : ℕ
  pub drawing : pen.drawing ≡ Block false column row
  pub ends : k ≤ s.travel.figure.dimensions.x - column + 1
  pub small : column + k ≤ 2 ^ 16
  pub on : on_map s.brush pen ≡ true
  pub inside : in_mask s.brush pen ≡ true
  pub columns : Spans p.back (column_at s pen) k p.left p.right
  pub taken : Spans p.back (taken_x s p.takes pen) k 0 p.map.width

-- ---- a stroke

-- a term's remainder, and an error term as a trail has it, 8,192 higher, and as it stands
abbrev pub remainder : ℤ → ℕ
remainder k = residue 16384 k

abbrev pub raised : ℤ → ℕ
raised e = forth 16384 8192 (residue 16384 e)

abbrev pub error_in : ℕ → ℤ
error_in e = sub_ℕ e 8192

-- the stroke of a line, and of a code, which never turns
abbrev pub line_drawn : Travel → ℤ → ℕ → Stroke
line_drawn s e done =
    record {
      straight = s.course.straight;
      turned = record { x = s.course.x; y = s.course.y };
      e = raised e;
      k1 = remainder s.k1;
      k2 = remainder s.k2;
      steps = s.figure.dimensions.x - done;
    }

abbrev pub code_drawn : (code done : ℕ) → Stroke
code_drawn code done =
    record { straight = code_step code; turned = code_step code; e = 0; k1 = 0; k2 = 0; steps = steps_of code - done }

-- a line has none whose error term is not reduced, and a code none that only moves
abbrev pub line_stroke : Travel → ℤ → ℕ → Option Stroke
line_stroke s e done = choose (term_reduced e) (Some (line_drawn s e done)) None

abbrev pub code_stroke : (code done : ℕ) → Option Stroke
code_stroke code done = choose (only_moves code) None (Some (code_drawn code done))

-- the stroke of a drawing
abbrev pub stroke_of : Travel → ℤ → Drawing → Option Stroke
stroke_of s e (Nothing stopped) = None
stroke_of s e (Line rose done) = line_stroke s e done
stroke_of s e (Codes count code done) = code_stroke (code_at s.figure.steps count code) done
stroke_of s e (Block inside column row) = None

-- how far a turn moves the number of a pixel, past last + 1 of them, as a number that wraps; and how far a step does
abbrev pub stride_by : Turn → (last : ℕ) → ℕ
stride_by Stay last = 0
stride_by Forth last = last + 1
stride_by Back last = 2 ^ 32 - 1 - last

abbrev pub stride_of : (width : ℕ) → Point Turn → ℕ
stride_of width step = (stride_by step.x 0 + stride_by step.y width) % 2 ^ 32

-- the trail of a stroke from a pixel on
abbrev pub trail_from : Map → Stroke → (x y : ℕ) → Trail
trail_from map k x y =
    record {
      format = map.format;
      base = map.base;
      at = pixel_number map x y;
      e = k.e;
      k1 = k.k1;
      k2 = k.k2;
      straight = stride_of map.width k.straight;
      turned = stride_of map.width k.turned;
    }

-- the steps that a line or code has done
abbrev pub done_in : Drawing → ℕ
done_in (Nothing stopped) = 0
done_in (Line rose done) = done
done_in (Codes count code done) = done
done_in (Block inside column row) = 0

-- the drawing i steps further, and after its last position
abbrev pub drawing_at : ℕ → Drawing → Drawing
drawing_at i (Nothing stopped) = Nothing stopped
drawing_at i (Line rose done) = Line (rose && i == 0) (done + i)
drawing_at i (Codes count code done) = Codes count code (done + i)
drawing_at i (Block inside column row) = Block inside column row

abbrev pub drawing_ended : Travel → Drawing → Drawing
drawing_ended s (Nothing stopped) = Nothing stopped
drawing_ended s (Line rose done) = Nothing false
drawing_ended s (Codes count code done) = code_passed s.figure.steps count code
drawing_ended s (Block inside column row) = Block inside column row

-- the error term with which it goes on: a line's is the trail's
abbrev pub error_of : Drawing → ℕ → ℤ → ℤ
error_of (Nothing stopped) e old = old
error_of (Line rose done) e old = error_in e
error_of (Codes count code done) e old = old
error_of (Block inside column row) e old = old

-- the pen at another place
abbrev pub pen_at : (x y e : ℤ) → Drawing → Pen → Pen
pen_at x y e drawing pen =
    record {
      pointers = record { source = pen.pointers.source; pattern = pen.pointers.pattern; destination = record { x = x; y = y } };
      e = e;
      drawing = drawing;
    }

-- a stroke from a pixel that is inside on, and how many places back or forth from there are inside
pub record Inside (s : Setup) (pen : Pen) (k : Stroke) (x y across down : ℕ) : Type 0 where
  pub has : has_strokes s ≡ true
  pub stroke : stroke_of s.travel pen.e pen.drawing ≡ Some k
  pub small : done_in pen.drawing + k.steps < 2 ^ 16
  pub on : on_map s.brush pen ≡ true
  pub column : x ≡ column_at s pen
  pub row : y ≡ row_at pen
  pub some : (0 < across) × (0 < down)
  pub columns : Spans (goes_back k.turned.x) x across (left_edge s.brush) (right_edge s.brush)
  pub rows : Spans (goes_back k.turned.y) y down (top_edge s.brush) (bottom_edge s.brush)

-- ---- what was done

-- so many positions from the pen on leave this pen and this memory
abbrev pub Did : Setup → Pen → (entry exit : List ℕ) → Ran → Type 0
Did s pen entry exit r = after s r.done (begun pen entry) ≡ record { pen = r.pen; memory = exit; done = r.done }
