-- A stretch of a plain row is a lane of pixels: each of its positions is painted, and makes its pixel by the blend.
use Rattle.std.proofs.Common.{◌≡◌, ℕ, zero, suc, ◌+◌, ◌-◌, ◌*◌, ◌/◌, ◌%◌, ◌^◌, ◌<◌, ◌≤◌, Bool, true, false, ◌&&◌, List, pos, sym, refl, ap, ◌∙◌, subst, le_trans, lt_of_le_of_lt, mul-le-mul_right, arith}
use mathlib.Core.Bool.{false≢true}
use native.Mathlib.Nat.{min-le_left, min-le_right}
use lib.Signed.{lt_z}
use Rattle.numbers.specs.Choose.{choose}
use Rattle.numbers.specs.Fields.{field}
use Rattle.numbers.proofs.Choices.{choose_true, and_left, and_right}
use Rattle.pixels.specs.declared.Map.{Map}
use Rattle.pixels.specs.Maps.{bits_of, start_of, place_of, shift_of}
use Rattle.pixels.specs.Pixels.{byte_at, pixel_at}
use Rattle.pixels.specs.Inner.{place_at}
use Rattle.mixes.specs.declared.logical.Blend.{Blend}
use Rattle.mixes.specs.Inner.{blended}
use Rattle.rows.specs.Inner.{wholly, along, Reach, pixel_no, with_pixel_no, swept_from}
use Rattle.parts.specs.declared.drawing.Drawing.TheVariants.{Block}
use Rattle.rules.specs.Maps.{end_holds}
use Rattle.rules.proofs.PointerLaws.{inside_y}
use Rattle.moves.specs.declared.Pen.{Pen}
use Rattle.moves.specs.Turns.{turned_by}
use Rattle.moves.specs.Moves.{moved}
use Rattle.moves.specs.Inner.{columns_passed}
use Rattle.moves.proofs.CircledLaws.{OnCircle}
use Rattle.moves.proofs.ColumnLaws.{pos_on}
use Rattle.moves.proofs.Kept.{source_in, pattern_in}
use Rattle.places.specs.declared.Setup.{Setup}
use Rattle.places.specs.Places.{is_move, is_first, is_last, on_boundary, named_mode, nulled_by, is_nulled, on_map, in_mask}
use Rattle.places.proofs.ModeLaws.{none_left}
use Rattle.position.specs.declared.Blends.{Blends}
use Rattle.position.specs.Drawn.{source_pixel, drawn}
use Rattle.position.specs.Inner.{InkBlends, Safe}
use Rattle.position.proofs.Safety.{held_within, picked_reads}
use Rattle.position.proofs.Writing.{on_map_lem}
use Rattle.runs.specs.declared.plans.RowPlan.{RowPlan}
use Rattle.runs.specs.declared.plans.Taken.{Taken}
use Rattle.runs.specs.declared.plans.Taken.TheVariants.{Own, Source, Pattern}
use Rattle.runs.specs.Runs.{begun, after}
use Rattle.runs.specs.Inner.{drawing_on, columns_on, row_drawn, left_edge, right_edge, goes_across, goes_back, is_plain, is_blended, is_inked, is_expanded, has_rows, has_inks}
use Rattle.runs.specs.Inner.{RowsBy, RowPlanned, BlendOf, RowBlended, taken_map, taken_x, taken_y, row_op, Makes, Formed, Laid}
use Rattle.runs.specs.Inner.{Spans, pixel_number, Sized, column_at, row_at, lane_by, lane_at, Stretch}
use Rattle.runs.proofs.StretchLaws.{stretch_after}
use Rattle.runs.proofs.PlainLaws.{Plained, plained, Patterned, patterned, drawn_plain, drawn_inked}
use Rattle.runs.proofs.PlaceLaws.{on_column, spans_wider, spans_at, right_in, turned_along, column_at_lem, on_at, inside_at_lem}

-- ---- what a drawing with rows has

pub record Rowed (s : Setup) : Type 0 where
  pub fills : s.brush.flow.fills ≡ false
  pub edge : lt_z s.brush.edge (pos 0) ≡ true
  pub across : goes_across s.travel.course.x ≡ true

pub plain_rows : (s : Setup) → has_rows s ≡ true → Plained s
plain_rows s rows = let alike = and_left (is_plain s && is_blended s) _ rows in plained s (and_left (is_plain s) _ alike) (and_right (is_plain s) _ alike)

pub inked_rows : (s : Setup) → has_inks s ≡ true → Patterned s
inked_rows s rows = let alike = and_left (is_inked s && is_expanded s) _ rows in patterned s (and_left (is_inked s) _ alike) (and_right (is_inked s) _ alike)

ways : (s : Setup) (a : Bool) → (a && (lt_z s.brush.edge (pos 0) && goes_across s.travel.course.x)) ≡ true → s.brush.flow.fills ≡ false → Rowed s
ways s a h fills =
    let both = and_right a _ h in
    record { fills = fills; edge = and_left (lt_z s.brush.edge (pos 0)) _ both; across = and_right (lt_z s.brush.edge (pos 0)) _ both }

pub rowed : (s : Setup) (t : Taken) → RowsBy s t → Rowed s
rowed s Own h = ways s (is_plain s && is_blended s) h.0 (plain_rows s h.0).fills
rowed s Source h = ways s (is_plain s && is_blended s) h.0 (plain_rows s h.0).fills
rowed s Pattern h = ways s (is_inked s && is_expanded s) h (inked_rows s h).fills

-- ---- numbers of pixels in a row

pub number_along : (back : Bool) (map : Map) (x y i k low high : ℕ) → i < k → Spans back x k low high
    → pixel_number map (along back x i) y ≡ along back (pixel_number map x y) i
number_along true map x y i k low high less h = let few : i ≤ x = omega (arith, h.0) in omega arith
number_along false map x y i k low high less h = omega arith

pub number_lt : (map : Map) (x y : ℕ) → map.width < 2 ^ 16 → y < 2 ^ 16 → x ≤ map.width → pixel_number map x y < 2 ^ 32
number_lt map x y wide high h =
    let rows : y * (map.width + 1) ≤ 65535 * (map.width + 1) = mul-le-mul_right (map.width + 1) (omega arith) in omega arith

number_reach : (back : Bool) (map : Map) (x y k low : ℕ) → map.width < 2 ^ 16 → y < 2 ^ 16 → Spans back x k low map.width → 0 < k
    → Reach back (pixel_number map x y) k (2 ^ 32)
number_reach true map x y k low wide high h some = (omega (arith, h.0), number_lt map x y wide high h.1)
number_reach false map x y k low wide high h some =
    let last : pixel_number map (x + (k - 1)) y < 2 ^ 32 = number_lt map (x + (k - 1)) y wide high (omega (arith, h.1)) in omega arith

-- the pixels of a row lie where the map does
number_place : (back : Bool) (map : Map) (x y k low size : ℕ) → Spans back x k low map.width → y ≤ map.height → end_holds size map ≡ true
    → (i : ℕ) → i < k → place_at map.format map.base (along back (pixel_number map x y) i) < size
unfolding place_of start_of
number_place back map x y k low size spans high ends i less =
    subst (λ (n : ℕ). place_at map.format map.base n < size) (number_along back map x y i k low map.width less spans)
    (held_within size map (along back x i) y (spans_at back x k low map.width i less spans).1 high ends)

-- a byte is the one pixel in it, where pixels have eight bits
whole_pixel : (n : ℕ) (w blend : Blend ℕ) → n ≡ 8
    → ((i s d : ℕ) → i * n < 8 → field (i * n) n (wholly w s d) ≡ blended n blend (field (i * n) n s) (field (i * n) n d) % 2 ^ n)
    → (d : ℕ) → d < 256 → blended n blend 0 d % 256 ≡ wholly w 0 d % 256
unfolding field
whole_pixel n w blend eight =
    subst (λ (n : ℕ). ((i s d : ℕ) → i * n < 8 → field (i * n) n (wholly w s d) ≡ blended n blend (field (i * n) n s) (field (i * n) n d) % 2 ^ n)
    → (d : ℕ) → d < 256 → blended n blend 0 d % 256 ≡ wholly w 0 d % 256) (sym eight)
    (λ h d small.
    let same : d ≡ d / 2 ^ 0 % 2 ^ 8 = omega arith in
    let whole : (x : ℕ) → x / 2 ^ 0 % 2 ^ 8 ≡ x % 256 = λ x. omega arith in
    ap (λ (x : ℕ). blended 8 blend 0 x % 256) same ∙ sym (h 0 0 d (omega arith)) ∙ whole (wholly w 0 d))

-- ---- what a row takes

module _ (s : Setup) (size : ℕ) (pen : Pen) (safe : Safe s size pen) where
  source_used : s.brush.flow.foreground ≡ true → s.travel.source.used ≡ true
  source_used takes = safe.used (picked_reads s.brush.flow true takes)

  taken_low : (t : Taken) → RowsBy s t → on_map s.brush pen ≡ true → taken_y s t pen ≤ (taken_map s t).height
  taken_low Own h on = (on_map_lem s.brush pen on).1
  taken_low Source h on = inside_y s.travel.source.map pen.pointers.source (source_in s.travel pen safe.pointers (source_used h.1))
  taken_low Pattern h on = inside_y s.travel.pattern.map pen.pointers.pattern (pattern_in s.travel pen safe.pointers (inked_rows s h).used)

  taken_ends : (t : Taken) → RowsBy s t → end_holds size (taken_map s t) ≡ true
  taken_ends Own h = safe.destination
  taken_ends Source h = safe.source (source_used h.1)
  taken_ends Pattern h = safe.pattern (inked_rows s h).used

  taken_formed : (t : Taken) → RowsBy s t → Formed t (taken_map s t).format s.brush.destination.format
  taken_formed Own h = refl
  taken_formed Source h = (plain_rows s h.0).format h.1
  taken_formed Pattern h = ((inked_rows s h).bytes, (inked_rows s h).ones)

-- ---- a position of a stretch

module _ (s : Setup) (p : RowPlan) (planned : RowPlanned s p)
    (pen : Pen) (size k : ℕ) (safe : Safe s size pen) (stretch : Stretch s p pen k) where
  abbrev taken : Taken
  taken = p.takes

  abbrev by : RowsBy s p.takes
  by = planned.rows

  abbrev row : Rowed s
  row = rowed s p.takes by

  abbrev back : Bool
  back = goes_back s.travel.course.x

  abbrev at : ℕ → Pen
  at i = columns_on s.travel i pen

  abbrev map : Map
  map = s.brush.destination

  -- the columns of the stretch, by the direction of the drawing
  columns : Spans back (column_at s pen) k (left_edge s.brush) (right_edge s.brush)
  columns =
      let there = stretch.columns in
      subst (λ (b : Bool). Spans b (column_at s pen) k (left_edge s.brush) (right_edge s.brush)) planned.back
      (subst (λ (l : ℕ). Spans p.back (column_at s pen) k l (right_edge s.brush)) planned.left
      (subst (λ (r : ℕ). Spans p.back (column_at s pen) k p.left r) planned.right there))

  -- and those of the pixels that are taken
  spans : Spans back (taken_x s taken pen) k 0 (taken_map s taken).width
  spans =
      subst (λ (b : Bool). Spans b (taken_x s taken pen) k 0 (taken_map s taken).width) planned.back
      (subst (λ (m : Map). Spans p.back (taken_x s taken pen) k 0 m.width) planned.map stretch.taken)

  -- it lies in the memory
  pub row_laid : 0 < k → Sized map → Sized p.map → Laid taken p.map.format (lane_at s p pen) k size
  row_laid some sized sized' =
      subst (λ (m : Map). Laid taken m.format (lane_by s taken m p.back pen) k size) (sym planned.map)
      (subst (λ (b : Bool). Laid taken (taken_map s taken).format (lane_by s taken (taken_map s taken) b pen) k size) (sym planned.back)
      (record {
        some = some;
        formed = taken_formed s size pen safe taken by;
        from = number_reach back (taken_map s taken) (taken_x s taken pen) (taken_y s taken pen) k 0 sized''.0 (lt_of_le_of_lt low' sized''.1) spans some;
        to = number_reach back map (column_at s pen) (row_at pen) k (left_edge s.brush) sized.0 (lt_of_le_of_lt low sized.1) wide some;
        source = number_place back (taken_map s taken) (taken_x s taken pen) (taken_y s taken pen) k 0 size spans low' (taken_ends s size pen safe taken by);
        destination = number_place back map (column_at s pen) (row_at pen) k (left_edge s.brush) size wide low safe.destination;
      }))
    where
      sized'' : Sized (taken_map s taken)
      sized'' = subst Sized planned.map sized'

      wide : Spans back (column_at s pen) k (left_edge s.brush) map.width
      wide = spans_wider back (column_at s pen) k (left_edge s.brush) (right_edge s.brush) map.width (right_in s.brush) columns

      low : row_at pen ≤ map.height
      low = (on_map_lem s.brush pen stretch.on).1

      low' : taken_y s taken pen ≤ (taken_map s taken).height
      low' = taken_low s size pen safe taken by stretch.on

  -- it begins on the destination's circle
  pub stretch_on : 0 < k → OnCircle pen.pointers.destination.x
  stretch_on some =
      subst OnCircle (sym (on_column s.brush pen row.edge stretch.on)) (pos_on (column_at s pen) (first back columns))
    where
      circle : right_edge s.brush ≤ 6143
      circle = le_trans (min-le_left _ _) (min-le_right _ _)

      first : (b : Bool) → Spans b (column_at s pen) k (left_edge s.brush) (right_edge s.brush) → column_at s pen ≤ 6143
      first true h = le_trans h.1 circle
      first false h = omega (arith, h.1, circle)

  -- ---- its positions, by the inks' blends

  module _ (i : ℕ) (less : i < k) where
    -- where it lies
    column_there : column_at s (at i) ≡ along back (column_at s pen) i
    column_there = column_at_lem s pen k row.edge row.across stretch.on stretch.inside columns i less

    number_at_lem : pixel_number map (column_at s (at i)) (row_at pen) ≡ along back (pixel_number map (column_at s pen) (row_at pen)) i
    number_at_lem =
        ap (λ (x : ℕ). pixel_number map x (row_at pen)) column_there
        ∙ number_along back map (column_at s pen) (row_at pen) i k (left_edge s.brush) (right_edge s.brush) less columns

    -- a pointer that is used
    pointer_there : (used : Bool) (m : Map) (x : ℕ) → used ≡ true → Spans back x k 0 m.width
        → choose used (turned_by s.travel.course.x i m.width x) x ≡ along back x i
    pointer_there used m x e h = choose_true _ _ e ∙ turned_along s.travel.course.x x k m.width i row.across less h

    -- the pixel that is taken
    taken_there : (t : Taken) → RowsBy s t → Spans back (taken_x s t pen) k 0 (taken_map s t).width → taken_x s t (at i) ≡ along back (taken_x s t pen) i
    unfolding columns_passed
    taken_there Own h _ = column_there
    taken_there Source h within = pointer_there s.travel.source.used s.travel.source.map pen.pointers.source.x (source_used s size pen safe h.1) within
    taken_there Pattern h within = pointer_there s.travel.pattern.used s.travel.pattern.map pen.pointers.pattern.x (inked_rows s h).used within

    taken_row : (t : Taken) → taken_y s t (at i) ≡ taken_y s t pen
    unfolding columns_passed
    taken_row Own = refl
    taken_row Source = refl
    taken_row Pattern = refl

    taken_number : (t : Taken) → RowsBy s t → Spans back (taken_x s t pen) k 0 (taken_map s t).width
        → pixel_number (taken_map s t) (taken_x s t (at i)) (taken_y s t (at i)) ≡ along back (pixel_number (taken_map s t) (taken_x s t pen) (taken_y s t pen)) i
    taken_number t h spans =
        (λ j. pixel_number (taken_map s t) (taken_there t h spans j) (taken_row t j))
        ∙ number_along back (taken_map s t) (taken_x s t pen) (taken_y s t pen) i k 0 (taken_map s t).width less spans

    module _ (blends : Blends) (inks : InkBlends s.brush blends) (memory : List ℕ) where
      -- the pixel that is taken there
      abbrev S : Taken → ℕ
      S t = pixel_no (taken_map s t).format (taken_map s t).base (along back (pixel_number (taken_map s t) (taken_x s t pen) (taken_y s t pen)) i) memory

      taken_pixel : (t : Taken) → RowsBy s t → Spans back (taken_x s t pen) k 0 (taken_map s t).width
          → pixel_at memory (taken_map s t) (taken_x s t (at i)) (taken_y s t (at i)) ≡ S t
      unfolding pixel_at byte_at place_of shift_of start_of
      taken_pixel t h spans = ap (λ (n : ℕ). pixel_no (taken_map s t).format (taken_map s t).base n memory) (taken_number t h spans)

      -- each is one pixel of a lane
      made : (t : Taken) → RowsBy s t → Spans back (taken_x s t pen) k 0 (taken_map s t).width
          → let n = pixel_number map (column_at s (at i)) (row_at pen) in
          drawn s memory (at i) ≡ with_pixel_no map.format map.base n (row_op s blends t (S t) (pixel_no map.format map.base n memory)) memory
      unfolding is_nulled nulled_by is_first is_last on_boundary is_move columns_passed source_pixel
      made t h spans = by_taken t h spans
        where
          d : drawing_on i pen.drawing ≡ Block false (stretch.column + i) stretch.row
          d = ap (drawing_on i) stretch.drawing

          draws : is_move s.travel (drawing_on i pen.drawing) ≡ false
          draws = ap (is_move s.travel) d

          shown : nulled_by s pen.e (drawing_on i pen.drawing) ≡ false
          shown = ap (nulled_by s pen.e) d ∙ none_left (named_mode s.brush.flow.mode)

          on : on_map s.brush (at i) ≡ true
          on = on_at s pen k row.edge row.across stretch.on stretch.inside columns i less

          in' : in_mask s.brush (at i) ≡ true
          in' = inside_at_lem s pen k row.edge row.across stretch.on stretch.inside columns i less

          by_taken : (t : Taken) → RowsBy s t → Spans back (taken_x s t pen) k 0 (taken_map s t).width
              → let n = pixel_number map (column_at s (at i)) (row_at pen) in
              drawn s memory (at i) ≡ with_pixel_no map.format map.base n (row_op s blends t (S t) (pixel_no map.format map.base n memory)) memory
          by_taken Own h spans =
              drawn_plain s blends inks (at i) memory draws shown on in' (plain_rows s h.0) (S Own) (λ takes. absurd (false≢true (sym h.1 ∙ takes)))
          by_taken Source h spans =
              drawn_plain s blends inks (at i) memory draws shown on in' (plain_rows s h.0) (S Source) (λ takes. sym (taken_pixel Source h spans))
          by_taken Pattern h spans =
              drawn_inked s blends inks (at i) memory draws shown on in' (inked_rows s h)
              ∙ (λ j. let n = pixel_number map (column_at s (at i)) (row_at pen) in
              with_pixel_no map.format map.base n (row_op s blends Pattern (taken_pixel Pattern h spans j) (pixel_no map.format map.base n memory)) memory)

      -- so it is the lane's
      pub position_swept : let l = lane_at s p pen in
          drawn s memory (at i)
          ≡ with_pixel_no l.format l.destination (along l.back l.to i)
          (row_op s blends taken (pixel_no p.map.format l.source (along l.back l.from i) memory)
          (pixel_no l.format l.destination (along l.back l.to i) memory)) memory
      position_swept =
          made taken by spans
          ∙ (λ j. with_pixel_no map.format map.base (number_at_lem j) (row_op s blends taken (S taken) (pixel_no map.format map.base (number_at_lem j) memory)) memory)
          ∙ (λ j.
          with_pixel_no map.format map.base (along (sym planned.back j) (pixel_number map (column_at s pen) (row_at pen)) i)
          (row_op s blends taken
          (pixel_no (sym planned.map j).format (sym planned.map j).base (along (sym planned.back j) (pixel_number (sym planned.map j) (taken_x s taken pen) (taken_y s taken pen)) i) memory)
          (pixel_no map.format map.base (along (sym planned.back j) (pixel_number map (column_at s pen) (row_at pen)) i) memory)) memory)

  -- ---- the stretch

  module _ (blends : Blends) (inks : InkBlends s.brush blends) where
    pub row_swept : (n : ℕ) → n ≤ k → (memory : List ℕ)
        → row_drawn s n memory pen ≡ swept_from p.map.format (row_op s blends taken) (lane_at s p pen) n memory
    unfolding row_drawn swept_from
    row_swept zero few memory = refl
    row_swept (suc n) few memory =
        let before = row_swept n (omega arith) memory in
        ap (λ (m : List ℕ). drawn s m (at n)) before
        ∙ position_swept n (omega arith) blends inks (swept_from p.map.format (row_op s blends taken) (lane_at s p pen) n memory)

    -- by the plan's blends of bytes
    pub row_makes : RowBlended s blends p → Makes taken map.format (row_op s blends taken) p.front p.rear
    row_makes alike = makes taken by
      where
        byte : (w blend : Blend ℕ) → BlendOf s blend w → bits_of map.format ≡ 8 → (d : ℕ) → d < 256
            → blended (bits_of map.format) blend 0 d % 256 ≡ wholly w 0 d % 256
        byte w blend h eight = whole_pixel (bits_of map.format) w blend eight h

        makes : (t : Taken) → RowsBy s t → Makes t map.format (row_op s blends t) p.front p.rear
        makes Own h = alike.0
        makes Source h = alike.0
        makes Pattern h = λ d small. let eight = (inked_rows s h).bytes in (byte p.rear blends.background alike.1 eight d small, byte p.front blends.foreground alike.0 eight d small)

    -- so it is done at once
    pub stretch_run : (n : ℕ) → k ≡ suc n → (memory : List ℕ)
        → after s k (begun pen memory)
        ≡ record {
          pen = moved s.travel (columns_passed s.travel n (Block false (stretch.column + n) stretch.row) pen);
          memory = swept_from p.map.format (row_op s blends taken) (lane_at s p pen) k memory;
          done = k;
        }
    stretch_run n all memory =
        let c = stretch.column in
        let r = stretch.row in
        let on = stretch_on (omega arith) in
        let few : n ≤ s.travel.figure.dimensions.x - c = omega (arith, stretch.ends) in
        ap (λ (i : ℕ). after s i (begun pen memory)) all
        ∙ stretch_after s pen c r stretch.drawing row.fills on safe.pointers memory n few
        ∙ (λ j. record {
          pen = moved s.travel (columns_passed s.travel n (ap (drawing_on n) stretch.drawing j) pen);
          memory = (ap (λ (i : ℕ). row_drawn s i memory pen) (sym all) ∙ row_swept k (omega arith) memory) j;
          done = sym all j;
        })
