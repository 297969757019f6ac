-- A stroke that is inside: each position of it is painted, and its pixels are those of a trail, by induction on the steps.
use Rattle.std.proofs.Common.{◌≡◌, ℕ, zero, suc, ◌+◌, ◌/◌, ◌%◌, ◌^◌, ◌<◌, ◌≤◌, Bool, true, false, ◌&&◌, eqb, ltb, List, ℤ, pos, ◌+ℤ◌, sym, refl, ap, ◌∙◌, subst, le_trans, lt_of_le_of_lt, add-zero, add-one, arith, le-ltb, lt-ltb, ne_eqb, Some}
use mathlib.Core.Bool.{false≢true}
use native.Mathlib.Nat.{min-le_left, min-le_right}
use Rattle.numbers.specs.Choose.{choose}
use Rattle.numbers.specs.Circles.{circle}
use Rattle.numbers.proofs.Choices.{choose_true, choose_false, choose_part}
use Rattle.pixels.specs.declared.Map.{Map}
use Rattle.pixels.specs.Maps.{bits_of, start_of, place_of}
use Rattle.pixels.specs.Inner.{place_at}
use Rattle.mixes.specs.Inner.{blended}
use Rattle.rows.specs.declared.Trail.{Trail}
use Rattle.rows.specs.Inner.{along, pixel_no, with_pixel_no, error_at, number_at, turns_at, traced}
use Rattle.parts.specs.declared.drawing.Drawing.{Drawing}
use Rattle.parts.specs.declared.drawing.Drawing.TheVariants.{Nothing, Line, Codes, Block}
use Rattle.parts.specs.Drawings.{unfinished, with_inside}
use Rattle.parts.specs.Reduced.{term_reduced}
use Rattle.rules.specs.Codes.{only_moves, steps_of, code_at}
use Rattle.moves.specs.declared.Turn.{Turn}
use Rattle.parts.specs.declared.shapes.Point.{Point}
use Rattle.moves.specs.declared.Pen.{Pen}
use Rattle.moves.proofs.ColumnLaws.{pos_on}
use Rattle.moves.specs.Turns.{circled_by, point_stepped, spot_stepped}
use Rattle.moves.specs.Steps.{line_step, code_step}
use Rattle.moves.specs.Moves.{right, source_by, destination_by, pen_stepped, pen_with, pen_gone, line_error, rises, line_moved, codes_moved, moved_by, moved}
use Rattle.places.specs.declared.Setup.{Setup}
use Rattle.places.specs.Places.{is_move, nulled_by, is_nulled}
use Rattle.position.specs.declared.Blends.{Blends}
use Rattle.position.specs.Drawn.{inside_at, crossed, drawn}
use Rattle.position.specs.Inner.{InkBlends, Safe}
use Rattle.position.proofs.Safety.{held_within}
use Rattle.runs.specs.declared.strokes.Stroke.{Stroke}
use Rattle.runs.specs.Runs.{Run, begun, positioned, stepped, after}
use Rattle.runs.specs.Inner.{left_edge, right_edge, top_edge, bottom_edge, goes_across, goes_back, agrees, is_stroke}
use Rattle.runs.specs.Inner.{remainder, pixel_number, Sized, column_at, row_at, line_drawn, code_drawn, stroke_of, stride_of, trail_from, error_in, drawing_at, drawing_ended, error_of, pen_at, Inside}
use Rattle.runs.proofs.AfterLaws.{stepped_on}
use Rattle.runs.proofs.StretchLaws.{and_no}
use Rattle.runs.proofs.PlaceLaws.{spans_at, on_column, on_row}
use Rattle.runs.proofs.EdgeLaws.{column_in_lem, row_in_lem, width_in, height_in, on_in, inside_in}
use Rattle.runs.proofs.PlainLaws.{drawn_plain}
use Rattle.rows.proofs.LaneLaws.{along_none}
use Rattle.runs.proofs.RowLaws.{number_lt}
use Rattle.runs.proofs.StrokedLaws.{Stroked, stroked, same_choice, of_line, of_code, stroke_agrees}
use Rattle.runs.proofs.StepLaws.{Stepped, moves, moves_lt, moves_none, axis_step, circled_step, number_step, number_column, number_row, below_nought, error_step, raised_back}

-- ---- a stroke

module _ (s : Setup) (pen : Pen) (k : Stroke) (x y across down : ℕ) (h : Inside s pen k x y across down) (size : ℕ) (safe : Safe s size pen)
    (sized : Sized s.brush.destination) (count turns : ℕ) (few : count ≤ k.steps)
    (across-all : goes_across k.straight.x ≡ true → count < across) (down-all : goes_across k.straight.y ≡ true → count < down)
    (across-some : goes_across k.straight.x ≡ false → turns < across) (down-some : goes_across k.straight.y ≡ false → turns < down) where
  abbrev map : Map
  map = s.brush.destination

  abbrev has : Stroked s
  has = stroked s h.has

  abbrev t : Trail
  t = trail_from map k x y

  -- the steps along each axis, and where they lead
  abbrev over : ℕ → ℕ
  over i = moves k.straight.x k.turned.x i (turns_at t i)

  abbrev under : ℕ → ℕ
  under i = moves k.straight.y k.turned.y i (turns_at t i)

  abbrev col : ℕ → ℕ
  col i = along (goes_back k.turned.x) x (over i)

  abbrev row : ℕ → ℕ
  row i = along (goes_back k.turned.y) y (under i)

  abbrev below : ℕ → Bool
  below i = ltb (error_at t i) 8192

  abbrev step : ℕ → Point Turn
  step i = choose (below i) k.straight k.turned

  -- the pen after i steps of a drawing
  abbrev on : Drawing → ℕ → Pen
  on d i = pen_at (pos (col i)) (pos (row i)) (error_of d (error_at t i) pen.e) (drawing_at i d) pen

  -- each step is a part of the turned one
  both_agree : (agrees k.straight.x k.turned.x ≡ true) × (agrees k.straight.y k.turned.y ≡ true)
  both_agree = stroke_agrees s has pen.e pen.drawing k h.stroke

  module _ (i : ℕ) (less : i ≤ count) (turn : turns_at t i ≤ turns) where
    over_lt : over i < across
    over_lt = moves_lt k.straight.x k.turned.x i (turns_at t i) count turns across less turn across-all across-some

    under_lt : under i < down
    under_lt = moves_lt k.straight.y k.turned.y i (turns_at t i) count turns down less turn down-all down-some

    columns : (left_edge s.brush ≤ col i) × (col i ≤ right_edge s.brush)
    columns = spans_at (goes_back k.turned.x) x across (left_edge s.brush) (right_edge s.brush) (over i) over_lt h.columns

    rows : (top_edge s.brush ≤ row i) × (row i ≤ bottom_edge s.brush)
    rows = spans_at (goes_back k.turned.y) y down (top_edge s.brush) (bottom_edge s.brush) (under i) under_lt h.rows

    pub col_small : col i ≤ 6143
    col_small = le_trans columns.1 (le_trans (min-le_left _ _) (min-le_right _ _))

    pub row_small : row i ≤ 6143
    row_small = le_trans rows.1 (le_trans (min-le_left _ _) (min-le_right _ _))

    pub in_row : col i ≤ map.width
    in_row = width_in s.brush (on pen.drawing i) (col i) (row i) has.edge refl refl columns rows

    in_map : row i ≤ map.height
    in_map = height_in s.brush (on pen.drawing i) (col i) (row i) has.edge refl refl columns rows

    number_fits : pixel_number map (col i) (row i) < 2 ^ 32
    number_fits = number_lt map (col i) (row i) sized.0 (lt_of_le_of_lt in_map sized.1) in_row

    pixel_held : place_at map.format map.base (pixel_number map (col i) (row i)) < size
    unfolding place_of start_of
    pixel_held = held_within size map (col i) (row i) in_row in_map safe.destination

  -- ---- one step

  module _ (i : ℕ) (less : suc i ≤ count) (turn : turns_at t (suc i) ≤ turns) where
    earlier : turns_at t i ≤ turns
    unfolding turns_at
    earlier = le_trans (omega arith) turn

    stepped_x : Stepped (step i).x (col i) (col (suc i))
    unfolding turns_at
    stepped_x =
        subst (λ (w : Turn). Stepped w (col i) (col (suc i))) (choose_part (λ (g : Point Turn). g.x) (below i) k.straight k.turned)
        (axis_step k.straight.x k.turned.x (below i) x i (turns_at t i) across (left_edge s.brush) (right_edge s.brush)
        both_agree.0 h.columns (over_lt (suc i) less turn))

    stepped_y : Stepped (step i).y (row i) (row (suc i))
    unfolding turns_at
    stepped_y =
        subst (λ (w : Turn). Stepped w (row i) (row (suc i))) (choose_part (λ (g : Point Turn). g.y) (below i) k.straight k.turned)
        (axis_step k.straight.y k.turned.y (below i) y i (turns_at t i) down (top_edge s.brush) (bottom_edge s.brush)
        both_agree.1 h.rows (under_lt (suc i) less turn))

    -- the pen goes there
    gone : (e e' : ℤ) (d d' : Drawing) → pen_gone s.travel (step i) e' d' (pen_at (pos (col i)) (pos (row i)) e d pen) ≡ pen_at (pos (col (suc i))) (pos (row (suc i))) e' d' pen
    unfolding pen_gone pen_stepped source_by destination_by spot_stepped
    gone e e' d d' =
        let by : destination_by s.travel.course (step i) ≡ step i = choose_false right (step i) has.write in
        let from = source_by s.travel.course (step i) in
        let source = choose_false (point_stepped s.travel.source.map from pen.pointers.source) pen.pointers.source has.alone in
        let pattern = choose_false (point_stepped s.travel.pattern.map from pen.pointers.pattern) pen.pointers.pattern has.plain.unused in
        λ j.
        record {
          pointers = record {
            source = source j;
            pattern = pattern j;
            destination = record {
              x = (ap (λ (g : Point Turn). circled_by g.x 1 (pos (col i))) by
                  ∙ circled_step (step i).x (col i) (col (suc i)) stepped_x (col_small i (le_trans (omega arith) less) earlier) (col_small (suc i) less turn)) j;
              y = (ap (λ (g : Point Turn). circled_by g.y 1 (pos (row i))) by
                  ∙ circled_step (step i).y (row i) (row (suc i)) stepped_y (row_small i (le_trans (omega arith) less) earlier) (row_small (suc i) less turn)) j;
            };
          };
          e = e';
          drawing = d';
        }

    number_next : number_at t i ≡ pixel_number map (col i) (row i) → number_at t (suc i) ≡ pixel_number map (col (suc i)) (row (suc i))
    unfolding number_at
    number_next before =
        (λ j. (before j + choose_part (stride_of map.width) (below i) k.straight k.turned j) % 2 ^ 32)
        ∙ number_step map (step i) (col i) (row i) (col (suc i)) (row (suc i)) stepped_x stepped_y sized.0 (number_fits (suc i) less turn)

  -- ---- where a stroke begins

  first_col : col 0 ≡ x
  unfolding turns_at
  first_col = ap (along (goes_back k.turned.x) x) (moves_none k.straight.x k.turned.x) ∙ along_none (goes_back k.turned.x) x

  first_row : row 0 ≡ y
  unfolding turns_at
  first_row = ap (along (goes_back k.turned.y) y) (moves_none k.straight.y k.turned.y) ∙ along_none (goes_back k.turned.y) y

  -- the number of each pixel
  pub number_at_lem : (i : ℕ) → i ≤ count → turns_at t i ≤ turns → number_at t i ≡ pixel_number map (col i) (row i)
  unfolding number_at
  number_at_lem zero less turn = λ j. pixel_number map (sym first_col j) (sym first_row j)
  number_at_lem (suc i) less turn = number_next i less turn (number_at_lem i (le_trans (omega arith) less) (earlier i less turn))

  pub place_held : (i : ℕ) → i ≤ count → turns_at t i ≤ turns → place_at map.format map.base (number_at t i) < size
  place_held i less turn = rw (number_at_lem i less turn) (pixel_held i less turn)

  -- ---- the moves of a line or code

  -- a drawing whose stroke this is
  abbrev Strokes : Drawing → Type 0
  Strokes d = stroke_of s.travel pen.e d ≡ Some k

  lined : (rose : Bool) (done : ℕ) → Strokes (Line rose done) → (term_reduced pen.e ≡ true) × (k ≡ line_drawn s.travel pen.e done)
  lined rose done e = of_line s.travel pen.e done k e

  coded : (count code done : ℕ) → Strokes (Codes count code done)
      → (only_moves (code_at s.travel.figure.steps count code) ≡ false) × (k ≡ code_drawn (code_at s.travel.figure.steps count code) done)
  coded count code done e = of_code (code_at s.travel.figure.steps count code) done k e

  -- nothing and a block have no stroke
  idle : (d : Drawing) → Strokes d → is_stroke d ≡ false → ⊥
  idle (Nothing stopped) e none = cc
  idle (Line rose done) e none = false≢true (sym none)
  idle (Codes count code done) e none = false≢true (sym none)
  idle (Block inside column row) e none = cc

  -- where it begins
  first : (d : Drawing) → Strokes d → (error_of d (error_at t 0) pen.e ≡ pen.e) × (drawing_at 0 d ≡ d)
  unfolding error_at
  first (Nothing stopped) e = absurd (idle (Nothing stopped) e refl)
  first (Line rose done) e =
      let line = lined rose done e in
      (ap (λ (g : Stroke). error_in g.e) line.1 ∙ raised_back pen.e line.0, λ j. Line (and_true rose j) (add-zero done j))
    where
      and_true : (a : Bool) → (a && true) ≡ a
      and_true true = refl
      and_true false = refl
  first (Codes count code done) e = (refl, λ j. Codes count code (add-zero done j))
  first (Block inside column row) e = absurd (idle (Block inside column row) e refl)

  module _ (i : ℕ) (less : suc i ≤ count) (turn : turns_at t (suc i) ≤ turns) where
    -- a line's step and error term
    line_step_lem : line_step s.travel.course (error_in (error_at t i)) ≡ choose (below i) s.travel.course.straight (record { x = s.travel.course.x; y = s.travel.course.y })
    unfolding line_step
    line_step_lem = ap (λ (b : Bool). choose b s.travel.course.straight (record { x = s.travel.course.x; y = s.travel.course.y })) (below_nought (error_at t i))

    line_error_lem : (rose : Bool) (done : ℕ) → Strokes (Line rose done) → line_error s.travel (error_in (error_at t i)) ≡ error_in (error_at t (suc i))
    unfolding line_error error_at
    line_error_lem rose done e =
        let w = error_at t i in
        let k1 = s.travel.k1 in
        let k2 = s.travel.k2 in
        let line = (lined rose done e).1 in
        ap (λ (b : Bool). circle 8192 16384 (error_in w +ℤ choose b k1 k2)) (below_nought w)
        ∙ error_step w (choose (below i) k1 k2)
        ∙ ap (λ (n : ℕ). error_in ((w + n) % 16384))
        (sym (choose_part remainder (below i) k1 k2) ∙ (λ j. choose (below i) (sym (ap (λ (g : Stroke). g.k1) line) j) (sym (ap (λ (g : Stroke). g.k2) line) j)))

    line_next : (rose : Bool) (done : ℕ) → Strokes (Line rose done) → ltb (done + i) s.travel.figure.dimensions.x ≡ true
        → line_moved s.travel (done + i) (on (Line rose done) i) ≡ on (Line rose done) (suc i)
    unfolding line_moved rises
    line_next rose done e reach =
        let here = on (Line rose done) i in
        let straight = sym (ap (λ (g : Stroke). g.straight) (lined rose done e).1) in
        let turned = sym (ap (λ (g : Stroke). g.turned) (lined rose done e).1) in
        let by : line_step s.travel.course (error_in (error_at t i)) ≡ step i = line_step_lem ∙ (λ j. choose (below i) (straight j) (turned j)) in
        let further : done + i + 1 ≡ done + suc i = omega arith in
        let unmarked = and_no s.travel.course.bounds _ has.unmarked ∙ sym (and_false rose (eqb (suc i) 0) (ne_eqb (suc i) 0 (λ e. omega arith))) in
        choose_true _ _ reach
        ∙ (λ j. pen_gone s.travel (by j) (line_error_lem rose done e j) (Line (unmarked j) (further j)) here)
        ∙ gone i less turn (error_in (error_at t i)) (error_in (error_at t (suc i))) (Line (rose && eqb i 0) (done + i)) (Line (rose && eqb (suc i) 0) (done + suc i))
      where
        and_false : (a b : Bool) → b ≡ false → (a && b) ≡ false
        and_false true b e = e
        and_false false b e = refl

    code_next : (count code done : ℕ) → Strokes (Codes count code done) → ltb (done + i) (steps_of (code_at s.travel.figure.steps count code)) ≡ true
        → codes_moved s.travel count code (done + i) (on (Codes count code done) i) ≡ on (Codes count code done) (suc i)
    unfolding codes_moved
    code_next count code done e reach =
        let here = on (Codes count code done) i in
        let straight = sym (ap (λ (g : Stroke). g.straight) (coded count code done e).1) in
        let turned = sym (ap (λ (g : Stroke). g.turned) (coded count code done e).1) in
        let one = code_step (code_at s.travel.figure.steps count code) in
        let by : one ≡ step i = sym (same_choice (below i) one) ∙ (λ j. choose (below i) (straight j) (turned j)) in
        let further : done + i + 1 ≡ done + suc i = omega arith in
        choose_true _ _ reach
        ∙ (λ j. pen_gone s.travel (by j) pen.e (Codes count code (further j)) here)
        ∙ gone i less turn pen.e pen.e (Codes count code (done + i)) (Codes count code (done + suc i))

    -- a step of it
    next : (d : Drawing) → Strokes d → moved s.travel (on d i) ≡ on d (suc i)
    unfolding moved moved_by
    next (Nothing stopped) e = absurd (idle (Nothing stopped) e refl)
    next (Line rose done) e =
        let reach : done + i < s.travel.figure.dimensions.x = omega (arith, less, few, ap (λ (g : Stroke). g.steps) (lined rose done e).1) in
        line_next rose done e (lt-ltb (done + i) s.travel.figure.dimensions.x reach)
    next (Codes n code done) e =
        let last = steps_of (code_at s.travel.figure.steps n code) in
        let reach : done + i < last = omega (arith, less, few, ap (λ (g : Stroke). g.steps) (coded n code done e).1) in
        code_next n code done e (lt-ltb (done + i) last reach)
    next (Block inside column row) e = absurd (idle (Block inside column row) e refl)

  -- after the last position
  last : (d : Drawing) → Strokes d → moved s.travel (on d k.steps) ≡ pen_at (pos (col k.steps)) (pos (row k.steps)) (error_of d (error_at t k.steps) pen.e) (drawing_ended s.travel d) pen
  unfolding moved moved_by line_moved codes_moved pen_with
  last (Nothing stopped) e = absurd (idle (Nothing stopped) e refl)
  last (Line rose done) e =
      let width = s.travel.figure.dimensions.x in
      choose_false _ _ (le-ltb (done + k.steps) width (omega (arith, ap (λ (g : Stroke). g.steps) (lined rose done e).1)))
  last (Codes n code done) e =
      let steps = steps_of (code_at s.travel.figure.steps n code) in
      choose_false _ _ (le-ltb (done + k.steps) steps (omega (arith, ap (λ (g : Stroke). g.steps) (coded n code done e).1)))
  last (Block inside column row) e = absurd (idle (Block inside column row) e refl)

  -- ---- its positions

  module _ (i : ℕ) (less : i ≤ count) (turn : turns_at t i ≤ turns) (memory : List ℕ) where
    uncrossed : (d : Drawing) → Strokes d → crossed s memory (on d i) ≡ on d i
    unfolding crossed inside_at pen_with with_inside
    uncrossed (Nothing stopped) e = absurd (idle (Nothing stopped) e refl)
    uncrossed (Line rose done) e = refl
    uncrossed (Codes count code done) e = refl
    uncrossed (Block inside column row) e = absurd (idle (Block inside column row) e refl)

    draws : (d : Drawing) → Strokes d → is_move s.travel (drawing_at i d) ≡ false
    unfolding is_move
    draws (Nothing stopped) e = refl
    draws (Line rose done) e = refl
    draws (Codes count code done) e = (coded count code done e).0
    draws (Block inside column row) e = refl

    shown : (d : Drawing) → is_nulled s (on d i) ≡ false
    unfolding is_nulled nulled_by
    shown d = rw has.mode

    -- each is one pixel of the trail
    drawn_on : (d : Drawing) → Strokes d → (blends : Blends) → InkBlends s.brush blends
        → let op = blended (bits_of map.format) blends.foreground in
        drawn s memory (on d i) ≡ with_pixel_no map.format map.base (number_at t i) (op 0 (pixel_no map.format map.base (number_at t i) memory)) memory
    drawn_on d e blends inks =
        let q = on d i in
        let b = s.brush in
        let op = blended (bits_of map.format) blends.foreground in
        let cs = columns i less turn in
        let rs = rows i less turn in
        let column = column_in_lem b q (col i) (row i) has.edge refl refl cs rs in
        let across = row_in_lem b q (col i) (row i) has.edge refl refl cs rs in
        let number : pixel_number map (column_at s q) (row_at q) ≡ number_at t i = (λ j. pixel_number map (column j) (across j)) ∙ sym (number_at_lem i less turn) in
        drawn_plain s blends inks q memory (draws d e) (shown d) (on_in b q (col i) (row i) has.edge refl refl cs rs)
        (inside_in b q (col i) (row i) has.edge refl refl cs rs) has.plain 0 (λ takes. absurd (false≢true (sym has.colour ∙ takes)))
        ∙ (λ j. with_pixel_no map.format map.base (number j) (op 0 (pixel_no map.format map.base (number j) memory)) memory)

  -- ---- and many of them

  module _ (blends : Blends) (inks : InkBlends s.brush blends) (memory : List ℕ) where
    -- what is made of a pixel
    abbrev made : ℕ → ℕ
    made = blended (bits_of map.format) blends.foreground 0

    -- a run that has done the first i positions
    abbrev done : ℕ → Run
    done i = record { pen = on pen.drawing i; memory = traced made t i memory; done = i }

    begins : on pen.drawing 0 ≡ pen
    begins =
        let b = s.brush in
        let place = first pen.drawing h.stroke in
        let column = ap pos (first_col ∙ h.column) ∙ sym (on_column b pen has.edge h.on) in
        let across = ap pos (first_row ∙ h.row) ∙ sym (on_row b pen h.on) in
        λ j. pen_at (column j) (across j) (place.0 j) (place.1 j) pen

    going : (i : ℕ) (d : Drawing) → Strokes d → unfinished (drawing_at i d) ≡ true
    going i (Nothing stopped) e = absurd (idle (Nothing stopped) e refl)
    going i (Line rose done) e = refl
    going i (Codes count code done) e = refl
    going i (Block inside column row) e = refl

    -- one position, and the move from it
    position : (i : ℕ) → i ≤ count → turns_at t i ≤ turns → (q : Pen) → moved s.travel (on pen.drawing i) ≡ q
        → stepped s (done i) ≡ record { pen = q; memory = traced made t (suc i) memory; done = suc i }
    unfolding positioned traced
    position i less turn q move =
        let M = traced made t i memory in
        stepped_on s (done i) (going i pen.drawing h.stroke)
        ∙ (λ j.
        record {
          pen = (ap (moved s.travel) (uncrossed i less turn M pen.drawing h.stroke) ∙ move) j;
          memory = drawn_on i less turn M pen.drawing h.stroke blends inks j;
          done = add-one i j;
        })

    pub stroke_after : (i : ℕ) → i ≤ count → turns_at t i ≤ turns → after s i (begun pen memory) ≡ done i
    unfolding after begun traced
    stroke_after zero less turn = λ j. record { pen = sym begins j; memory = memory; done = 0 }
    stroke_after (suc i) less turn =
        let before = stroke_after i (le_trans (omega arith) less) (earlier i less turn) in
        ap (stepped s) before
        ∙ position i (le_trans (omega arith) less) (earlier i less turn) (on pen.drawing (suc i)) (next i less turn pen.drawing h.stroke)

    -- the last position, where the stroke ends
    pub stroke_end : (i : ℕ) → i ≡ k.steps → i ≤ count → turns_at t i ≤ turns
        → after s (suc i) (begun pen memory)
        ≡ record {
          pen = pen_at (pos (col i)) (pos (row i)) (error_of pen.drawing (error_at t i) pen.e) (drawing_ended s.travel pen.drawing) pen;
          memory = traced made t (suc i) memory;
          done = suc i;
        }
    unfolding after
    stroke_end i all less turn =
        ap (stepped s) (stroke_after i less turn)
        ∙ position i less turn _
        (subst (λ (n : ℕ). moved s.travel (on pen.drawing n)
        ≡ pen_at (pos (col n)) (pos (row n)) (error_of pen.drawing (error_at t n) pen.e) (drawing_ended s.travel pen.drawing) pen) (sym all) (last pen.drawing h.stroke))

    -- the pen's place by the number of its pixel
    pub number_place : (i : ℕ) → i ≤ count → turns_at t i ≤ turns → (e : ℤ) (d : Drawing)
        → pen_at (circle 2048 8192 (pos (number_at t i % (map.width + 1)))) (circle 2048 8192 (pos (number_at t i / (map.width + 1)))) e d pen
        ≡ pen_at (pos (col i)) (pos (row i)) e d pen
    number_place i less turn e d =
        let number = number_at_lem i less turn in
        let column : number_at t i % (map.width + 1) ≡ col i = ap (λ (n : ℕ). n % (map.width + 1)) number ∙ number_column map (col i) (row i) (in_row i less turn) in
        let across : number_at t i / (map.width + 1) ≡ row i = ap (λ (n : ℕ). n / (map.width + 1)) number ∙ number_row map (col i) (row i) (in_row i less turn) in
        λ j.
        pen_at ((ap (λ (n : ℕ). circle 2048 8192 (pos n)) column ∙ pos_on (col i) (col_small i less turn)) j)
        ((ap (λ (n : ℕ). circle 2048 8192 (pos n)) across ∙ pos_on (row i) (row_small i less turn)) j) e d pen

    -- what is done of it, its last position or not
    pub stroke_done : (ends : Bool) (i : ℕ) → i ≤ count → turns_at t i ≤ turns → (ends ≡ true → i ≡ k.steps)
        → let M = traced made t i memory in let n = number_at t i in
        after s (choose ends (i + 1) i) (begun pen memory)
        ≡ record {
          pen =
              pen_at (circle 2048 8192 (pos (n % (map.width + 1)))) (circle 2048 8192 (pos (n / (map.width + 1)))) (error_of pen.drawing (error_at t i) pen.e)
              (choose ends (drawing_ended s.travel pen.drawing) (drawing_at i pen.drawing)) pen;
          memory = choose ends (with_pixel_no map.format map.base n (made (pixel_no map.format map.base n M)) M) M;
          done = choose ends (i + 1) i;
        }
    unfolding traced
    stroke_done true i less turn all =
        let place = sym (number_place i less turn (error_of pen.drawing (error_at t i) pen.e) (drawing_ended s.travel pen.drawing)) in
        ap (λ (n : ℕ). after s n (begun pen memory)) (add-one i) ∙ stroke_end i (all refl) less turn
        ∙ (λ j. record { pen = place j; memory = traced made t (suc i) memory; done = sym (add-one i) j })
    stroke_done false i less turn all =
        let place = sym (number_place i less turn (error_of pen.drawing (error_at t i) pen.e) (drawing_at i pen.drawing)) in
        stroke_after i less turn ∙ (λ j. record { pen = place j; memory = traced made t i memory; done = i })

  pub is_stroke_lem : is_stroke pen.drawing ≡ true
  is_stroke_lem = by pen.drawing h.stroke
    where
      by : (d : Drawing) → Strokes d → is_stroke d ≡ true
      by (Nothing stopped) e = absurd (idle (Nothing stopped) e refl)
      by (Line rose done) e = refl
      by (Codes count code done) e = refl
      by (Block inside column row) e = absurd (idle (Block inside column row) e refl)
