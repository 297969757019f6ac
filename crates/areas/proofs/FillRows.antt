-- A row of a fill, position by position: the bit is odd with the 1s passed, as each position turns it at a 1 and none writes what the pattern reads.
use mathlib.Core.Path.{◌≡◌, refl, sym, ap, ap₂, ◌∙◌}
use mathlib.Core.Bool.{Bool, true, false, not}
use Prim.Native.Nat.{ℕ, zero, suc, ◌+◌, ◌≤◌, ◌<◌}
use native.Mathlib.Numerals.{add-one}
use native.Mathlib.Omega.{arith}
use lib.Dec.{eqb}
use Rattle.numbers.specs.Choose.{choose}
use Rattle.numbers.specs.Circles.{forth}
use Rattle.numbers.proofs.Choices.{choose_true}
use Rattle.pixels.specs.declared.Map.{Map}
use Rattle.pixels.specs.Maps.{Apart}
use Rattle.pixels.specs.Pixels.{pixel_at}
use Rattle.parts.specs.declared.shapes.Point.{Point}
use Rattle.parts.specs.declared.drawing.Drawing.{Drawing}
use Rattle.parts.specs.declared.drawing.Drawing.TheVariants.{Block}
use Rattle.parts.specs.Drawings.{unfinished, inside_of, with_inside}
use Rattle.rules.specs.Maps.{is_inside}
use Rattle.rules.proofs.PointerLaws.{inside_x, inside_y}
use Rattle.moves.specs.declared.Turn.TheVariants.{Forth, Back}
use Rattle.places.specs.declared.Setup.{Setup}
use Rattle.moves.specs.declared.Pen.{Pen}
use Rattle.moves.specs.Turns.{opposite, turned_by, point_stepped}
use Rattle.moves.specs.Moves.{pen_stepped, pen_with, column_passed, row_point, row_passed}
use Rattle.moves.proofs.BlockLaws.{to_column, to_row}
use Rattle.moves.proofs.TurnLaws.{forth_add, forth_lt, turned_none, turned_return}
use Rattle.position.specs.Drawn.{is_one, inside_at, crossed, is_foreground}
use Rattle.runs.specs.Runs.{Run, positioned, after}
use Rattle.runs.proofs.AfterLaws.{stepped_on}
use Rattle.runs.proofs.RunLaws.{pixels_after}
use Rattle.areas.specs.Fills.{is_odd, ones_from}
use Rattle.areas.proofs.Parities.{odd_turned}

-- the pattern's map
abbrev pub ground : Setup → Map
ground s = s.travel.pattern.map

-- a fill whose pattern map shares no byte with its destination map
pub record Fills (s : Setup) : Type 0 where
  pub fills : s.brush.flow.fills ≡ true
  pub pattern : s.travel.pattern.used ≡ true
  pub right : s.travel.course.x ≡ Forth
  pub apart : Apart (ground s) s.brush.destination

-- ---- one position

module _ (s : Setup) (f : Fills s) where
  -- the bit is turned at a 1
  inside_here : (t : Run) (column row : ℕ) (before : Bool) → t.pen.drawing ≡ Block before column row
      → inside_at s t.memory t.pen
      ≡ choose (not (eqb (pixel_at t.memory (ground s) t.pen.pointers.pattern.x t.pen.pointers.pattern.y) 0)) (not before) before
  unfolding inside_at is_one inside_of
  inside_here t column row before e = rw (e, f.fills)

  crossed_here : (t : Run) (column row : ℕ) (before inside : Bool) → t.pen.drawing ≡ Block before column row
      → inside_at s t.memory t.pen ≡ inside
      → (crossed s t.memory t.pen).drawing ≡ Block inside column row
  unfolding crossed pen_with with_inside
  crossed_here t column row before inside e turned = ap₂ with_inside turned e

  foreground_here : (t : Run) → is_foreground s t.memory t.pen ≡ inside_at s t.memory t.pen
  unfolding is_foreground
  foreground_here t = choose_true _ _ f.pattern ∙ choose_true _ _ f.fills

  -- the pixels of the pattern stay
  pub pattern_after : (n : ℕ) (t : Run) (x y : ℕ) → x ≤ (ground s).width → y ≤ (ground s).height
      → pixel_at (after s n t).memory (ground s) x y ≡ pixel_at t.memory (ground s) x y
  pattern_after = pixels_after s (ground s) f.apart

  -- ---- the pattern pointer at the next column, and past the row's end

  column_pattern : (d : Drawing) (pen : Pen)
      → (column_passed s.travel d pen).pointers.pattern
      ≡ record { x = forth ((ground s).width + 1) 1 pen.pointers.pattern.x; y = pen.pointers.pattern.y }
  unfolding column_passed pen_stepped point_stepped turned_by
  column_pattern d pen =
      choose_true _ _ f.pattern ∙ (λ i. record { x = turned_by (f.right i) 1 (ground s).width pen.pointers.pattern.x; y = pen.pointers.pattern.y })

  row_pattern : (d : Drawing) (pen : Pen)
      → (row_passed s.travel d pen).pointers.pattern
      ≡ record {
        x = turned_by Back s.travel.figure.dimensions.x (ground s).width pen.pointers.pattern.x;
        y = turned_by s.travel.course.y 1 (ground s).height pen.pointers.pattern.y;
      }
  unfolding row_passed row_point
  row_pattern d pen =
      let y : ℕ = turned_by s.travel.course.y 1 (ground s).height pen.pointers.pattern.y in
      choose_true _ _ f.pattern
      ∙ (λ i. record { x = turned_by (opposite (f.right i)) s.travel.figure.dimensions.x (ground s).width pen.pointers.pattern.x; y = y })

-- ---- the columns of a row

-- the 1s that a row passes in its first n positions
abbrev ones : Setup → Run → ℕ → ℕ
ones s t n = ones_from t.memory (ground s) t.pen.pointers.pattern n

-- a run at column n of the row that began with the run t
record AtColumn (s : Setup) (t : Run) (row n : ℕ) (u : Run) : Type 0 where
  drawing : u.pen.drawing ≡ Block (is_odd (ones s t n)) n row
  x : u.pen.pointers.pattern.x ≡ forth ((ground s).width + 1) n t.pen.pointers.pattern.x
  y : u.pen.pointers.pattern.y ≡ t.pen.pointers.pattern.y

module _ (s : Setup) (f : Fills s) (t : Run) (row : ℕ) (start : t.pen.drawing ≡ Block false 0 row)
    (inside : is_inside (ground s) t.pen.pointers.pattern ≡ true) where
  -- the pen at column n, with the bit as it is after the pixel there
  abbrev here : ℕ → Pen
  here n = crossed s (after s n t).memory (after s n t).pen

  -- the pixel read at column n
  pixel_at_lem : (n : ℕ) → AtColumn s t row n (after s n t)
      → pixel_at (after s n t).memory (ground s) (after s n t).pen.pointers.pattern.x (after s n t).pen.pointers.pattern.y
      ≡ pixel_at t.memory (ground s) (forth ((ground s).width + 1) n t.pen.pointers.pattern.x) t.pen.pointers.pattern.y
  pixel_at_lem n at =
      ap₂ (pixel_at (after s n t).memory (ground s)) at.x at.y
      ∙ pattern_after s f n t _ _ (omega (arith, forth_lt ((ground s).width + 1) n t.pen.pointers.pattern.x (omega arith)))
      (inside_y (ground s) t.pen.pointers.pattern inside)

  -- there the bit is turned as the 1s passed and the one there say
  turned_at : (n : ℕ) → AtColumn s t row n (after s n t) → inside_at s (after s n t).memory (after s n t).pen ≡ is_odd (ones s t (suc n))
  unfolding ones_from
  turned_at n at =
      let passed : ℕ = ones s t n in
      let there : ℕ = pixel_at t.memory (ground s) (forth ((ground s).width + 1) n t.pen.pointers.pattern.x) t.pen.pointers.pattern.y in
      inside_here s f (after s n t) n row (is_odd passed) at.drawing
      ∙ ap (λ (pixel : ℕ). choose (not (eqb pixel 0)) (not (is_odd passed)) (is_odd passed)) (pixel_at_lem n at)
      ∙ odd_turned passed there

  crossed_at : (n : ℕ) → AtColumn s t row n (after s n t) → (here n).drawing ≡ Block (is_odd (ones s t (suc n))) n row
  crossed_at n at = crossed_here s f (after s n t) n row (is_odd (ones s t n)) _ at.drawing (turned_at n at)

  positioned_at : (n : ℕ) → AtColumn s t row n (after s n t) → after s (suc n) t ≡ positioned s (after s n t)
  unfolding after
  positioned_at n at = stepped_on s (after s n t) (ap unfinished at.drawing)

  next_column : (n : ℕ) → n < s.travel.figure.dimensions.x → AtColumn s t row n (after s n t) → AtColumn s t row (suc n) (positioned s (after s n t))
  unfolding positioned crossed pen_with column_passed pen_stepped
  next_column n less at =
      let to = to_column s.travel (here n) n row (is_odd (ones s t (suc n))) (crossed_at n at) less in
      let pattern = ap (λ (p : Pen). p.pointers.pattern) to ∙ column_pattern s f (Block (is_odd (ones s t (suc n))) (n + 1) row) (here n) in
      record {
        drawing = ap (λ (p : Pen). p.drawing) to ∙ ap (λ (k : ℕ). Block (is_odd (ones s t (suc n))) k row) (add-one n);
        x =
            ap (λ (p : Point ℕ). p.x) pattern
            ∙ ap (forth ((ground s).width + 1) 1) at.x
            ∙ sym (forth_add ((ground s).width + 1) 1 n t.pen.pointers.pattern.x)
            ∙ ap (λ (k : ℕ). forth ((ground s).width + 1) k t.pen.pointers.pattern.x) (omega arith);
        y = ap (λ (p : Point ℕ). p.y) pattern ∙ at.y;
      }

  at_column : (n : ℕ) → n ≤ s.travel.figure.dimensions.x → AtColumn s t row n (after s n t)
  unfolding after is_odd ones_from turned_by
  at_column zero h =
      record {
        drawing = start;
        x = sym (turned_none (ground s).width Forth t.pen.pointers.pattern.x (inside_x (ground s) t.pen.pointers.pattern inside));
        y = refl;
      }
  at_column (suc n) h = let at = at_column n (omega arith) in rw (positioned_at n at) (next_column n (omega arith) at)

  -- 003, Area Fill: in a row the foreground is picked where the 1s passed, this one with them, are odd
  pub foreground_at : (n : ℕ) → n ≤ s.travel.figure.dimensions.x
      → is_foreground s (after s n t).memory (after s n t).pen ≡ is_odd (ones_from t.memory (ground s) t.pen.pointers.pattern (suc n))
  foreground_at n h = foreground_here s f (after s n t) ∙ turned_at n (at_column n h)

  -- past its end the next row starts outside, at the pattern's first column and a row on
  pub row_after_lem : row < s.travel.figure.dimensions.y
      → ((after s (suc s.travel.figure.dimensions.x) t).pen.drawing ≡ Block false 0 (row + 1))
      × ((after s (suc s.travel.figure.dimensions.x) t).pen.pointers.pattern
      ≡ record { x = t.pen.pointers.pattern.x; y = turned_by s.travel.course.y 1 (ground s).height t.pen.pointers.pattern.y })
  unfolding positioned crossed pen_with row_passed turned_by
  row_after_lem another =
      let last : ℕ = s.travel.figure.dimensions.x in
      let at = at_column last (omega arith) in
      let to = to_row s.travel (here last) last row (is_odd (ones s t (suc last))) (crossed_at last at) (omega arith) another in
      let pattern = ap (λ (p : Pen). p.pointers.pattern) to ∙ row_pattern s f (Block false 0 (row + 1)) (here last) in
      let returned : turned_by Back last (ground s).width (after s last t).pen.pointers.pattern.x ≡ t.pen.pointers.pattern.x =
      ap (turned_by Back last (ground s).width) at.x
      ∙ turned_return (ground s).width Forth last t.pen.pointers.pattern.x (inside_x (ground s) t.pen.pointers.pattern inside) in
      rw (positioned_at last at) (
        ap (λ (p : Pen). p.drawing) to,
        pattern ∙ (λ i. record { x = returned i; y = turned_by s.travel.course.y 1 (ground s).height (at.y i) }),
      )
