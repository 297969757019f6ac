-- The area boundary mode draws exactly where the outline passes between two rows: a step's turn in Y is seen from the rows before and after it.
use mathlib.Core.Path.{◌≡◌, refl, sym, ap, ap₂, ◌∙◌}
use mathlib.Core.Bool.{Bool, true, false, not, ◌||◌, or-false}
use Prim.Native.Nat.{ℕ, zero, suc, ◌+◌, ◌%◌}
use lib.Dec.{ltb}
use lib.IntN.{ℤ}
use Rattle.numbers.specs.Choose.{choose}
use Rattle.parts.specs.declared.drawing.Drawing.{Drawing}
use Rattle.parts.specs.Drawings.{unfinished}
use Rattle.rules.specs.Codes.{code_at}
use Rattle.moves.specs.declared.Turn.{Turn}
use Rattle.moves.specs.declared.Turn.TheVariants.{Stay}
use Rattle.parts.specs.declared.shapes.Point.{Point}
use Rattle.moves.specs.declared.Travel.{Travel}
use Rattle.moves.specs.declared.Pen.{Pen}
use Rattle.moves.specs.Turns.{circled_by, spot_stepped}
use Rattle.moves.specs.Steps.{line_step, code_step, goes_up}
use Rattle.moves.specs.Moves.{destination_by, pen_stepped, pen_with, pen_gone, line_moved, codes_moved, moved_by, moved}
use Rattle.moves.proofs.CircledLaws.{OnCircle, circled_on}
use Rattle.moves.proofs.Counters.{drawing_moved}
use Rattle.places.specs.declared.Mode.TheVariants.{AreaBoundary}
use Rattle.places.specs.declared.Setup.{Setup}
use Rattle.places.specs.Places.{named_mode, nulled_by, is_nulled}
use Rattle.areas.specs.Crossings.{pen_after, row_after, below, same_place, crosses}
use Rattle.areas.specs.Outlines.{at_start}
use Rattle.areas.proofs.Rows.{goes_down, down_seen, up_seen}
use Rattle.areas.proofs.Reached.{Bounding, turn_of, Reached, none, line, first, next, start_reached, next_reached, boundary_turns}

-- ---- the row after a position

module _ (s : Travel) (write : s.course.read ≡ false) where
  step_row : (t : Bool) (step : Point Turn) (e : ℤ) (d d' : Drawing) (pen : Pen)
      → (choose t (pen_gone s step e d pen) (pen_with d' pen)).pointers.destination.y ≡ circled_by (choose t step.y Stay) 1 pen.pointers.destination.y
  unfolding pen_gone pen_stepped pen_with destination_by spot_stepped circled_by
  step_row true step e d d' pen = rw write
  step_row false step e d d' pen = refl

  -- the turn that leaves a position leads to the next row
  row_moved : (pen : Pen) {turn : Turn} → Reached s turn pen.drawing
      → (moved s pen).pointers.destination.y ≡ circled_by (turn_of s pen.e pen.drawing) 1 pen.pointers.destination.y
  unfolding moved moved_by line_moved codes_moved turn_of circled_by
  row_moved pen r = by r
    where
      by : {turn : Turn} {d : Drawing} → Reached s turn d
          → (moved_by s d pen).pointers.destination.y ≡ circled_by (turn_of s pen.e d) 1 pen.pointers.destination.y
      by none = refl
      by (line {done} steps within) = step_row (ltb done s.figure.dimensions.x) (line_step s.course pen.e) _ _ _ pen
      by (first {count} {code}) = step_row (ltb 0 (code_at s.figure.steps count code % 16)) (code_step (code_at s.figure.steps count code)) _ _ _ pen
      by (next {count} {code} {done} within) =
          step_row (ltb (done + 1) (code_at s.figure.steps count code % 16)) (code_step (code_at s.figure.steps count code)) _ _ _ pen

-- ---- the rows of a drawing

-- the turns that leave position n, and that led to it
pub leaving : Travel → Pen → ℕ → Turn
leaving s pen n = turn_of s (pen_after s n pen).e (pen_after s n pen).drawing

pub leading : Travel → Pen → ℕ → Turn
leading s pen zero = Stay
leading s pen (suc n) = leaving s pen n

module _ (s : Travel) (pen : Pen) (bounds : Bounding s) (start : at_start pen.drawing ≡ true) where
  pub reached_after : (n : ℕ) → Reached s (leading s pen n) (pen_after s n pen).drawing
  unfolding pen_after leading leaving
  reached_after zero = start_reached s pen.drawing start
  reached_after (suc n) = rw (drawing_moved s (pen_after s n pen)) (next_reached s bounds (pen_after s n pen).e (reached_after n))

module _ (s : Travel) (pen : Pen) (bounds : Bounding s) (write : s.course.read ≡ false)
    (start : at_start pen.drawing ≡ true) (on : OnCircle pen.pointers.destination.y) where
  row_next : (n : ℕ) → row_after s (suc n) pen ≡ circled_by (leaving s pen n) 1 (row_after s n pen)
  unfolding pen_after leaving
  row_next n = row_moved s write (pen_after s n pen) (reached_after s pen bounds start n)

  row_on : (n : ℕ) → OnCircle (row_after s n pen)
  unfolding pen_after
  row_on zero = on
  row_on (suc n) = rw (row_next n) (circled_on (leaving s pen n) 1 (row_after s n pen) (row_on n))

  down_after : (n : ℕ) → same_place (row_after s (suc n) pen) (below (row_after s n pen)) ≡ goes_down (leaving s pen n)
  down_after n = ap (λ (z : ℤ). same_place z (below (row_after s n pen))) (row_next n) ∙ down_seen (row_after s n pen) (leaving s pen n)

  up_after : (n : ℕ) → same_place (row_after s n pen) (below (row_after s (suc n) pen)) ≡ goes_up (leaving s pen n)
  up_after n =
      ap (λ (z : ℤ). same_place (row_after s n pen) (below z)) (row_next n) ∙ up_seen (row_after s n pen) (row_on n) (leaving s pen n)

  crosses_turns : (n : ℕ) → crosses s pen n ≡ goes_down (leaving s pen n) || goes_up (leading s pen n)
  unfolding crosses leading
  crosses_turns zero = down_after 0 ∙ sym (or-false (goes_down (leaving s pen 0)))
  crosses_turns (suc n) = ap₂ ◌||◌ (down_after (suc n)) (up_after n)

-- 02, 102: of a line or codes of a write form the mode keeps back exactly the positions that do not cross; of a read form, whose destination stays in its
-- row, nothing is said here
pub boundary_drawn : (s : Setup) (pen : Pen) → named_mode s.brush.flow.mode ≡ AreaBoundary → Bounding s.travel → s.travel.course.read ≡ false
    → at_start pen.drawing ≡ true → OnCircle pen.pointers.destination.y
    → (n : ℕ) → unfinished (pen_after s.travel n pen).drawing ≡ true
    → is_nulled s (pen_after s.travel n pen) ≡ not (crosses s.travel pen n)
unfolding nulled_by is_nulled leaving
boundary_drawn s pen mode bounds write start on n going =
    let t = s.travel in
    rw mode
    (ap not (boundary_turns t bounds (pen_after t n pen).e (reached_after t pen bounds start n) going ∙ sym (crosses_turns t pen bounds write start on n)))
