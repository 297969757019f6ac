-- What the area boundary mode asks of a position, by the turns in Y: the turn that led to it went up, or the turn that leaves it goes down, because a
-- line's bit keeps the first and a code's way tells both.
use mathlib.Core.Path.{◌≡◌, refl}
use mathlib.Core.Bool.{Bool, true, false, not, ◌&&◌, ◌||◌, false≢true, or-false}
use Prim.Native.Nat.{ℕ, ◌+◌, ◌%◌, ◌≤◌, ◌<◌, zero-le}
use native.Mathlib.Omega.{arith}
use lib.Dec.{ltb, eqb}
use lib.IntN.{ℤ, pos}
use lib.Signed.{lt_z}
use borrow.Author.Tests.{lt-ltb, le-ltb, ltb-true, eqb-true, eqb-false, ne_eqb, not-true}
use Rattle.numbers.specs.Choose.{choose}
use Rattle.numbers.proofs.Choices.{and_left, and_right}
use Rattle.parts.specs.declared.drawing.Drawing.{Drawing}
use Rattle.parts.specs.declared.drawing.Drawing.TheVariants.{Nothing, Line, Codes, Block}
use Rattle.parts.specs.Drawings.{unfinished}
use Rattle.rules.specs.Codes.{code_at}
use Rattle.moves.specs.declared.Turn.{Turn}
use Rattle.moves.specs.declared.Turn.TheVariants.{Stay, Forth, Back}
use Rattle.parts.specs.declared.shapes.Point.{Point}
use Rattle.moves.specs.declared.Travel.{Travel}
use Rattle.moves.specs.Steps.{line_step, code_step, moves_row, goes_up}
use Rattle.moves.specs.Moves.{rises, code_passed}
use Rattle.moves.proofs.Counters.{drawing_after}
use Rattle.places.specs.Places.{is_first, is_last, of_run, on_boundary}
use Rattle.areas.specs.Outlines.{at_start}
use Rattle.areas.proofs.Rows.{goes_down}

-- an area boundary's course: a line's straight step goes its way in Y or stays in its row
pub record Bounding (s : Travel) : Type 0 where
  pub bounds : s.course.bounds ≡ true
  pub steep : Bool
  pub straight : s.course.straight.y ≡ choose steep s.course.y Stay

-- ---- the turn that leaves a position

-- how the row of a position of a line or codes goes to the next one's
unfoldable pub turn_of : Travel → ℤ → Drawing → Turn
turn_of s e (Nothing stopped) = Stay
turn_of s e (Line rose done) = choose (ltb done s.figure.dimensions.x) (line_step s.course e).y Stay
turn_of s e (Codes count code done) = choose (ltb done (code_at s.figure.steps count code % 16)) (code_step (code_at s.figure.steps count code)).y Stay
turn_of s e (Block inside column row) = Stay

-- a position of a line or codes, or none, and the turn that led to it: none to the first, along the line's way in Y or level to the next of a line, the
-- code's to the next of a code, and none from code to code
pub data Reached (s : Travel) : Turn → Drawing → Type 0 where
  none : {turn : Turn} {stopped : Bool} → Reached s turn (Nothing stopped)
  line : {done : ℕ} (steps : Bool) → done ≤ s.figure.dimensions.x
      → Reached s (choose steps s.course.y Stay) (Line (goes_up (choose steps s.course.y Stay)) done)
  first : {count code : ℕ} → Reached s Stay (Codes count code 0)
  next : {count code done : ℕ} → done < code_at s.figure.steps count code % 16
      → Reached s (code_step (code_at s.figure.steps count code)).y (Codes count code (done + 1))

module _ (s : Travel) where
  pub start_reached : (d : Drawing) → at_start d ≡ true → Reached s Stay d
  unfolding at_start
  start_reached (Nothing stopped) e = none
  start_reached (Line rose done) e =
      let zeroth : done ≡ 0 = eqb-true done 0 (and_left (eqb done 0) (not rose) e) in
      let level : rose ≡ false = not-true rose (and_right (eqb done 0) (not rose) e) in
      rw (zeroth, level) (line false zero-le)
  start_reached (Codes count code done) e =
      let zeroth : done ≡ 0 = eqb-true done 0 (and_right (eqb code 0) (eqb done 0) e) in
      rw zeroth first
  start_reached (Block inside column row) e = absurd (false≢true e)

  module _ (b : Bounding s) where
    -- a step of a line goes its way in Y or stays in its row
    along : ℤ → Bool
    along e = not (lt_z e (pos 0)) || b.steep

    line_turn : (e : ℤ) → (line_step s.course e).y ≡ choose (along e) s.course.y Stay
    unfolding line_step along
    line_turn e = by (lt_z e (pos 0))
      where
        by : (low : Bool)
            → (choose {A = Point Turn} low s.course.straight (record { x = s.course.x; y = s.course.y })).y
            ≡ choose (not low || b.steep) s.course.y Stay
        by true = b.straight
        by false = refl

  code_reached : (count code done : ℕ)
      → Reached s (turn_of s (pos 0) (Codes count code done)) (drawing_after s.figure false (Codes count code done))
  unfolding turn_of drawing_after code_passed
  code_reached count code done = by (ltb done (code_at s.figure.steps count code % 16)) refl
    where
      passed : (more stops : Bool)
          → Reached s Stay (choose more (choose stops (Nothing true) (Codes count (code + 1) 0)) (Nothing false))
      passed true true = none
      passed true false = first
      passed false stops = none

      by : (t : Bool) → ltb done (code_at s.figure.steps count code % 16) ≡ t
          → Reached s (choose t (code_step (code_at s.figure.steps count code)).y Stay)
          (choose t (Codes count code (done + 1)) (code_passed s.figure.steps count code))
      by true less = next (ltb-true done (code_at s.figure.steps count code % 16) less)
      by false more = passed (ltb (code + 1) count) (eqb (code_at s.figure.steps count (code + 1)) 0)

  module _ (b : Bounding s) where
    line_bit : (e : ℤ) → rises s e ≡ goes_up (line_step s.course e).y
    unfolding rises
    line_bit e = rw b.bounds

    -- so is the position after it
    pub next_reached : (e : ℤ) {turn : Turn} {d : Drawing} → Reached s turn d
        → Reached s (turn_of s e d) (drawing_after s.figure (rises s e) d)
    unfolding turn_of drawing_after
    next_reached e none = none
    next_reached e (line {done} steps within) = by (ltb done s.figure.dimensions.x) refl
      where
        by : (t : Bool) → ltb done s.figure.dimensions.x ≡ t
            → Reached s (choose t (line_step s.course e).y Stay) (choose t (Line (rises s e) (done + 1)) (Nothing false))
        by true less = rw (line_bit e, line_turn b e) (line {done = done + 1} (along b e) (omega (arith, ltb-true done s.figure.dimensions.x less)))
        by false more = none
    next_reached e (first {count} {code}) = code_reached count code 0
    next_reached e (next {count} {code} {done} within) = code_reached count code (done + 1)

-- ---- what the mode asks of a position

-- on the line's way down it is the last of its run, on the way up the first; level neither
down_run : (steps last : Bool) → (not last && moves_row (choose steps Forth Stay)) ≡ goes_down (choose (not last) (choose steps Forth Stay) Stay)
unfolding goes_down
down_run steps true = refl
down_run true false = refl
down_run false false = refl

never_up : (steps : Bool) → goes_up (choose steps Forth Stay) ≡ false
never_up true = refl
never_up false = refl

never_down : (steps last : Bool) → goes_down (choose (not last) (choose steps Back Stay) Stay) ≡ false
unfolding goes_down
never_down steps true = refl
never_down true false = refl
never_down false false = refl

level : (t : Bool) → choose t Stay Stay ≡ Stay
level true = refl
level false = refl

line_run : (way : Turn) (came goes last : Bool)
    → of_run way (goes_up (choose came way Stay)) (not last && moves_row (choose goes way Stay))
    ≡ goes_down (choose (not last) (choose goes way Stay) Stay) || goes_up (choose came way Stay)
unfolding goes_down
line_run Stay came goes last = rw (level came, level goes, level (not last))
line_run Forth came goes last = rw (never_up came, or-false) (down_run goes last)
line_run Back came goes last = rw (never_down goes last)

-- the first of a code, and one after it
code_first : (way : Turn) (last : Bool) → of_run way false (not last) ≡ goes_down (choose (not last) way Stay) || false
unfolding goes_down
code_first Stay last = rw (level (not last))
code_first Forth true = refl
code_first Forth false = refl
code_first Back true = refl
code_first Back false = refl

code_next : (way : Turn) (last : Bool) → of_run way true (not last) ≡ goes_down (choose (not last) way Stay) || goes_up way
unfolding goes_down
code_next Stay last = rw (level (not last))
code_next Forth true = refl
code_next Forth false = refl
code_next Back true = refl
code_next Back false = refl

-- up to a last one, another is left unless this is the last
another : (done last : ℕ) → done ≤ last → ltb done last ≡ not (eqb done last)
another done last h = by (eqb done last) refl
  where
    by : (t : Bool) → eqb done last ≡ t → ltb done last ≡ not t
    by true e = le-ltb done last (omega (arith, eqb-true done last e))
    by false e = lt-ltb done last (omega (arith, eqb-false done last e))

module _ (s : Travel) (b : Bounding s) where
  -- a position is drawn where the turn that leaves it goes down, or the turn that led to it went up
  pub boundary_turns : (e : ℤ) {turn : Turn} {d : Drawing} → Reached s turn d → unfinished d ≡ true
      → on_boundary s e d ≡ goes_down (turn_of s e d) || goes_up turn
  unfolding turn_of on_boundary is_first is_last
  boundary_turns e none going = absurd (false≢true going)
  boundary_turns e (line {done} steps within) going =
      rw (line_turn s b e, another done s.figure.dimensions.x within) (line_run s.course.y steps (along s b e) (eqb done s.figure.dimensions.x))
  boundary_turns e (first {count} {code}) going =
      rw (another 0 (code_at s.figure.steps count code % 16) zero-le) (code_first _ (eqb 0 (code_at s.figure.steps count code % 16)))
  boundary_turns e (next {count} {code} {done} within) going =
      rw (another (done + 1) (code_at s.figure.steps count code % 16) (omega arith), ne_eqb (done + 1) 0 (omega arith))
      (code_next _ (eqb (done + 1) (code_at s.figure.steps count code % 16)))
