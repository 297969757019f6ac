-- A move counts one position: the drawing in hand after it follows from the one before, and at each of its three kinds one position fewer is left.
use mathlib.Core.Path.{◌≡◌, refl, sym, ap, ◌∙◌}
use mathlib.Core.Logic.{⊎_elim}
use mathlib.Core.Bool.{Bool, true, false, not, ◌&&◌, ◌||◌, false≢true}
use Prim.Native.Nat.{ℕ, zero, suc, ◌+◌, ◌-◌, ◌*◌, ◌%◌, ◌≤◌, ◌<◌, zero-le}
use native.Mathlib.Numerals.{add-one}
use native.Mathlib.Omega.{arith}
use lib.Dec.{leb, ltb, eqb}
use lib.IntN.{ℤ}
use borrow.Author.Tests.{lt-ltb, le-ltb, le-leb, leb-true, ltb-true, eq-eqb, ne_eqb, eqb-false, not-true}
use Rattle.numbers.specs.Choose.{choose}
use Rattle.numbers.proofs.Order.{lt_or_le}
use Rattle.numbers.proofs.Choices.{by_lt, by_eq, and_left, and_right, and_both}
use Rattle.parts.specs.declared.shapes.Figure.{Figure}
use Rattle.parts.specs.declared.drawing.Drawing.{Drawing}
use Rattle.parts.specs.declared.drawing.Drawing.TheVariants.{Nothing, Line, Codes, Block}
use Rattle.parts.specs.Drawings.{unfinished, with_inside}
use Rattle.rules.specs.Operations.{is_fill, mode_of}
use Rattle.rules.specs.Codes.{code_at, none_stopped, codes_from}
use Rattle.rules.specs.Going.{counters_hold}
use Rattle.rules.specs.Totals.{left_of}
use Rattle.rules.proofs.CounterLaws.{line_held, line_holds, block_held, block_holds, idle_holds}
use Rattle.moves.specs.declared.Course.{Course}
use Rattle.moves.specs.declared.Travel.{Travel}
use Rattle.moves.specs.declared.Pen.{Pen}
use Rattle.moves.specs.Decoded.{course_of}
use Rattle.moves.specs.Steps.{line_step, goes_up}
use Rattle.moves.specs.Moves.{pen_stepped, pen_with, pen_gone, rises, line_moved, code_passed, codes_moved, column_passed, row_passed, block_moved, moved_by, moved}

-- ---- the drawing after a position

-- the drawing after a position, from the figure, whether the step sets a line's bit, and the drawing alone
unfoldable pub drawing_after : Figure → Bool → Drawing → Drawing
drawing_after f rose (Nothing stopped) = Nothing stopped
drawing_after f rose (Line before done) = choose (ltb done f.dimensions.x) (Line rose (done + 1)) (Nothing false)
drawing_after f rose (Codes count code done) =
    choose (ltb done (code_at f.steps count code % 16)) (Codes count code (done + 1)) (code_passed f.steps count code)
drawing_after f rose (Block inside column row) =
    choose (ltb column f.dimensions.x) (Block inside (column + 1) row)
    (choose (ltb row f.dimensions.y) (Block false 0 (row + 1)) (Nothing false))

pub drawing_moved : (s : Travel) (pen : Pen) → (moved s pen).drawing ≡ drawing_after s.figure (rises s pen.e) pen.drawing
unfolding moved moved_by line_moved codes_moved block_moved pen_gone pen_stepped pen_with column_passed row_passed drawing_after
drawing_moved s pen = by pen.drawing refl
  where
    by : (d : Drawing) → pen.drawing ≡ d → (moved_by s d pen).drawing ≡ drawing_after s.figure (rises s pen.e) d
    by (Nothing stopped) e = e
    by (Line rose done) e =
        let last = s.figure.dimensions.x in
        ⊎_elim (λ h. rw (lt-ltb done last h)) (λ h. rw (le-ltb done last h)) (lt_or_le done last)
    by (Codes count code done) e =
        let last = code_at s.figure.steps count code % 16 in
        ⊎_elim (λ h. rw (lt-ltb done last h)) (λ h. rw (le-ltb done last h)) (lt_or_le done last)
    by (Block inside column row) e =
        let last = s.figure.dimensions.x in
        ⊎_elim (λ h. rw (lt-ltb column last h)) (λ h. rw (le-ltb column last h)) (lt_or_le column last)

-- ---- what a move of each kind counts

-- one position fewer is left, and the counters hold
pub record Counted (f : Figure) (before after : Drawing) : Type 0 where
  pub left : left_of f after + 1 ≡ left_of f before
  pub held : counters_hold f after ≡ true

module _ (steps count : ℕ) where
  -- no position follows a stop, nor the last code
  codes_stopped : (i k : ℕ) → code_at steps count i ≡ 0 → codes_from steps count i k ≡ 0
  unfolding codes_from
  codes_stopped i zero e = refl
  codes_stopped i (suc k) e = rw (eq-eqb (code_at steps count i) 0 e)

  codes_past : (i : ℕ) → count ≤ i → codes_from steps count i (count - i) ≡ 0
  unfolding codes_from
  codes_past i h =
      let none : count - i ≡ 0 = omega arith in
      rw none

  -- a code's positions, and those of the codes after it
  codes_here : (code : ℕ) → code < count → (code_at steps count code ≡ 0 → ⊥)
      → codes_from steps count code (count - code) ≡ code_at steps count code % 16 + 1 + codes_from steps count (code + 1) (count - (code + 1))
  unfolding codes_from
  codes_here code h goes =
      let split : count - code ≡ suc (count - (code + 1)) = omega arith in
      rw (split, ne_eqb (code_at steps count code) 0 goes, add-one code)

-- a bit that is set only where the function has it, with a position done
bit_held : (bit fits : Bool) (done : ℕ) → (bit ≡ true → fits ≡ true) → (not bit || (fits && leb 1 (done + 1))) ≡ true
bit_held false fits done h = refl
bit_held true fits done h = rw (h refl) (le-leb 1 (done + 1) (omega arith))

module _ (f : Figure) (rose : Bool) (boundary : rose ≡ true → eqb (mode_of f.operations) 3 ≡ true) where
  pub line_counted : (done : ℕ) (before : Bool) → counters_hold f (Line before done) ≡ true
      → Counted f (Line before done) (drawing_after f rose (Line before done))
  unfolding left_of drawing_after
  line_counted done before h =
      let last : ℕ = f.dimensions.x in
      let held = line_held f done before h in
      let within : done ≤ last = held.within in
      by_lt (Counted f (Line before done)) done last
      (λ less.
      record {
        left = omega arith;
        held =
            line_holds f (done + 1) rose
            (record { function = held.function; within = omega arith; bit = bit_held rose (eqb (mode_of f.operations) 3) done boundary });
      })
      (λ more. record { left = omega arith; held = idle_holds f false })

  pub codes_counted : (count code done : ℕ) → counters_hold f (Codes count code done) ≡ true
      → Counted f (Codes count code done) (drawing_after f rose (Codes count code done))
  unfolding left_of counters_hold none_stopped drawing_after code_passed
  codes_counted count code done h =
      let last : ℕ = code_at f.steps count code % 16 in
      let following : ℕ = code_at f.steps count (code + 1) in
      let within : done ≤ last = leb-true done last (search (and_left, and_right)) in
      let some : code < count = ltb-true code count (search (and_left, and_right)) in
      let goes : not (eqb (code_at f.steps count code) 0) ≡ true = search (and_left, and_right) in
      let here = codes_here f.steps count code some (eqb-false (code_at f.steps count code) 0 (not-true _ goes)) in
      by_lt (Counted f (Codes count code done)) done last
      (λ less.
      let next = le-leb (done + 1) last (omega arith) in
      record { left = omega arith; held = search (and_both, and_left, and_right) })
      (λ more. by_lt (Counted f (Codes count code done)) (code + 1) count
      (λ another. by_eq (Counted f (Codes count code done)) following 0
      (λ stops. record { left = omega (arith, codes_stopped f.steps count (code + 1) (count - (code + 1)) stops); held = refl })
      (λ goes_on_lem.
      let next = lt-ltb (code + 1) count another in
      let none : none_stopped f.steps count (code + 1) ≡ true = rw (add-one code) (search (and_left, and_right)) in
      let on : not (eqb following 0) ≡ true = rw (ne_eqb following 0 goes_on_lem) in
      let first = le-leb 0 (following % 16) zero-le in
      record { left = omega arith; held = search (and_both, and_left, and_right) }))
      (λ past. record { left = omega (arith, codes_past f.steps count (code + 1) past); held = refl }))

  -- a row's positions, and those of the rows after it
  rows : (row : ℕ) → row ≤ f.dimensions.y
      → (f.dimensions.y + 1 - row) * (f.dimensions.x + 1) ≡ (f.dimensions.y + 1 - (row + 1)) * (f.dimensions.x + 1) + (f.dimensions.x + 1)
  rows row h =
      let split : f.dimensions.y + 1 - row ≡ f.dimensions.y + 1 - (row + 1) + 1 = omega arith in
      ap (λ (n : ℕ). n * (f.dimensions.x + 1)) split ∙ omega arith

  -- also where a fill's bit was turned at the position
  pub block_counted : (column row : ℕ) (before inside : Bool) → counters_hold f (Block before column row) ≡ true
      → (inside ≡ true → is_fill f.operations ≡ true)
      → Counted f (Block before column row) (drawing_after f rose (Block inside column row))
  unfolding left_of drawing_after
  block_counted column row before inside h fills =
      let held = block_held f column row before h in
      let across : column ≤ f.dimensions.x = held.across in
      let down : row ≤ f.dimensions.y = held.down in
      let rest = rows row down in
      by_lt (Counted f (Block before column row)) column f.dimensions.x
      (λ less.
      record {
        left = omega arith;
        held =
            block_holds f (column + 1) row inside
            (record { function = held.function; across = omega arith; down = down; bit = bit_held inside (is_fill f.operations) column fills });
      })
      (λ more. by_lt (Counted f (Block before column row)) row f.dimensions.y
      (λ another.
      record {
        left = omega arith;
        held =
            block_holds f 0 (row + 1) false
            (record { function = held.function; across = zero-le; down = omega arith; bit = refl });
      })
      (λ past.
      let none : f.dimensions.y + 1 - (row + 1) ≡ 0 = omega arith in
      record { left = omega (arith, ap (λ (n : ℕ). n * (f.dimensions.x + 1)) none); held = idle_holds f false }))

  pub counted : (d : Drawing) (inside : Bool) → counters_hold f d ≡ true → (inside ≡ true → is_fill f.operations ≡ true)
      → unfinished d ≡ true
      → Counted f d (drawing_after f rose (with_inside inside d))
  unfolding with_inside
  counted (Nothing stopped) inside h fills some = absurd (false≢true some)
  counted (Line before done) inside h fills some = line_counted done before h
  counted (Codes count code done) inside h fills some = codes_counted count code done h
  counted (Block before column row) inside h fills some = block_counted column row before inside h fills

-- ---- a move of any kind

-- a line's bit is set only in mode 11
rises_boundary : (s : Travel) (e : ℤ) → s.course ≡ course_of s.figure.operations → rises s e ≡ true → eqb (mode_of s.figure.operations) 3 ≡ true
unfolding rises course_of
rises_boundary s e fits h =
    ap (λ (k : Course). k.bounds) (sym fits) ∙ and_left s.course.bounds (goes_up (line_step s.course e).y) h

-- the move of a drawing in hand, whose bit may have been turned at the position
pub moved_counted : (s : Travel) (pen : Pen) (inside : Bool) → s.course ≡ course_of s.figure.operations
    → counters_hold s.figure pen.drawing ≡ true
    → (inside ≡ true → is_fill s.figure.operations ≡ true)
    → unfinished pen.drawing ≡ true
    → Counted s.figure pen.drawing (moved s (pen_with (with_inside inside pen.drawing) pen)).drawing
unfolding pen_with
moved_counted s pen inside fits h fills going =
    rw (drawing_moved s (pen_with (with_inside inside pen.drawing) pen))
    (counted s.figure (rises s pen.e) (rises_boundary s pen.e fits) pen.drawing inside h fills going)
