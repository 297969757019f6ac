-- The move to the next position, the end of a row, and the passage to the next code or to a stop.
use Rattle.std.specs.Prelude.{ℕ, ◌+◌, Bool, true, false, ◌&&◌, ltb, ℤ, pos, ◌+ℤ◌}
use Rattle.std.specs.Int.Signed.{lt_z}
use Rattle.numbers.specs.Choose.{choose}
use Rattle.numbers.specs.Circles.{circle}
use Rattle.pixels.specs.declared.Map.{Map}
use Rattle.parts.specs.declared.shapes.Point.{Point}
use Rattle.moves.specs.declared.Turn.{Turn}
use Rattle.parts.specs.declared.drawing.Drawing.{Drawing}
use Rattle.parts.specs.declared.drawing.Drawing.TheVariants.{Nothing, Line, Codes, Block}
use Rattle.rules.specs.Codes.{steps_of, stops, code_at}
use Rattle.moves.specs.declared.Turn.TheVariants.{Stay, Forth}
use Rattle.moves.specs.declared.Course.{Course}
use Rattle.moves.specs.declared.Travel.{Travel}
use Rattle.moves.specs.declared.Pen.{Pen}
use Rattle.moves.specs.Turns.{opposite, turned_by, circled_by, point_stepped, spot_stepped}
use Rattle.moves.specs.Steps.{line_step, code_step, goes_up}

-- 01, The functions: X by +1
abbrev pub right : Point Turn
right = record { x = Forth; y = Stay }

-- docs/DIFFERENCES.md, D3: at a step of a line or code, read forms move source and pattern by the step, write forms by +1 in X
unfoldable pub source_by : Course → Point Turn → Point Turn
source_by course step = choose course.read step right

-- 01, The functions: write forms move the destination by the step, read forms by +1 in X
unfoldable pub destination_by : Course → Point Turn → Point Turn
destination_by course step = choose course.read right step

-- 01, Maps and pointers: the pen with its used pointers stepped; unused ones stay
unfoldable pub pen_stepped : Travel → Point Turn → Point Turn → ℤ → Drawing → Pen → Pen
pen_stepped s bySource byDestination e drawing pen =
    record {
      pointers = record {
        source = choose s.source.used (point_stepped s.source.map bySource pen.pointers.source) pen.pointers.source;
        pattern = choose s.pattern.used (point_stepped s.pattern.map bySource pen.pointers.pattern) pen.pointers.pattern;
        destination = spot_stepped byDestination pen.pointers.destination;
      };
      e = e;
      drawing = drawing;
    }

-- 01, The functions: no step: pointers and E stay, with another drawing in hand
unfoldable pub pen_with : Drawing → Pen → Pen
pen_with drawing pen = record { pointers = pen.pointers; e = pen.e; drawing = drawing }

-- 01, The functions: the pen after one step of a line or code
unfoldable pub pen_gone : Travel → Point Turn → ℤ → Drawing → Pen → Pen
pen_gone s step e drawing pen = pen_stepped s (source_by s.course step) (destination_by s.course step) e drawing pen

-- 01, The functions, Line: E below 0 adds K1, otherwise K2; E is reduced as in a write
unfoldable pub line_error : Travel → ℤ → ℤ
line_error s e = circle 8192 16384 (e +ℤ choose (lt_z e (pos 0)) s.k1 s.k2)

-- 02, 102: a step in Y of a mode 11 line that goes up sets the line's bit, and any other step clears it
unfoldable pub rises : Travel → ℤ → Bool
rises s e = s.course.bounds && goes_up (line_step s.course e).y

-- 01, The functions, Line: no step follows the last position
unfoldable pub line_moved : Travel → ℕ → Pen → Pen
line_moved s done pen =
    choose (ltb done s.figure.dimensions.x)
    (pen_gone s (line_step s.course pen.e) (line_error s pen.e) (Line (rises s pen.e) (done + 1)) pen)
    (pen_with (Nothing false) pen)

-- 01, The functions, Codes: after a code's last position comes the next code, a stop at 00, or the end of the write's codes
unfoldable pub code_passed : (steps count code : ℕ) → Drawing
code_passed steps count code =
    choose (ltb (code + 1) count)
    (choose (stops (code_at steps count (code + 1))) (Nothing true) (Codes count (code + 1) 0))
    (Nothing false)

-- 01, The functions, Codes: n moves in the code's direction; no pointer moves between two codes
unfoldable pub codes_moved : Travel → (count code done : ℕ) → Pen → Pen
codes_moved s count code done pen =
    choose (ltb done (steps_of (code_at s.figure.steps count code)))
    (pen_gone s (code_step (code_at s.figure.steps count code)) pen.e (Codes count code (done + 1)) pen)
    (pen_with (code_passed s.figure.steps count code) pen)

-- 01, The functions, PxBlt: within a row X steps by the octant's sign, of all three pointers
unfoldable pub column_passed : Travel → Drawing → Pen → Pen
column_passed s drawing pen =
    pen_stepped s (record { x = s.course.x; y = Stay }) (record { x = s.course.x; y = Stay }) pen.e drawing pen

-- 01, The functions, PxBlt: at a row's end X returns to the row's first and Y steps
unfoldable pub row_point : Travel → Map → Point ℕ → Point ℕ
row_point s map p =
    record {
      x = turned_by (opposite s.course.x) s.figure.dimensions.x map.width p.x;
      y = turned_by s.course.y 1 map.height p.y;
    }

-- docs/DIFFERENCES.md, D4: inverting, the destination's Y goes the other way
unfoldable pub row_spot : Travel → Point ℤ → Point ℤ
row_spot s p =
    record {
      x = circled_by (opposite s.course.x) s.figure.dimensions.x p.x;
      y = circled_by (choose s.course.inverts (opposite s.course.y) s.course.y) 1 p.y;
    }

-- 01, The functions, PxBlt: the pen past a row's end; unused pointers stay
unfoldable pub row_passed : Travel → Drawing → Pen → Pen
row_passed s drawing pen =
    record {
      pointers = record {
        source = choose s.source.used (row_point s s.source.map pen.pointers.source) pen.pointers.source;
        pattern = choose s.pattern.used (row_point s s.pattern.map pen.pointers.pattern) pen.pointers.pattern;
        destination = row_spot s pen.pointers.destination;
      };
      e = pen.e;
      drawing = drawing;
    }

-- 01, The functions, PxBlt: positions by rows; at each row's end X returns and Y steps, after the last too;
-- 02, 102: each row of a fill starts outside
unfoldable pub block_moved : Travel → (column row : ℕ) → Bool → Pen → Pen
block_moved s column row inside pen =
    choose (ltb column s.figure.dimensions.x) (column_passed s (Block inside (column + 1) row) pen)
    (row_passed s (choose (ltb row s.figure.dimensions.y) (Block false 0 (row + 1)) (Nothing false)) pen)

-- 01, The functions: the pen after this position
unfoldable pub moved_by : Travel → Drawing → Pen → Pen
moved_by s (Nothing stopped) pen = pen
moved_by s (Line rose done) pen = line_moved s done pen
moved_by s (Codes count code done) pen = codes_moved s count code done pen
moved_by s (Block inside column row) pen = block_moved s column row inside pen

-- 01, The functions: the move is part of the position before it
unfoldable pub moved : Travel → Pen → Pen
moved s pen = moved_by s pen.drawing pen
