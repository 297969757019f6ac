-- How the code asks it: what functions inside promise and ask of each other, proved from the rules; nothing here has to be believed.
use Rattle.std.specs.Prelude.{ℕ, ◌≡◌, Bool, not, ◌&&◌, ◌||◌, ℤ}
use Rattle.numbers.specs.Choose.{choose}
use Rattle.numbers.specs.Circles.{circle}
use Rattle.pixels.specs.declared.Map.{Map}
use Rattle.parts.specs.declared.shapes.Point.{Point}
use Rattle.moves.specs.declared.Turn.{Turn}
use Rattle.parts.specs.declared.drawing.Drawing.{Drawing}
use Rattle.rules.specs.Maps.{is_inside}
use Rattle.moves.specs.declared.Way.{Way}
use Rattle.moves.specs.declared.Way.TheVariants.{Along, Column, Row, Here}
use Rattle.moves.specs.declared.Ground.{Ground}
use Rattle.moves.specs.declared.Travel.{Travel}
use Rattle.moves.specs.declared.Pen.{Pen}
use Rattle.moves.specs.Turns.{opposite, turned_by, circled_by}
use Rattle.moves.specs.Moves.{pen_stepped, pen_with, column_passed, row_passed}

-- the pen after going this way: its used pointers stepped, at the next column, past a row's end, or as it is with another drawing in hand
unfoldable pub went_by : Travel → Way → Pen → Pen
went_by s (Along from_x from_y to_x to_y e drawing) pen =
    pen_stepped s (record { x = from_x; y = from_y }) (record { x = to_x; y = to_y }) e drawing pen
went_by s (Column drawing) pen = column_passed s drawing pen
went_by s (Row drawing) pen = row_passed s drawing pen
went_by s (Here drawing) pen = pen_with drawing pen

-- a pointer by a step whose part in X is made k times, where its map is used
abbrev pub turned : Ground → ℕ → Point Turn → Point ℕ → Point ℕ
turned g k step p =
    choose g.used (record { x = turned_by step.x k g.map.width p.x; y = turned_by step.y 1 g.map.height p.y }) p

-- the pen after a step whose part in X is made k times
unfoldable pub pen_turned : Travel → ℕ → Point Turn → Point Turn → ℤ → Drawing → Pen → Pen
pen_turned s k from to e drawing pen =
    record {
      pointers = record {
        source = turned s.source k from pen.pointers.source;
        pattern = turned s.pattern k from pen.pointers.pattern;
        destination = record { x = circled_by to.x k pen.pointers.destination.x; y = circled_by to.y 1 pen.pointers.destination.y };
      };
      e = e;
      drawing = drawing;
    }

-- used source and pattern pointers lie in their maps
abbrev pub pointers_inside : Travel → Pen → Bool
pointers_inside s pen =
    (not s.source.used || is_inside s.source.map pen.pointers.source)
    && (not s.pattern.used || is_inside s.pattern.map pen.pointers.pattern)

-- the pen k columns further in its row; unused pointers stay
unfoldable pub columns_passed : Travel → ℕ → Drawing → Pen → Pen
columns_passed s k drawing pen =
    record {
      pointers = record {
        source = record {
          x = choose s.source.used (turned_by s.course.x k s.source.map.width pen.pointers.source.x) pen.pointers.source.x;
          y = pen.pointers.source.y;
        };
        pattern = record {
          x = choose s.pattern.used (turned_by s.course.x k s.pattern.map.width pen.pointers.pattern.x) pen.pointers.pattern.x;
          y = pen.pointers.pattern.y;
        };
        destination = record { x = circled_by s.course.x k pen.pointers.destination.x; y = pen.pointers.destination.y };
      };
      e = pen.e;
      drawing = drawing;
    }

-- a pointer there
abbrev pub returned : Travel → ℕ → Bool → Map → Point ℕ → Point ℕ
returned s k used map p =
    record {
      x = choose used (turned_by (opposite s.course.x) k map.width p.x) p.x;
      y = choose used (turned_by s.course.y 1 map.height p.y) p.y;
    }

-- the pen at the start of the next row, from k columns into this one; unused pointers stay
unfoldable pub row_returned : Travel → ℕ → Drawing → Pen → Pen
row_returned s k drawing pen =
    record {
      pointers = record {
        source = returned s k s.source.used s.source.map pen.pointers.source;
        pattern = returned s k s.pattern.used s.pattern.map pen.pointers.pattern;
        destination = record {
          x = circled_by (opposite s.course.x) k pen.pointers.destination.x;
          y = circled_by (choose s.course.inverts (opposite s.course.y) s.course.y) 1 pen.pointers.destination.y;
        };
      };
      e = pen.e;
      drawing = drawing;
    }

-- a place on the destination's circle, from -2,048 to 6,143
abbrev pub OnCircle : ℤ → Type 0
OnCircle z = circle 2048 8192 z ≡ z
