-- The pen after columns passed or a row left is the pen after one step whose part in X is made so many times, since a choice of points is the
-- point of the choices.
use mathlib.Core.Path.{◌≡◌, refl}
use Prim.Native.Nat.{ℕ}
use lib.IntN.{ℤ}
use Rattle.numbers.specs.Choose.{choose}
use Rattle.parts.specs.declared.shapes.Point.{Point}
use Rattle.parts.specs.declared.drawing.Drawing.{Drawing}
use Rattle.moves.specs.declared.Turn.{Turn}
use Rattle.moves.specs.declared.Turn.TheVariants.{Stay}
use Rattle.moves.specs.declared.Ground.{Ground}
use Rattle.moves.specs.declared.Travel.{Travel}
use Rattle.moves.specs.declared.Pen.{Pen}
use Rattle.moves.specs.Turns.{opposite, turned_by, circled_by, point_stepped, spot_stepped}
use Rattle.moves.specs.Moves.{pen_stepped, column_passed, row_point, row_spot, row_passed}
use Rattle.moves.specs.Inner.{pen_turned, columns_passed, row_returned}
use Rattle.moves.proofs.Choices.{choose_point, choose_column}

module _ (s : Travel) (d : Drawing) (pen : Pen) where
  -- a row's step, of source and pattern, and of the destination
  abbrev pub row_from : Point Turn
  row_from = record { x = opposite s.course.x; y = s.course.y }

  abbrev pub row_to : Point Turn
  row_to = record { x = opposite s.course.x; y = choose s.course.inverts (opposite s.course.y) s.course.y }

  abbrev pub across : Point Turn
  across = record { x = s.course.x; y = Stay }

  pub turned_once : (from to : Point Turn) (e : ℤ) → pen_turned s 1 from to e d pen ≡ pen_stepped s from to e d pen
  unfolding pen_turned pen_stepped point_stepped spot_stepped
  turned_once from to e = refl

  pub columns_turned : (k : ℕ) → columns_passed s k d pen ≡ pen_turned s k across across pen.e d pen
  unfolding pen_turned columns_passed turned_by circled_by
  columns_turned k = λ i.
      record {
        pointers = record {
          source = choose_column s.source.used (turned_by s.course.x k s.source.map.width pen.pointers.source.x) pen.pointers.source i;
          pattern = choose_column s.pattern.used (turned_by s.course.x k s.pattern.map.width pen.pointers.pattern.x) pen.pointers.pattern i;
          destination = record { x = circled_by s.course.x k pen.pointers.destination.x; y = pen.pointers.destination.y };
        };
        e = pen.e;
        drawing = d;
      }

  -- a pointer that a row returns
  there : ℕ → Ground → Point ℕ → Point ℕ
  there k g p = record { x = turned_by row_from.x k g.map.width p.x; y = turned_by row_from.y 1 g.map.height p.y }

  pub row_turned : (k : ℕ) → row_returned s k d pen ≡ pen_turned s k row_from row_to pen.e d pen
  unfolding pen_turned row_returned there
  row_turned k = λ i.
      record {
        pointers = record {
          source = choose_point s.source.used (there k s.source pen.pointers.source) pen.pointers.source i;
          pattern = choose_point s.pattern.used (there k s.pattern pen.pointers.pattern) pen.pointers.pattern i;
          destination = record { x = circled_by row_to.x k pen.pointers.destination.x; y = circled_by row_to.y 1 pen.pointers.destination.y };
        };
        e = pen.e;
        drawing = d;
      }

  -- one column, and a whole row
  pub column_turned : columns_passed s 1 d pen ≡ column_passed s d pen
  unfolding pen_turned pen_stepped column_passed point_stepped spot_stepped
  column_turned = columns_turned 1

  pub whole_row : row_returned s s.figure.dimensions.x d pen ≡ row_passed s d pen
  unfolding pen_turned row_passed row_point row_spot
  whole_row = row_turned s.figure.dimensions.x
