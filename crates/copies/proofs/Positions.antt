-- The positions of a block that is no fill: its source and destination are as many steps from their first as its column and row say, by columns and by rows.
use mathlib.Core.Path.{◌≡◌, sym, ap, ap₂, ◌∙◌}
use mathlib.Core.Bool.{true, false}
use mathlib.Core.List.{List}
use Prim.Native.Nat.{ℕ, zero, suc, ◌+◌, ◌*◌, ◌≤◌, ◌<◌}
use Rattle.std.proofs.Common.{ℤ}
use native.Mathlib.Nat.{zero-mul}
use native.Mathlib.Numerals.{add-one}
use native.Mathlib.Omega.{arith}
use Rattle.numbers.specs.Choose.{choose}
use Rattle.numbers.proofs.Choices.{choose_true, choose_false}
use Rattle.pixels.specs.declared.Map.{Map}
use Rattle.parts.specs.declared.shapes.Point.{Point}
use Rattle.parts.specs.declared.shapes.Pointers.{Pointers}
use Rattle.parts.specs.declared.drawing.Drawing.TheVariants.{Block}
use Rattle.parts.specs.Drawings.{unfinished, with_inside}
use Rattle.rules.specs.Maps.{is_inside}
use Rattle.rules.proofs.PointerLaws.{inside_x, inside_y}
use Rattle.moves.specs.declared.Pen.{Pen}
use Rattle.moves.specs.declared.Turn.{Turn}
use Rattle.moves.specs.Turns.{opposite, turned_by, circled_by, point_stepped, spot_stepped}
use Rattle.moves.specs.Moves.{pen_stepped, pen_with, column_passed, row_point, row_spot, row_passed, moved}
use Rattle.moves.proofs.BlockLaws.{to_column, to_row}
use Rattle.moves.proofs.TurnLaws.{turned_none, turned_more, turned_return}
use Rattle.moves.proofs.CircledLaws.{OnCircle, circled_none, circled_more, circled_return}
use Rattle.places.specs.declared.Setup.{Setup}
use Rattle.position.specs.Drawn.{inside_at, crossed}
use Rattle.runs.specs.Runs.{Run, positioned, stepped, after}
use Rattle.runs.proofs.AfterLaws.{stepped_on, after_add}

-- a block with a source that neither fills nor inverts, from these pointers on
pub record Blocks (s : Setup) (p : Pointers) : Type 0 where
  pub fills : s.brush.flow.fills ≡ false
  pub used : s.travel.source.used ≡ true
  pub inverts : s.travel.course.inverts ≡ false
  pub inside : is_inside s.travel.source.map p.source ≡ true
  pub across : OnCircle p.destination.x
  pub down : OnCircle p.destination.y

-- the source pixel and the destination of the position at this column and row
abbrev pub source_at : Setup → Pointers → ℕ → ℕ → Point ℕ
source_at s p column row =
    record {
      x = turned_by s.travel.course.x column s.travel.source.map.width p.source.x;
      y = turned_by s.travel.course.y row s.travel.source.map.height p.source.y;
    }

abbrev pub destination_at : Setup → Pointers → ℕ → ℕ → Point ℤ
destination_at s p column row =
    record {
      x = circled_by s.travel.course.x column p.destination.x;
      y = circled_by s.travel.course.y row p.destination.y;
    }

-- a pen there
pub record At (s : Setup) (p : Pointers) (column row : ℕ) (pen : Pen) : Type 0 where
  pub drawing : pen.drawing ≡ Block false column row
  pub source : pen.pointers.source ≡ source_at s p column row
  pub destination : pen.pointers.destination ≡ destination_at s p column row

module _ (s : Setup) (p : Pointers) (b : Blocks s p) where
  abbrev last : ℕ
  last = s.travel.figure.dimensions.x

  abbrev map : Map
  map = s.travel.source.map

  start_at : (pen : Pen) → pen.drawing ≡ Block false 0 0 → pen.pointers ≡ p → At s p 0 0 pen
  start_at pen start e =
      let inside = b.inside in
      record {
        drawing = start;
        source =
            ap (λ (q : Pointers). q.source) e
            ∙ (λ i. record {
              x = sym (turned_none map.width s.travel.course.x p.source.x (inside_x map p.source inside)) i;
              y = sym (turned_none map.height s.travel.course.y p.source.y (inside_y map p.source inside)) i;
            });
        destination =
            ap (λ (q : Pointers). q.destination) e
            ∙ (λ i. record {
              x = sym (circled_none s.travel.course.x p.destination.x b.across) i;
              y = sym (circled_none s.travel.course.y p.destination.y b.down) i;
            });
      }

  -- ---- the move to the next column, and to the next row

  next_column : (pen : Pen) (column row : ℕ) → column < last → At s p column row pen → At s p (suc column) row (moved s.travel pen)
  unfolding column_passed pen_stepped point_stepped spot_stepped turned_by circled_by
  next_column pen column row less at =
      let to = to_column s.travel pen column row false at.drawing less in
      record {
        drawing = ap (λ (q : Pen). q.drawing) to ∙ ap (λ (k : ℕ). Block false k row) (add-one column);
        source =
            ap (λ (q : Pen). q.pointers.source) to
            ∙ choose_true _ _ b.used
            ∙ ap (λ (q : Point ℕ). record { x = turned_by s.travel.course.x 1 map.width q.x; y = q.y }) at.source
            ∙ (λ i. record { x = turned_more map.width s.travel.course.x column p.source.x i; y = (source_at s p column row).y });
        destination =
            ap (λ (q : Pen). q.pointers.destination) to
            ∙ ap (λ (q : Point ℤ). record { x = circled_by s.travel.course.x 1 q.x; y = q.y }) at.destination
            ∙ (λ i. record { x = circled_more s.travel.course.x p.destination.x b.across column i; y = (destination_at s p column row).y });
      }

  next_row : (pen : Pen) (row : ℕ) → row < s.travel.figure.dimensions.y → At s p last row pen → At s p 0 (suc row) (moved s.travel pen)
  unfolding row_passed row_point row_spot
  next_row pen row another at =
      let to = to_row s.travel pen last row false at.drawing (omega arith) another in
      let within = inside_x map p.source b.inside in
      record {
        drawing = ap (λ (q : Pen). q.drawing) to ∙ ap (λ (k : ℕ). Block false 0 k) (add-one row);
        source =
            ap (λ (q : Pen). q.pointers.source) to
            ∙ choose_true _ _ b.used
            ∙ ap (λ (q : Point ℕ). row_point s.travel map q) at.source
            ∙ (λ i. record {
              x =
                  (turned_return map.width s.travel.course.x last p.source.x within
                  ∙ sym (turned_none map.width s.travel.course.x p.source.x within)) i;
              y = turned_more map.height s.travel.course.y row p.source.y i;
            });
        destination =
            ap (λ (q : Pen). q.pointers.destination) to
            ∙ ap (λ (q : Point ℤ). row_spot s.travel q) at.destination
            ∙ (λ i. record {
              x =
                  (circled_return s.travel.course.x p.destination.x b.across last
                  ∙ sym (circled_none s.travel.course.x p.destination.x b.across)) i;
              y =
                  (not_inverted row ∙ circled_more s.travel.course.y p.destination.y b.down row) i;
            });
      }
    where
      not_inverted : (row : ℕ)
          → circled_by (choose s.travel.course.inverts (opposite s.travel.course.y) s.travel.course.y) 1 (destination_at s p last row).y
          ≡ circled_by s.travel.course.y 1 (destination_at s p last row).y
      not_inverted row = ap (λ (t : Turn). circled_by t 1 (destination_at s p last row).y) (choose_false _ _ b.inverts)

  -- ---- positions

  -- a position of it sets no bit
  crossed_same : (memory : List ℕ) (pen : Pen) (column row : ℕ) → pen.drawing ≡ Block false column row → crossed s memory pen ≡ pen
  unfolding crossed inside_at pen_with with_inside
  crossed_same memory pen column row e =
      let none : with_inside (inside_at s memory pen) pen.drawing ≡ pen.drawing =
      ap₂ with_inside (rw b.fills) e ∙ sym e in
      λ i. record { pointers = pen.pointers; e = pen.e; drawing = none i }

  pub on_position : (u : Run) (column row : ℕ) → At s p column row u.pen → stepped s u ≡ positioned s u
  on_position u column row at = stepped_on s u (ap unfinished at.drawing)

  moved_on : (u : Run) (column row : ℕ) → At s p column row u.pen → (stepped s u).pen ≡ moved s.travel u.pen
  unfolding positioned
  moved_on u column row at =
      ap (λ (v : Run). v.pen) (on_position u column row at) ∙ ap (moved s.travel) (crossed_same u.memory u.pen column row at.drawing)

  along_row : (u : Run) (row : ℕ) → At s p 0 row u.pen → (column : ℕ) → column ≤ last → At s p column row (after s column u).pen
  unfolding after
  along_row u row at zero h = at
  along_row u row at (suc column) h =
      let here = along_row u row at column (omega arith) in
      rw (moved_on (after s column u) column row here) (next_column (after s column u).pen column row (omega arith) here)

  down_rows : (t : Run) → At s p 0 0 t.pen → (row : ℕ) → row ≤ s.travel.figure.dimensions.y → At s p 0 row (after s (row * (last + 1)) t).pen
  unfolding after
  down_rows t at zero h = rw (zero-mul (last + 1)) at
  down_rows t at (suc row) h =
      let wide : suc row * (last + 1) ≡ row * (last + 1) + suc last = omega arith in
      let u : Run = after s (row * (last + 1)) t in
      let end = along_row u row (down_rows t at row (omega arith)) last (omega arith) in
      rw (wide, after_add s (row * (last + 1)) (suc last) t, moved_on (after s last u) last row end)
      (next_row (after s last u).pen row (omega arith) end)

  pub at_position : (t : Run) → t.pen.drawing ≡ Block false 0 0 → t.pen.pointers ≡ p
      → (column row : ℕ) → column ≤ last → row ≤ s.travel.figure.dimensions.y → At s p column row (after s (row * (last + 1) + column) t).pen
  at_position t start e column row h v =
      rw (after_add s (row * (last + 1)) column t)
      (along_row (after s (row * (last + 1)) t) row (down_rows t (start_at t.pen start e) row v) column h)
