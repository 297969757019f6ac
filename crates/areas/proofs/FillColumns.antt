-- The rows of a fill from its corner down: each row starts outside with the pattern's own row, so a position is told by its column and row alone.
use mathlib.Core.Path.{◌≡◌, refl, ap, ap₂, ◌∙◌}
use mathlib.Core.Bool.{true, false}
use mathlib.Core.List.{List}
use Prim.Native.Nat.{ℕ, zero, suc, ◌+◌, ◌*◌, ◌≤◌, ◌<◌, zero-le}
use native.Mathlib.Nat.{zero-mul}
use native.Mathlib.Numerals.{add-one}
use native.Mathlib.Omega.{arith}
use lib.Dec.{eqb}
use borrow.Author.Tests.{le-leb}
use Rattle.numbers.specs.Choose.{choose}
use Rattle.numbers.proofs.Choices.{and_both}
use Rattle.numbers.proofs.CircleLaws.{forth_inside}
use Rattle.pixels.specs.declared.Map.{Map}
use Rattle.pixels.specs.Pixels.{pixel_at}
use Rattle.parts.specs.declared.shapes.Point.{Point}
use Rattle.parts.specs.declared.drawing.Drawing.TheVariants.{Block}
use Rattle.rules.specs.Maps.{is_inside}
use Rattle.moves.specs.declared.Turn.{Turn}
use Rattle.moves.specs.declared.Turn.TheVariants.{Forth}
use Rattle.places.specs.declared.Setup.{Setup}
use Rattle.moves.specs.Turns.{turned_by}
use Rattle.moves.proofs.TurnLaws.{forth_lt}
use Rattle.position.specs.Drawn.{is_foreground}
use Rattle.runs.specs.Runs.{Run, after}
use Rattle.runs.proofs.AfterLaws.{after_add}
use Rattle.areas.specs.Fills.{is_odd, ones_from}
use Rattle.areas.proofs.FillRows.{ground, Fills, pattern_after, foreground_at, row_after_lem}

-- the same pixels have the same 1s
ones_same : (m m' : List ℕ) (map : Map) (p : Point ℕ) → ((x : ℕ) → x ≤ map.width → pixel_at m map x p.y ≡ pixel_at m' map x p.y)
    → (n : ℕ) → ones_from m map p n ≡ ones_from m' map p n
unfolding ones_from
ones_same m m' map p same zero = refl
ones_same m m' map p same (suc n) =
    ap₂ (λ a b. a + choose (eqb b 0) 0 1) (ones_same m m' map p same n)
    (same _ (omega (arith, forth_lt (map.width + 1) n p.x (omega arith))))

-- a run at the start of a row, from the corner down
record AtRow (row : ℕ) (u : Run) : Type 0 where
  drawing : u.pen.drawing ≡ Block false 0 row
  pattern : u.pen.pointers.pattern ≡ record { x = 0; y = row }

module _ (s : Setup) (f : Fills s) (down : s.travel.course.y ≡ Forth) (t : Run) (start : t.pen.drawing ≡ Block false 0 0)
    (corner : t.pen.pointers.pattern ≡ record { x = 0; y = 0 }) where
  row_inside : (row : ℕ) (p : Point ℕ) → row ≤ (ground s).height → p ≡ record { x = 0; y = row } → is_inside (ground s) p ≡ true
  unfolding is_inside
  row_inside row p h e = rw e (and_both _ _ (le-leb 0 (ground s).width zero-le) (le-leb row (ground s).height h))

  next_row : (row : ℕ) (u : Run) → row < s.travel.figure.dimensions.y → row < (ground s).height → AtRow row u
      → AtRow (suc row) (after s (suc s.travel.figure.dimensions.x) u)
  unfolding turned_by
  next_row row u another within at =
      let passed = row_after_lem s f u row at.drawing (row_inside row u.pen.pointers.pattern (omega arith) at.pattern) another in
      let step : turned_by s.travel.course.y 1 (ground s).height u.pen.pointers.pattern.y ≡ suc row =
      ap₂ (λ (turn : Turn) (y : ℕ). turned_by turn 1 (ground s).height y) down (ap (λ (p : Point ℕ). p.y) at.pattern)
      ∙ forth_inside ((ground s).height + 1) 1 row (omega arith)
      ∙ add-one row in
      record {
        drawing = passed.0 ∙ ap (λ (k : ℕ). Block false 0 k) (add-one row);
        pattern = passed.1 ∙ (λ i. record { x = (at.pattern i).x; y = step i });
      }

  at_row : (row : ℕ) → row ≤ s.travel.figure.dimensions.y → row ≤ (ground s).height → AtRow row (after s (row * (s.travel.figure.dimensions.x + 1)) t)
  unfolding after
  at_row zero h v = rw (zero-mul (s.travel.figure.dimensions.x + 1)) (record { drawing = start; pattern = corner })
  at_row (suc row) h v =
      let wide : suc row * (s.travel.figure.dimensions.x + 1)
      ≡ row * (s.travel.figure.dimensions.x + 1) + suc s.travel.figure.dimensions.x = omega arith in
      rw (wide, after_add s (row * (s.travel.figure.dimensions.x + 1)) (suc s.travel.figure.dimensions.x) t)
      (next_row row (after s (row * (s.travel.figure.dimensions.x + 1)) t) (omega arith) (omega arith) (at_row row (omega arith) (omega arith)))

  -- 003, Area Fill: the foreground at a column and row, by the 1s of that row of the pattern
  pub foreground_there : (x y : ℕ) → x ≤ s.travel.figure.dimensions.x → y ≤ s.travel.figure.dimensions.y → y ≤ (ground s).height
      → is_foreground s (after s (y * (s.travel.figure.dimensions.x + 1) + x) t).memory (after s (y * (s.travel.figure.dimensions.x + 1) + x) t).pen
      ≡ is_odd (ones_from t.memory (ground s) (record { x = 0; y = y }) (suc x))
  foreground_there x y across h v =
      let before : ℕ = y * (s.travel.figure.dimensions.x + 1) in
      let u : Run = after s before t in
      let at = at_row y h v in
      rw (after_add s before x t)
      (foreground_at s f u y at.drawing (row_inside y u.pen.pointers.pattern v at.pattern) x across
      ∙ ap (λ (p : Point ℕ). is_odd (ones_from u.memory (ground s) p (suc x))) at.pattern
      ∙ ap is_odd
      (ones_same u.memory t.memory (ground s) (record { x = 0; y = y }) (λ column inside. pattern_after s f before t column y inside v) (suc x)))
