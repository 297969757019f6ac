-- The law of stretches: k positions of a row are k columns and k more done, and memory changed by each position's own rule, by induction on k.
use Rattle.std.proofs.Common.{◌≡◌, ℕ, zero, suc, ◌+◌, ◌-◌, ◌<◌, ◌≤◌, Bool, true, false, ◌&&◌, List, sym, refl, ap, ◌∙◌, add-one, arith}
use mathlib.Core.Bool.{false≢true}
use Rattle.parts.specs.declared.drawing.Drawing.{Drawing}
use Rattle.parts.specs.declared.drawing.Drawing.TheVariants.{Nothing, Line, Codes, Block}
use Rattle.parts.specs.Drawings.{unfinished, with_inside}
use Rattle.moves.specs.declared.Pen.{Pen}
use Rattle.moves.specs.Moves.{pen_with, moved}
use Rattle.moves.specs.Inner.{pointers_inside, columns_passed}
use Rattle.moves.proofs.CircledLaws.{OnCircle}
use Rattle.moves.proofs.BlockLaws.{to_column}
use Rattle.moves.proofs.ColumnLaws.{columns_more, columns_none}
use Rattle.places.specs.declared.Setup.{Setup}
use Rattle.position.specs.Drawn.{inside_at, crossed, drawn}
use Rattle.runs.specs.Runs.{Run, begun, positioned, stepped, after}
use Rattle.runs.specs.Inner.{drawing_on, columns_on, row_drawn}
use Rattle.runs.proofs.AfterLaws.{stepped_on}

-- ---- what a block has

abbrev pub column_in : Drawing → ℕ
column_in (Nothing stopped) = 0
column_in (Line rose done) = 0
column_in (Codes count code done) = 0
column_in (Block inside column row) = column

abbrev pub row_in : Drawing → ℕ
row_in (Nothing stopped) = 0
row_in (Line rose done) = 0
row_in (Codes count code done) = 0
row_in (Block inside column row) = row

-- ---- positions of one row

-- a test of two parts of which the first does not hold
pub and_no : (a b : Bool) → a ≡ false → (a && b) ≡ false
and_no true b e = absurd (false≢true (sym e))
and_no false b e = refl

module _ (s : Setup) (pen : Pen) (column row : ℕ) (drawing : pen.drawing ≡ Block false column row) (fills : s.brush.flow.fills ≡ false)
    (on : OnCircle pen.pointers.destination.x) (inside : pointers_inside s.travel pen ≡ true) where
  -- the pen at the k-th position
  abbrev at : ℕ → Pen
  at k = columns_on s.travel k pen

  at_drawing : (k : ℕ) → (at k).drawing ≡ Block false (column + k) row
  unfolding columns_passed
  at_drawing k = ap (drawing_on k) drawing

  at_first : at 0 ≡ pen
  at_first =
      ap (λ (d : Drawing). columns_passed s.travel 0 d pen) (none pen.drawing drawing)
      ∙ columns_none s.travel pen on inside
    where
      none : (d : Drawing) → d ≡ Block false column row → drawing_on 0 d ≡ d
      none d e = let same : column + 0 ≡ column = omega arith in ap (drawing_on 0) e ∙ ap (λ (c : ℕ). Block false c row) same ∙ sym e

  -- a block that is outside, and goes on so, goes on as it is
  at_kept : (k : ℕ) → pen_with (with_inside false (drawing_on k pen.drawing)) (at k) ≡ at k
  unfolding pen_with columns_passed with_inside
  at_kept k = λ j. pen_with ((ap (λ (d : Drawing). with_inside false (drawing_on k d)) drawing ∙ sym (ap (drawing_on k) drawing)) j) (at k)

  -- outside stays outside, since nothing is filled
  uncrossed : (memory : List ℕ) (k : ℕ) → crossed s memory (at k) ≡ at k
  unfolding crossed inside_at pen_with columns_passed with_inside
  uncrossed memory k =
      let out : inside_at s memory (at k) ≡ false = and_no s.brush.flow.fills _ fills in
      ap (λ (i : Bool). pen_with (with_inside i (at k).drawing) (at k)) out ∙ at_kept k

  -- one column further
  at_next : (k : ℕ) → column + k < s.travel.figure.dimensions.x → moved s.travel (at k) ≡ at (suc k)
  at_next k less =
      to_column s.travel (at k) (column + k) row false (at_drawing k) less
      ∙ columns_more s.travel pen on k _ _
      ∙ ap (λ (d : Drawing). columns_passed s.travel (suc k) d pen) (sym (further pen.drawing drawing))
    where
      further : (d : Drawing) → d ≡ Block false column row → drawing_on (suc k) d ≡ Block false (column + k + 1) row
      further d e = let same : column + suc k ≡ column + k + 1 = omega arith in ap (drawing_on (suc k)) e ∙ ap (λ (c : ℕ). Block false c row) same

  module _ (memory : List ℕ) where
    -- a run that has done the first k positions
    abbrev done : ℕ → Run
    done k = record { pen = at k; memory = row_drawn s k memory pen; done = k }

    going : (k : ℕ) → unfinished (at k).drawing ≡ true
    going k = ap unfinished (at_drawing k)

    stretch_within : (k : ℕ) → column + k ≤ s.travel.figure.dimensions.x → after s k (begun pen memory) ≡ done k
    unfolding after begun positioned row_drawn
    stretch_within zero h = λ i. record { pen = sym at_first i; memory = memory; done = 0 }
    stretch_within (suc k) h =
        let before = stretch_within k (omega arith) in
        let M = row_drawn s k memory pen in
        ap (stepped s) before
        ∙ stepped_on s (done k) (going k)
        ∙ (λ i. record {
          pen = (ap (moved s.travel) (uncrossed M k) ∙ at_next k (omega arith)) i;
          memory = drawn s M (at k);
          done = add-one k i;
        })

    -- the last of them may end the row
    pub stretch_after : (k : ℕ) → k ≤ s.travel.figure.dimensions.x - column
        → after s (suc k) (begun pen memory)
        ≡ record { pen = moved s.travel (columns_on s.travel k pen); memory = row_drawn s (suc k) memory pen; done = suc k }
    unfolding after begun positioned row_drawn
    stretch_after k h =
        let M = row_drawn s k memory pen in
        ap (stepped s) (first k h)
        ∙ stepped_on s (done k) (going k)
        ∙ (λ i. record { pen = ap (moved s.travel) (uncrossed M k) i; memory = drawn s M (at k); done = add-one k i })
      where
        first : (k : ℕ) → k ≤ s.travel.figure.dimensions.x - column → after s k (begun pen memory) ≡ done k
        first zero h = λ i. record { pen = sym at_first i; memory = memory; done = 0 }
        first (suc k) h = stretch_within (suc k) (omega arith)
