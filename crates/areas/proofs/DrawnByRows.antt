-- Which positions a record's outline draws: the law of a boundary's rows, for the set-up that the registers make.
use mathlib.Core.Path.{◌≡◌, refl, sym, ap, ◌∙◌}
use mathlib.Core.Bool.{Bool, true, false, not, ◌||◌}
use Prim.Native.Nat.{ℕ, ◌%◌}
use lib.Dec.{eqb}
use borrow.Author.Tests.{eqb-true, eq-eqb}
use Rattle.numbers.proofs.Choices.{choose_false, choose_part}
use Rattle.parts.specs.Drawings.{unfinished}
use Rattle.rules.specs.Operations.{function_of, drawing_mode, is_fill, is_block, mode_of, octant_of}
use Rattle.parts.specs.declared.shapes.Point.{Point}
use Rattle.moves.specs.declared.Turn.{Turn}
use Rattle.moves.specs.Decoded.{straight_of, course_of, travel_of}
use Rattle.places.specs.Decoded.{flow_of, brush_of}
use Rattle.places.specs.Places.{named_mode, is_nulled}
use Rattle.coprocessor.specs.declared.Coprocessor.{Coprocessor}
use Rattle.coprocessor.specs.Valid.{valid_of}
use Rattle.coprocessor.specs.Runs.{setup_of, pen_of}
use Rattle.coprocessor.proofs.KnownRuns.{destination_on}
use Rattle.areas.specs.Crossings.{pen_after, crosses}
use Rattle.areas.specs.Outlines.{at_start}
use Rattle.areas.proofs.Reached.{Bounding}
use Rattle.areas.proofs.Boundary.{boundary_drawn}

-- what is a line or codes of a write form is neither of a read form, nor a block
pub record Writes (function : ℕ) : Type 0 where
  pub read : (eqb function 2 || eqb function 3) ≡ false
  pub block : (eqb function 8 || eqb function 9 || eqb function 10) ≡ false

pub writes : (function : ℕ) → (eqb function 4 || eqb function 5) ≡ true → Writes function
writes function e = by (eqb function 4) refl e
  where
    by : (four : Bool) → eqb function 4 ≡ four → (four || eqb function 5) ≡ true → Writes function
    by true f e = let same = eqb-true function 4 f in record { read = rw same; block = rw same }
    by false f e = let same = eqb-true function 5 e in record { read = rw same; block = rw same }

-- a record's straight step goes its way in Y where Y is major, and stays in its row otherwise
pub bounding : (c : Coprocessor) → mode_of c.registers.figure.operations ≡ 3 → Bounding (setup_of c).travel
unfolding setup_of travel_of course_of straight_of
bounding c mode =
    let octant = octant_of c.registers.figure.operations in
    record {
      bounds = eq-eqb _ 3 mode;
      steep = eqb (octant % 2) 1;
      straight = sym (choose_part (λ (s : Point Turn). s.y) (eqb (octant % 2) 1) _ _);
    }

-- 02, 102: a mode 11 line or code of a write form draws a position exactly if the one after it lies in the row below, or the one before it lay there
pub drawn_by_rows : (c : Coprocessor) → valid_of c ≡ true
    → (eqb (function_of c.registers.figure.operations) 4 || eqb (function_of c.registers.figure.operations) 5) ≡ true
    → drawing_mode c.registers.figure.operations ≡ 3
    → at_start c.drawing ≡ true
    → (n : ℕ) → unfinished (pen_after (setup_of c).travel n (pen_of c)).drawing ≡ true
    → is_nulled (setup_of c) (pen_after (setup_of c).travel n (pen_of c)) ≡ not (crosses (setup_of c).travel (pen_of c) n)
unfolding setup_of pen_of travel_of brush_of flow_of course_of mode_of is_block is_fill
drawn_by_rows c valid function mode start =
    let w = writes (function_of c.registers.figure.operations) function in
    let eleven : mode_of c.registers.figure.operations ≡ 3 = choose_false _ _ w.block ∙ mode in
    boundary_drawn (setup_of c) (pen_of c) (ap named_mode eleven) (bounding c eleven) w.read start (destination_on c valid).1
