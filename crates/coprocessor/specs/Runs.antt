-- A run: the drawing in hand goes on by an allowance of positions.
use Rattle.std.specs.Prelude.{ℕ, ◌+◌, ◌*◌, not, List, length, eqb, Result, Ok, Err}
use Rattle.numbers.specs.Choose.{choose}
use Rattle.parts.specs.declared.refusals.Refusal.{Refusal}
use Rattle.parts.specs.declared.refusals.Refusal.TheVariants.{Size, Image}
use Rattle.parts.specs.Refusals.{is_accepted}
use Rattle.parts.specs.Moved.{with_moved}
use Rattle.rules.specs.Totals.{total_of}
use Rattle.moves.specs.declared.Pen.{Pen}
use Rattle.moves.specs.Decoded.{travel_of}
use Rattle.places.specs.declared.Setup.{Setup}
use Rattle.places.specs.Decoded.{brush_of}
use Rattle.runs.specs.Runs.{Run, begun, after}
use Rattle.coprocessor.specs.declared.Coprocessor.{Coprocessor}
use Rattle.coprocessor.specs.declared.Drawn.{Drawn}
use Rattle.coprocessor.specs.Valid.{valid_of}

-- docs/DECISIONS.md, 25: what the drawing does not change: what its moves need, and what a position needs beside
unfoldable pub setup_of : Coprocessor → Setup
setup_of c =
    record {
      travel = travel_of c.registers.figure c.maps c.registers.terms;
      brush = brush_of c.registers.figure c.maps c.registers.colours;
    }

-- docs/DECISIONS.md, 25: what it changes
unfoldable pub pen_of : Coprocessor → Pen
pen_of c = record { pointers = c.registers.pointers; e = c.registers.terms.e; drawing = c.drawing }

-- docs/DECISIONS.md, 25: the record with what the drawing changed
unfoldable pub with_pen : Coprocessor → Pen → Coprocessor
with_pen c pen =
    record {
      size = c.size;
      maps = c.maps;
      registers = with_moved pen.e pen.pointers c.registers;
      drawing = pen.drawing;
    }

-- 01, The functions: a run of n positions, or as many as there are
unfoldable pub ran_of : Coprocessor → List ℕ → ℕ → Run
ran_of c memory n = after (setup_of c) n (begun (pen_of c) memory)

-- 01, The functions: all positions of a drawing
abbrev pub whole_of : Coprocessor → ℕ
whole_of c = total_of c.registers.figure c.drawing

-- 01, The functions, PxBlt: how many positions of a block come before the one at this column and row
abbrev pub position_at : Coprocessor → ℕ → ℕ → ℕ
position_at c column row = row * (c.registers.figure.dimensions.x + 1) + column

-- 01, Numbers a call answers with: 9 for another length than the state's, then 10
unfoldable pub run_refusal : Coprocessor → List ℕ → Result Unit Refusal
run_refusal c memory = choose (not (eqb (length memory) c.size)) (Err Size) (choose (not (valid_of c)) (Err Image) (Ok tt))

-- 01, Numbers a call answers with: a refused run does 0 positions
unfoldable pub run_answer : Coprocessor → List ℕ → ℕ → Drawn
run_answer c memory n =
    record {
      outcome = run_refusal c memory;
      done = choose (is_accepted (run_refusal c memory)) (ran_of c memory n).done 0;
      coprocessor = choose (is_accepted (run_refusal c memory)) (with_pen c (ran_of c memory n).pen) c;
    }

-- 01, Numbers a call answers with: the memory after it; a refused run leaves it
unfoldable pub run_memory : Coprocessor → List ℕ → ℕ → List ℕ
run_memory c memory n = choose (is_accepted (run_refusal c memory)) (ran_of c memory n).memory memory
