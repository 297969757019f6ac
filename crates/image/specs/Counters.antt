-- The drawing in hand, as bytes 9 to 14 of the image.
use Rattle.std.specs.Prelude.{ℕ, true, false, eqb}
use Rattle.numbers.specs.Choose.{choose}
use Rattle.parts.specs.declared.drawing.Drawing.{Drawing}
use Rattle.parts.specs.declared.drawing.Drawing.TheVariants.{Nothing, Line, Codes, Block}
use Rattle.rules.specs.Operations.{is_line, is_codes}
use Rattle.image.specs.declared.counters.Counters.{Counters}

-- 01, State image: 9 state (0 idle, 1 drawing, 2 idle after stop; 02, 102: 3 drawing and inside), 10 positions done in this row, line or code, 12
-- rows or codes done, 14 codes in the starting write; counters not of the function are zero
unfoldable pub counters_of : Drawing → Counters
counters_of (Nothing stopped) = record { state = choose stopped 2 0; done = 0; passed = 0; count = 0 }
counters_of (Line rose done) = record { state = choose rose 3 1; done = done; passed = 0; count = 0 }
counters_of (Codes count code done) = record { state = 1; done = done; passed = code; count = count }
counters_of (Block inside column row) = record { state = choose inside 3 1; done = column; passed = row; count = 0 }

-- 01, State image: the drawing that these counters are, by the stored function; a state other than 0, 2 and 3 is taken for 1
unfoldable pub drawing_of : ℕ → Counters → Drawing
drawing_of operations k =
    choose (eqb k.state 0) (Nothing false)
    (choose (eqb k.state 2) (Nothing true)
    (choose (is_line operations) (Line (eqb k.state 3) k.done)
    (choose (is_codes operations) (Codes k.count k.passed k.done)
    (Block (eqb k.state 3) k.done k.passed))))
