-- The positions of the drawing that a record has in hand.
use Rattle.std.specs.Prelude.{ℕ}
use Rattle.rules.specs.Totals.{total_of, left_of}
use Rattle.coprocessor.specs.declared.Coprocessor.{Coprocessor}

-- 01, The functions: the positions of the drawing from its start
abbrev pub total_in : Coprocessor → ℕ
total_in c = total_of c.registers.figure c.drawing

-- 01, State image: those left at its counters
abbrev pub left_in : Coprocessor → ℕ
left_in c = left_of c.registers.figure c.drawing
