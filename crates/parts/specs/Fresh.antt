-- The registers of a fresh state.
use Rattle.std.specs.Prelude.{ℕ, pos}
use Rattle.parts.specs.declared.shapes.Ink.{Ink}
use Rattle.parts.specs.declared.shapes.Point.{Point}
use Rattle.parts.specs.declared.shapes.Registers.{Registers}

-- 01, Registers: mix and colour of a fresh state
abbrev pub no_ink : Ink
no_ink = record { mix = 0; colour = 0 }

-- 01, Registers: dimensions, origin and pointers of a fresh state
abbrev pub no_point : Point ℕ
no_point = record { x = 0; y = 0 }

-- 01, Registers: all registers of a fresh state are zero
unfoldable pub fresh_registers : Registers
fresh_registers =
    record {
      index = 0;
      terms = record { e = pos 0; k1 = pos 0; k2 = pos 0 };
      colours = record { foreground = no_ink; background = no_ink; compare = record { condition = 0; value = 0 }; planes = 0; carries = 0 };
      figure = record { operations = 0; steps = 0; dimensions = no_point; origin = no_point };
      pointers = record { source = no_point; pattern = no_point; destination = record { x = pos 0; y = pos 0 } };
    }
