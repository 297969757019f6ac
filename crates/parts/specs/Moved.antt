-- What a drawing changes of the registers.
use Rattle.std.specs.Prelude.{ℤ}
use Rattle.parts.specs.declared.shapes.Pointers.{Pointers}
use Rattle.parts.specs.declared.shapes.Registers.{Registers}

-- 01, The functions: the registers with another E and other pointers
unfoldable pub with_moved : ℤ → Pointers → Registers → Registers
with_moved e pointers r =
    record {
      index = r.index;
      terms = record { e = e; k1 = r.terms.k1; k2 = r.terms.k2 };
      colours = r.colours;
      figure = r.figure;
      pointers = pointers;
    }
