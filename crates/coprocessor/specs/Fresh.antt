-- A fresh state.
use Rattle.std.specs.Prelude.{ℕ, Bool, false, ◌&&◌, [], ◌∷◌, leb, Ok, Err}
use Rattle.numbers.specs.Choose.{choose}
use Rattle.parts.specs.declared.drawing.Drawing.TheVariants.{Nothing}
use Rattle.parts.specs.declared.refusals.Refusal.TheVariants.{Size}
use Rattle.parts.specs.Fresh.{fresh_registers}
use Rattle.rules.specs.Maps.{fresh_map}
use Rattle.coprocessor.specs.declared.Coprocessor.{Coprocessor}
use Rattle.coprocessor.specs.declared.Written.{Written}

-- 01, What the board draws: a memory of 1 to 1,048,576 bytes
unfoldable pub size_holds : ℕ → Bool
size_holds size = leb 1 size && leb size 1048576

-- 01, Registers: all registers of a fresh state are zero; it is idle and not stopped
unfoldable pub fresh_of : ℕ → Coprocessor
fresh_of size =
    record {
      size = size;
      maps = fresh_map ∷ fresh_map ∷ fresh_map ∷ fresh_map ∷ [];
      registers = fresh_registers;
      drawing = Nothing false;
    }

-- 01, Numbers a call answers with: a refused fresh state is a fresh one of size 1
unfoldable pub fresh_answer : ℕ → Written
fresh_answer size =
    choose (size_holds size) (record { outcome = Ok tt; coprocessor = fresh_of size })
    (record { outcome = Err Size; coprocessor = fresh_of 1 })
