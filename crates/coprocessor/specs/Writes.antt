-- What a register write leaves, and its answer.
use Rattle.std.specs.Prelude.{ℕ, ◌%◌, Bool, not, ◌&&◌, ◌||◌, set, Result, Ok, Err}
use Rattle.numbers.specs.Choose.{choose}
use Rattle.numbers.specs.Bytes.{covers}
use Rattle.numbers.specs.declared.bytes.Write.{Write}
use Rattle.parts.specs.declared.refusals.Refusal.{Refusal}
use Rattle.parts.specs.declared.refusals.Refusal.TheVariants.{Place, Unfinished, Unlisted, Function, Image}
use Rattle.parts.specs.Refusals.{is_accepted}
use Rattle.parts.specs.Drawings.{unfinished}
use Rattle.parts.specs.Registers.{placed, listed}
use Rattle.parts.specs.Latches.{map_latched, registers_latched}
use Rattle.parts.specs.Moved.{with_moved}
use Rattle.rules.specs.Operations.{is_line, is_codes, is_block, draws}
use Rattle.rules.specs.Maps.{map_at}
use Rattle.rules.specs.Starts.{pointers_started, drawing_started}
use Rattle.coprocessor.specs.declared.Coprocessor.{Coprocessor}
use Rattle.coprocessor.specs.declared.Written.{Written}
use Rattle.coprocessor.specs.Valid.{start_refusal_of, valid_of}

-- 01, Registers: each register takes the bytes that the write covers, then is reduced; 14 to 1C are those of the selected map
unfoldable pub stored : Write → Coprocessor → Coprocessor
stored w c =
    record {
      size = c.size;
      maps = set c.maps (c.registers.index % 4) (map_latched w (map_at c.maps c.registers.index));
      registers = registers_latched w c.registers;
      drawing = c.drawing;
    }

-- 01, Registers: a write covering 7F starts the stored function, except draw and step; one covering 2F starts draw and step if that is stored
unfoldable pub starts_by : Write → Coprocessor → Bool
starts_by w c =
    (covers w 0x7F && (is_line c.registers.figure.operations || is_block c.registers.figure.operations))
    || (covers w 0x2F && is_codes c.registers.figure.operations)

-- 01, Maps and pointers: used pointers are turned into their maps; 01, Registers: the drawing in hand, by as many codes as the write has bytes
unfoldable pub started : ℕ → Coprocessor → Coprocessor
started length c =
    record {
      size = c.size;
      maps = c.maps;
      registers =
          with_moved c.registers.terms.e (pointers_started c.registers.figure.operations c.maps c.registers.pointers) c.registers;
      drawing = drawing_started c.registers.figure length;
    }

-- 01, Numbers a call answers with: 5 to 8 are asked at a start only, of the registers after the write
unfoldable pub started_refusal : Write → Coprocessor → Result Unit Refusal
started_refusal w c = choose (starts_by w c) (start_refusal_of c) (Ok tt)

-- 01, Numbers a call answers with: the lowest of 1, 2, 3 and 4, of 5 to 8 at a start, and of 10
unfoldable pub write_refusal : Write → Coprocessor → Result Unit Refusal
write_refusal w c =
    choose (not (placed w.offset w.length)) (Err Place)
    (choose (unfinished c.drawing) (Err Unfinished)
    (choose (not (listed w.length w.offset)) (Err Unlisted)
    (choose (covers w 0x7F && not (draws (stored w c).registers.figure.operations)) (Err Function)
    (choose (not (is_accepted (started_refusal w (stored w c)))) (started_refusal w (stored w c))
    (choose (not (valid_of c)) (Err Image)
    (Ok tt))))))

-- 01, Registers: the record that an accepted write leaves, from the one with its registers stored
unfoldable pub settled_by : Write → Coprocessor → Coprocessor
settled_by w c = choose (starts_by w c) (started w.length c) c

-- 01, Numbers a call answers with: a refused write stores nothing, not even the register
unfoldable pub write_answer : Write → Coprocessor → Written
write_answer w c =
    record {
      outcome = write_refusal w c;
      coprocessor = choose (is_accepted (write_refusal w c)) (settled_by w (stored w c)) c;
    }
