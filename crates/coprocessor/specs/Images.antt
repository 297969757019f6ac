-- The state image: the record as 115 bytes, and the record that 115 bytes are.
use Rattle.std.specs.Prelude.{ℕ, Bool, not, ◌&&◌, ◌||◌, List, length, leb, eqb, Result, Ok, Err}
use Rattle.numbers.specs.Choose.{choose}
use Rattle.parts.specs.declared.refusals.Refusal.{Refusal}
use Rattle.parts.specs.declared.refusals.Refusal.TheVariants.{Image}
use Rattle.parts.specs.declared.shapes.Figure.{Figure}
use Rattle.parts.specs.declared.drawing.Drawing.TheVariants.{Line, Codes, Block}
use Rattle.parts.specs.Refusals.{is_accepted}
use Rattle.rules.specs.Operations.{is_line, is_codes}
use Rattle.rules.specs.Going.{counters_hold, pointers_hold}
use Rattle.image.specs.Counters.{drawing_of}
use Rattle.image.specs.Layout as layout
use Rattle.image.specs.Layout.{field_at, image_length}
use Rattle.image.specs.Fields.{laid, fields_of}
use Rattle.image.specs.Read.{counters_from, maps_from, registers_from}
use Rattle.coprocessor.specs.declared.Coprocessor.{Coprocessor}
use Rattle.coprocessor.specs.declared.Written.{Written}
use Rattle.coprocessor.specs.Fresh.{size_holds}
use Rattle.coprocessor.specs.Valid.{start_refusal_of, reduced_of, valid_of}

-- ---- the record as bytes, and the record that bytes are

-- 01, State image: the fields laid one after another, 115 bytes
unfoldable pub image_of : Coprocessor → List ℕ
image_of c = laid (fields_of c.size c.maps c.registers c.drawing)

-- 01, State image: each field from its place
unfoldable pub loaded : List ℕ → Coprocessor
loaded b =
    record {
      size = field_at layout.memory_size b;
      maps = maps_from b;
      registers = registers_from b;
      drawing = drawing_of (registers_from b).figure.operations (counters_from b);
    }

-- ---- which bytes load

-- 01, State image: 9 state
abbrev pub state_in : List ℕ → ℕ
state_in b = field_at layout.state b

-- 01, State image: bytes 10-14 are zero
unfoldable pub zero_counters : List ℕ → Bool
zero_counters b = eqb (field_at layout.done b) 0 && eqb (field_at layout.passed b) 0 && eqb (field_at layout.count b) 0

-- 01, State image: for a function that draws, a position remains at the counters, and counters not of that function are zero (12 too for a line);
-- 02, 102: state 3 is a line's or a fill's, by the rules of its bit
unfoldable pub remains : Figure → List ℕ → Bool
remains f b =
    choose (is_line f.operations)
    (counters_hold f (Line (eqb (state_in b) 3) (field_at layout.done b)) && eqb (field_at layout.passed b) 0 && eqb (field_at layout.count b) 0)
    (choose (is_codes f.operations)
    (counters_hold f (Codes (field_at layout.count b) (field_at layout.passed b) (field_at layout.done b)) && not (eqb (state_in b) 3))
    (counters_hold f (Block (eqb (state_in b) 3) (field_at layout.done b) (field_at layout.passed b)) && eqb (field_at layout.count b) 0))

-- 01, State image: accepted exactly when mark and version hold, the size is within its limit, the state is 0, 1, 2 or 3 (02, 102), and every
-- reduction holds; in states 1 and 3 the start rules hold, a position remains, and used pointers lie in their maps; in the others bytes 10-14 are
-- zero
unfoldable pub loads : List ℕ → Bool
loads b =
    eqb (length b) image_length
    && eqb (field_at layout.mark b) layout.the_mark
    && eqb (field_at layout.version b) layout.the_version
    && size_holds (loaded b).size
    && leb (state_in b) 3
    && reduced_of (loaded b)
    && choose (eqb (state_in b) 1 || eqb (state_in b) 3)
    (is_accepted (start_refusal_of (loaded b))
    && remains (loaded b).registers.figure b
    && pointers_hold (loaded b).registers.figure.operations (loaded b).maps (loaded b).registers.pointers)
    (zero_counters b)

-- ---- the answers

-- 01, refusal 10: a buffer not of 115 bytes, or a record that its own image would not load to
unfoldable pub saves : Coprocessor → List ℕ → Bool
saves c b = eqb (length b) image_length && valid_of c

-- 01, refusal 10
unfoldable pub save_refusal : Coprocessor → List ℕ → Result Unit Refusal
save_refusal c b = choose (saves c b) (Ok tt) (Err Image)

-- 01, Numbers a call answers with: a refused save keeps the buffer
unfoldable pub saved : Coprocessor → List ℕ → List ℕ
saved c b = choose (saves c b) (image_of c) b

-- 01, Numbers a call answers with: a refused load keeps the old state
unfoldable pub load_answer : Coprocessor → List ℕ → Written
load_answer c b =
    choose (loads b) (record { outcome = Ok tt; coprocessor = loaded b }) (record { outcome = Err Image; coprocessor = c })
