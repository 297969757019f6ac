-- How the code asks it: what functions inside promise each other, proved to be the same as the rules; nothing here has to be believed.
use Rattle.std.specs.Prelude.{ℕ, Bool, not, ◌&&◌, List, eqb, length, Result, Ok, Err}
use Rattle.numbers.specs.Choose.{choose}
use Rattle.numbers.specs.Bytes.{covers}
use Rattle.numbers.specs.declared.bytes.Write.{Write}
use Rattle.parts.specs.declared.refusals.Refusal.{Refusal}
use Rattle.parts.specs.declared.refusals.Refusal.TheVariants.{Place, Unfinished, Unlisted, Function, Image}
use Rattle.parts.specs.Drawings.{unfinished}
use Rattle.parts.specs.Registers.{placed, listed}
use Rattle.rules.specs.Operations.{draws}
use Rattle.image.specs.Counters.{counters_of}
use Rattle.image.specs.Inner.{same_counters}
use Rattle.image.specs.Layout as layout
use Rattle.image.specs.Layout.{field_at, image_length}
use Rattle.image.specs.Read.{counters_from}
use Rattle.coprocessor.specs.declared.Coprocessor.{Coprocessor}
use Rattle.coprocessor.specs.declared.Written.{Written}
use Rattle.coprocessor.specs.Fresh.{fresh_of}
use Rattle.coprocessor.specs.Valid.{valid_of}
use Rattle.coprocessor.specs.Writes.{stored, started_refusal}
use Rattle.coprocessor.specs.Images.{loaded, loads}

-- the lowest of a write's refusals 1 to 8
unfoldable pub lower_refusal : Write → Coprocessor → Result Unit Refusal
lower_refusal w c =
    choose (not (placed w.offset w.length)) (Err Place)
    (choose (unfinished c.drawing) (Err Unfinished)
    (choose (not (listed w.length w.offset)) (Err Unlisted)
    (choose (covers w 0x7F && not (draws (stored w c).registers.figure.operations)) (Err Function)
    (started_refusal w (stored w c)))))

-- a read's refusals 1 and 3, which no record is asked for
unfoldable pub place_refusal : (offset length : ℕ) → Result Unit Refusal
place_refusal offset length =
    choose (not (placed offset length)) (Err Place) (choose (not (listed length offset)) (Err Unlisted) (Ok tt))

-- bytes load where mark and version hold, bytes 9 to 14 are the counters of the drawing that they make, and the record is valid
unfoldable pub loads_by : List ℕ → Bool
loads_by b =
    eqb (length b) image_length
    && eqb (field_at layout.mark b) layout.the_mark
    && eqb (field_at layout.version b) layout.the_version
    && same_counters (counters_from b) (counters_of (loaded b).drawing)
    && valid_of (loaded b)

-- whether bytes load, and the record that they make; a fresh one where they are too few or too many
unfoldable pub opened_of : List ℕ → Written
opened_of b =
    record { outcome = choose (loads b) (Ok tt) (Err Image); coprocessor = choose (eqb (length b) image_length) (loaded b) (fresh_of 1) }
