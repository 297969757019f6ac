-- The refusals of a write are those of 1 to 8, and then 10 for a record that is not valid; and an accepted read or write is placed.
use Rattle.std.proofs.Common.{Result, Ok, Err}
use mathlib.Core.Path.{◌≡◌, refl}
use mathlib.Core.Bool.{Bool, true, false, not, ◌&&◌}
use Prim.Native.Nat.{ℕ}
use borrow.Author.Tests.{not-false}
use Rattle.numbers.specs.Choose.{choose}
use Rattle.numbers.specs.Bytes.{covers}
use Rattle.numbers.specs.declared.bytes.Write.{Write}
use Rattle.parts.specs.declared.refusals.Refusal.{Refusal}
use Rattle.parts.specs.declared.refusals.Refusal.TheVariants.{Place, Unfinished, Unlisted, Function, Image}
use Rattle.parts.specs.Refusals.{is_accepted}
use Rattle.parts.specs.Drawings.{unfinished}
use Rattle.parts.specs.Registers.{placed, listed}
use Rattle.parts.proofs.RefusalLaws.{passed, refused_or_accepted}
use Rattle.rules.specs.Operations.{draws}
use Rattle.coprocessor.specs.declared.Coprocessor.{Coprocessor}
use Rattle.coprocessor.specs.Valid.{valid_of}
use Rattle.coprocessor.specs.Reads.{read_refusal}
use Rattle.coprocessor.specs.Writes.{stored, started_refusal, write_refusal}
use Rattle.coprocessor.specs.Inner.{lower_refusal, place_refusal}

-- ---- lower refusals, and then 10

-- the first refusal of these, and otherwise 10 for a record that is not valid
abbrev pub then10 : Result Unit Refusal → Coprocessor → Result Unit Refusal
then10 lower c = choose (not (is_accepted lower)) lower (choose (not (valid_of c)) (Err Image) (Ok tt))

-- a refusal that comes first comes before 10 too
first_then10 : (t : Bool) (first lower : Result Unit Refusal) (c : Coprocessor) → is_accepted first ≡ false
    → choose t first (then10 lower c) ≡ then10 (choose t first lower) c
first_then10 true first lower c e = rw e
first_then10 false first lower c e = refl

pub write_then10 : (w : Write) (c : Coprocessor) → write_refusal w c ≡ then10 (lower_refusal w c) c
unfolding write_refusal lower_refusal
write_then10 w c =
    let s = started_refusal w (stored w c) in
    let function = covers w 0x7F && not (draws (stored w c).registers.figure.operations) in
    rw (
      first_then10 function (Err Function) s c refl,
      first_then10 (not (listed w.length w.offset)) (Err Unlisted) _ c refl,
      first_then10 (unfinished c.drawing) (Err Unfinished) _ c refl,
      first_then10 (not (placed w.offset w.length)) (Err Place) _ c refl,
    )

pub read_then10 : (c : Coprocessor) (offset length : ℕ) → read_refusal c offset length ≡ then10 (place_refusal offset length) c
unfolding read_refusal place_refusal
read_then10 c offset length =
    rw (first_then10 (not (listed length offset)) (Err Unlisted) (Ok tt) c refl, first_then10 (not (placed offset length)) (Err Place) _ c refl)

-- where the record is valid, 10 does not come
pub valid_then10 : (lower : Result Unit Refusal) (c : Coprocessor) → valid_of c ≡ true → then10 lower c ≡ lower
valid_then10 lower c v = rw v (refused_or_accepted lower)

-- ---- an accepted one is placed

pub write_placed : (w : Write) (c : Coprocessor) → is_accepted (write_refusal w c) ≡ true → placed w.offset w.length ≡ true
unfolding write_refusal
write_placed w c e = not-false _ (passed (not (placed w.offset w.length)) _ _ (λ t. refl) e).0

pub read_placed : (c : Coprocessor) (offset length : ℕ) → is_accepted (read_refusal c offset length) ≡ true → placed offset length ≡ true
unfolding read_refusal
read_placed c offset length e = not-false _ (passed (not (placed offset length)) _ _ (λ t. refl) e).0
