-- Every refusal has a number above 0, and what is accepted has 0; so where a ladder of refusals is accepted, each of its tests was passed.
use Rattle.std.proofs.Common.{Result, Ok, Err}
use Rattle.std.specs.Result.{is_ok}
use mathlib.Core.Path.{◌≡◌, refl, sym, ◌∙◌}
use mathlib.Core.Bool.{Bool, true, false, not, false≢true}
use lib.Dec.{eqb}
use Rattle.numbers.specs.Choose.{choose}
use Rattle.parts.specs.declared.refusals.Refusal.{Refusal}
use Rattle.parts.specs.declared.refusals.Refusal.TheVariants.{Place, Unfinished, Unlisted, Function, Fields, Mixes, Formats, Ends, Size, Image}
use Rattle.parts.specs.Refusals.{number_of, refusal_number, is_accepted}

-- no refusal has the number 0
some_number : (refusal : Refusal) → eqb (number_of refusal) 0 ≡ false
some_number Place = refl
some_number Unfinished = refl
some_number Unlisted = refl
some_number Function = refl
some_number Fields = refl
some_number Mixes = refl
some_number Formats = refl
some_number Ends = refl
some_number Size = refl
some_number Image = refl

pub number_accepted : (outcome : Result Unit Refusal) → eqb (refusal_number outcome) 0 ≡ is_accepted outcome
number_accepted (Ok tt) = refl
number_accepted (Err refusal) = some_number refusal

-- a refusal that comes first is not there where the whole is accepted, and the rest is accepted
pub passed : (t : Bool) (first rest : Result Unit Refusal) → (t ≡ true → is_accepted first ≡ false) → is_accepted (choose t first rest) ≡ true
    → (t ≡ false) × (is_accepted rest ≡ true)
passed true first rest refused e = absurd (false≢true (sym (refused refl) ∙ e))
passed false first rest refused e = (refl, e)

-- an outcome is itself where it is refused, and Ok where it is not
pub refused_or_accepted : (outcome : Result Unit Refusal) → choose (not (is_accepted outcome)) outcome (Ok tt) ≡ outcome
refused_or_accepted (Ok tt) = refl
refused_or_accepted (Err refusal) = refl

-- what is accepted is Ok, as the code asks it
pub ok_accepted : (outcome : Result Unit Refusal) → is_ok outcome ≡ is_accepted outcome
ok_accepted (Ok tt) = refl
ok_accepted (Err refusal) = refl
