-- A signed field of a record is read as it was stored, since the machine's number and the whole number give each other back.
use mathlib.Core.Path.{◌≡◌, ap, ◌∙◌}
use lib.IntN.{ℤ}
use mir.Syntax.{Width}
use mir.Val.{SFits, of_z, to_z}
use mir.ValLaws.{to_z-of_z}

-- what a function answers for a field of one record, as a field of another
pub field_answer : (w : Width) (f : ℤ → ℤ) (z r : ℤ) → SFits w z → SFits w r → r ≡ f (to_z w (of_z w z)) → to_z w (of_z w r) ≡ f z
field_answer w f z r fz fr e = to_z-of_z w r fr ∙ e ∙ ap f (to_z-of_z w z fz)
