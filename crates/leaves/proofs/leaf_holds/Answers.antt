-- `leaf_holds` is 1 exactly where the condition holds, and all ones for pixels of more than 8 bits: a cut plane mask asks as a whole one.
use mathlib.Core.Path.{◌≡◌, refl}
use mathlib.Core.Bool.{Bool, true, false}
use mir.Val.{bool_byte}
use borrow.Author.Tests.{le-leb}
use Rattle.numbers.specs.Choose.{choose}
use Rattle.mixes.specs.Mixes.{depth_of}
use Rattle.mixes.proofs.Depths.{depth_cut}
use Rattle.mixes.proofs.Order.{holds_planes}
use Rattle.leaves.proofs.leaf_holds.Goals as goal

numbered : (t : Bool) → bool_byte t ≡ choose t 1 0
numbered true = refl
numbered false = refl

pub holds-requires : goal.holds-requires
holds-requires c = rw c.depth_of.ensures (depth_cut _ _ c.if-bits-le8.true)

pub returns-then-bits-le8 : goal.returns-then-bits-le8
unfolding depth_of
returns-then-bits-le8 c =
    rw (le-leb _ _ c.if-bits-le8.true, c.holds.ensures, c.depth_of.ensures, holds_planes c.args.bits c.args.condition c.args.planes c.args.destination c.args.value)
    (numbered _)
