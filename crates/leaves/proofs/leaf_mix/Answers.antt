-- `leaf_mix` is the mix for pixels of up to 8 bits, and all ones for wider ones: the test is the definition's, and a cut plane mask mixes as a whole one.
use borrow.Author.Tests.{le-leb}
use Rattle.mixes.specs.Mixes.{depth_of}
use Rattle.mixes.proofs.Mixed.{mixed_planes}
use Rattle.mixes.proofs.Depths.{depth_cut}
use Rattle.leaves.proofs.leaf_mix.Goals as goal

pub mix-requires : goal.mix-requires
mix-requires c = rw c.depth_of.ensures (depth_cut _ _ c.if-bits-le8.true)

pub returns-then-bits-le8 : goal.returns-then-bits-le8
unfolding depth_of
returns-then-bits-le8 c = rw (le-leb _ _ c.if-bits-le8.true, c.mix.ensures, c.depth_of.ensures) (mixed_planes _ _ _ _ _)
