-- `depth_of` is the definition: a number under all ones is its low bits.
use lib.Bits.{and_mask}
use Rattle.mixes.specs.Mixes.{depth_of}
use Rattle.mixes.proofs.depth_of.Goals as goal

pub returns : goal.returns
unfolding depth_of
returns c = rw (c.ones-ones.ensures, and_mask c.args.planes c.args.bits)
