-- `all_set` tests a field of the bits: a mask of n ones leaves the n low ones.
use lib.Bits.{and_mask}
use Rattle.parts.proofs.registers.all_set.Goals as goal

pub returns : goal.returns
returns c = rw (c.ones-ones.ensures, and_mask)
