-- `value` is a field of the byte: a mask of n bits leaves the n low ones.
use lib.Bits.{and_mask}
use Rattle.numbers.specs.Fields.{field}
use Rattle.pixels.proofs.value.Goals as goal

pub returns : goal.returns
unfolding field
returns c = rw (c.ones.ensures, and_mask)
