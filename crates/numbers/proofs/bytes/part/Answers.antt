-- `part` is the asked bytes of x: a shift by bytes is a division by a power of 256.
use native.Mathlib.Omega.{arith}
use Rattle.numbers.specs.Bytes.{part_of}
use Rattle.numbers.proofs.ByteLaws.{two_pow_eight, one_shifted}
use Rattle.numbers.proofs.bytes.part.Goals as goal

pub returns : goal.returns
unfolding part_of
returns c = rw (one_shifted c.args.length (omega arith), two_pow_eight c.args.skip)
