-- `latch_point` is the two numbers after the write: each field is its register's.
use Rattle.parts.specs.Latches.{point_latched}
use Rattle.parts.proofs.latches.latch_point.Goals as goal

pub returns : goal.returns
unfolding point_latched
returns c = λ i. record { x = c.take_twelve_bits.ensures i; y = c.take_twelve_bits-2.ensures i }
