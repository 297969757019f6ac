-- `latch_compare` is the condition and the value after the write: each field is its register's.
use Rattle.parts.specs.Latches.{compare_latched}
use Rattle.parts.proofs.latches.latch_compare.Goals as goal

pub returns : goal.returns
unfolding compare_latched
returns c = λ i. record { condition = c.take_bits.ensures i; value = c.take_word.ensures i }
