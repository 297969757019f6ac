-- `latch_ink` is the mix and the colour after the write: each field is its register's.
use Rattle.parts.specs.Latches.{ink_latched}
use Rattle.parts.proofs.latches.latch_ink.Goals as goal

pub returns : goal.returns
unfolding ink_latched
returns c = λ i. record { mix = c.take_byte.ensures i; colour = c.take_word.ensures i }
