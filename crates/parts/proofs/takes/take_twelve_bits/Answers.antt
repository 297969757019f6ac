-- `take_twelve_bits` is the register after the write: the low bits of what `take` hands on.
use Rattle.parts.specs.Takes.{taken}
use Rattle.parts.proofs.TakeLaws.{taken_by}
use Rattle.parts.proofs.takes.take_twelve_bits.Goals as goal

pub returns : goal.returns
unfolding taken
returns c = taken_by _ _ _ _ _ _ _ c.take.ensures c.map_or.ensures (λ q. q)
