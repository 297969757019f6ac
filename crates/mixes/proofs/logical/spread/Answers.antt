-- `mixes::logical::spread` meets its contract, by the last bit.
use borrow.Author.Tests.{ne_eqb}
use Rattle.mixes.proofs.logical.spread.Goals as goal

pub returns-then-bits-eq1 : goal.returns-then-bits-eq1
returns-then-bits-eq1 c = rw c.if-bits-eq1.true

pub returns-else-bits-eq1 : goal.returns-else-bits-eq1
returns-else-bits-eq1 c = rw (ne_eqb _ 1 c.if-bits-eq1.false)
