-- `store` lays the bytes: what is left to lay, laid on the buffer as it is, is always the whole laid on the buffer as it was.
use mathlib.Core.Path.{sym, ◌∙◌}
use native.Mathlib.Omega.{arith}
use lib.ListN.{length-set}
use Rattle.numbers.proofs.ByteLaws.{lay_next, lay_last}
use Rattle.numbers.proofs.bytes.store.Goals as goal

pub loop-i-preserved : goal.loop-i-preserved
loop-i-preserved c = (omega arith, simp length-set c.loop-i.invariant.1, lay_next _ _ _ _ _ c.loop-i-test.true ∙ c.loop-i.invariant.2)

pub returns : goal.returns
returns c = sym (lay_last _ _ _ _ _ c.loop-i-test.false) ∙ c.loop-i.invariant.2
