-- `touches` is the definition: its two tests are the two halves of `touched`.
use borrow.Author.Tests.{lt-ltb, le-ltb}
use Rattle.parts.specs.Takes.{touched}
use Rattle.parts.proofs.takes.touches.Goals as goal

pub returns-then-w-at : goal.returns-then-w-at
unfolding touched
returns-then-w-at c = simp (lt-ltb _ _ c.if-w-at.true)

pub returns-else-w-at : goal.returns-else-w-at
unfolding touched
returns-else-w-at c = simp (le-ltb _ _ c.if-w-at.false)
