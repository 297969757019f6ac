-- `judge` is the fate, which the compare condition alone tells of a position that found its target.
use Rattle.position.specs.Fates.{is_compared}
use Rattle.position.proofs.judge.judge.Goals as goal

pub returns-then-is_compared : goal.returns-then-is_compared
unfolding is_compared
returns-then-is_compared c = λ memory pen aimed. rw (aimed.fate, ← aimed.pixel, ← c.is_compared.ensures, c.if-is_compared.true)

pub returns : goal.returns
unfolding is_compared
returns c = λ memory pen aimed. rw (aimed.fate, ← aimed.pixel, ← c.is_compared.ensures, c.if-is_compared.false)
