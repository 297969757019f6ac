-- `loads` is the test of an image of 115 bytes: mark, version, counters and validity, joined, which is what the rules ask.
use Rattle.std.proofs.Common.{rules}
use borrow.Author.Tests.{eq-eqb}
use Rattle.image.specs.Inner.{same_counters}
use Rattle.coprocessor.specs.Inner.{loads_by}
use Rattle.coprocessor.proofs.ImageRules.{loads_by_lem}
use Rattle.coprocessor.proofs.loads.loads.Goals as goal

pub returns : goal.returns
unfolding same_counters loads_by
returns c = rw (← loads_by_lem c.args.buffer.now, eq-eqb _ _ c.told-buffer) (search rules)
