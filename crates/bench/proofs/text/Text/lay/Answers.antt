-- `lay` puts more text after what waits.
use Rattle.console.proofs.TextLaws.{laid_after}
use Rattle.bench.proofs.text.Text.lay.Goals as goal
use Rattle.std.proofs.Common.{arith}

pub returns-clause-text : goal.returns-clause-text
returns-clause-text c = rw (c.put-self.ensures.0, c.put-self.ensures.1) (laid_after c.args.self.now.bytes c.args.more.now c.args.self.now.laid (omega (arith, c.requires, c.put-self.auto.out)))
