-- `steps_back` is that many steps back: the definition itself, below the map's size.
use Rattle.numbers.specs.Circles.{forth, back}
use borrow.Author.Rules.{rules}
use Rattle.numbers.proofs.circles.steps_back.Goals as goal

pub returns : goal.returns
unfolding forth back
returns c = search rules
