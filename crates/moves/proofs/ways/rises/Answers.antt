-- `rises` is the definition: the step of the line, asked where an area boundary is drawn.
use Rattle.std.proofs.lemmas.Grind.{common_steps}
use native.Mathlib.Omega.{arith}
use Rattle.moves.specs.Moves.{rises}
use Rattle.moves.proofs.ways.rises.Goals as goal

pub returns : goal.returns
unfolding rises
returns c = grind (arith, common_steps)
