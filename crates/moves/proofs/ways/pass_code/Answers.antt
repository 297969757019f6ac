-- `pass_code` is the definition's choice, by whether a code follows and whether it is 00.
use native.Mathlib.Omega.{arith}
use Rattle.std.proofs.lemmas.Grind.{common_steps}
use Rattle.moves.specs.Moves.{code_passed}
use Rattle.moves.proofs.ways.pass_code.Goals as goal

pub returns-then-stops : goal.returns-then-stops
unfolding code_passed
returns-then-stops c = grind (arith, common_steps)

pub returns-else-stops : goal.returns-else-stops
unfolding code_passed
returns-else-stops c = grind (arith, common_steps)

pub returns-else-code-count : goal.returns-else-code-count
unfolding code_passed
returns-else-code-count c = grind (arith, common_steps)
