-- `line_way` leads to the definition's pen: below the last position by a step, at it with no step.
use native.Mathlib.Omega.{arith}
use Rattle.std.proofs.lemmas.Grind.{common_steps}
use Rattle.moves.specs.Moves.{pen_gone, line_moved}
use Rattle.moves.specs.Inner.{went_by}
use Rattle.moves.proofs.ways.line_way.Goals as goal

pub returns-then-done-travel : goal.returns-then-done-travel
unfolding went_by pen_gone line_moved
returns-then-done-travel c = grind (arith, common_steps)

pub returns-else-done-travel : goal.returns-else-done-travel
unfolding went_by line_moved
returns-else-done-travel c = grind (arith, common_steps)
