-- `code_way` leads to the definition's pen: below the code's last position by a step, at it to the next code.
use native.Mathlib.Omega.{arith}
use Rattle.std.proofs.lemmas.Grind.{common_steps}
use Rattle.moves.specs.Moves.{pen_gone, codes_moved}
use Rattle.moves.specs.Inner.{went_by}
use Rattle.moves.proofs.ways.code_way.Goals as goal

pub returns-then-done-steps_of : goal.returns-then-done-steps_of
unfolding went_by pen_gone codes_moved
returns-then-done-steps_of c = grind (arith, common_steps)

pub returns-else-done-steps_of : goal.returns-else-done-steps_of
unfolding went_by codes_moved
returns-else-done-steps_of c = grind (arith, common_steps)
