-- `step_forth` is one step forth on the circle: inside it adds 1, and at the last it comes to 0.
use mathlib.Core.Path.{sym}
use native.Mathlib.Omega.{arith}
use Rattle.numbers.proofs.CircleLaws.{forth_inside, forth_last}
use Rattle.numbers.proofs.circles.step_forth.Goals as goal

pub returns-then-x-last : goal.returns-then-x-last
returns-then-x-last c = sym (forth_inside _ _ _ (omega arith))

pub returns-else-x-last : goal.returns-else-x-last
returns-else-x-last c = sym (forth_last _ _ _ (omega arith))
