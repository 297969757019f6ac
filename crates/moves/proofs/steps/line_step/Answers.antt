-- `line_step` is the definition's choice, by the sign of E.
use Rattle.std.proofs.lemmas.Grind.{common_steps}
use native.Mathlib.Omega.{arith}
use borrow.Author.Rules.{rules}
use Rattle.moves.specs.Steps.{line_step}
use Rattle.moves.proofs.steps.line_step.Goals as goal

pub returns-then-e-lt0 : goal.returns-then-e-lt0
unfolding line_step
returns-then-e-lt0 c = search rules

pub returns-else-e-lt0 : goal.returns-else-e-lt0
unfolding line_step
returns-else-e-lt0 c = grind (arith, common_steps)
