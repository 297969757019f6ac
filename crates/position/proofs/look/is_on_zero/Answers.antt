-- `is_on_zero` is the definition: where the mask is enabled its pixel decides, and otherwise it is not asked.
use native.Mathlib.Omega.{arith}
use Rattle.std.proofs.lemmas.Grind.{common_steps}
use Rattle.position.specs.Fates.{on_zero}
use Rattle.position.proofs.look.is_on_zero.Goals as goal

pub returns-then-ne : goal.returns-then-ne
unfolding on_zero
returns-then-ne c = grind (arith, common_steps)

pub returns : goal.returns
unfolding on_zero
returns c = grind (arith, common_steps)
