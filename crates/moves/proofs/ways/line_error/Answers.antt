-- `line_error` is the reduced sum with the term that E's sign chooses.
use Rattle.std.proofs.lemmas.Grind.{common_steps}
use native.Mathlib.Omega.{arith}
use Rattle.moves.specs.Moves.{line_error}
use Rattle.moves.proofs.ways.line_error.Goals as goal
use Rattle.moves.proofs.ways.line_error.Goals.{then-e-lt0, else-e-lt0}

pub returns : goal.returns
unfolding line_error
returns c = elim c.if-e-lt0.branch [ then-e-lt0 w ↦ grind (arith, common_steps) | else-e-lt0 w ↦ grind (arith, common_steps) ]
