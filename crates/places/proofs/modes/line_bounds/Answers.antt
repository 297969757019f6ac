-- `line_bounds` is the definition, by the line's step.
use native.Mathlib.Omega.{arith}
use Rattle.std.proofs.lemmas.Grind.{common_steps}
use Rattle.places.specs.Places.{is_last, on_boundary}
use Rattle.places.proofs.modes.line_bounds.Goals as goal

pub returns : goal.returns
unfolding is_last on_boundary
returns c = grind (arith, common_steps)
