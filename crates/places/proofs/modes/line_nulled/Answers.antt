-- `line_nulled` is the definition at each drawing mode.
use native.Mathlib.Omega.{arith}
use Rattle.std.proofs.lemmas.Grind.{common_steps}
use Rattle.places.specs.Places.{is_first, is_last, nulled_by}
use Rattle.places.proofs.modes.line_nulled.Goals as goal

pub returns-in-AllPixels : goal.returns-in-AllPixels
unfolding is_first is_last nulled_by
returns-in-AllPixels c = grind (arith, common_steps)

pub returns-in-FirstNull : goal.returns-in-FirstNull
unfolding is_first is_last nulled_by
returns-in-FirstNull c = grind (arith, common_steps)

pub returns-in-LastNull : goal.returns-in-LastNull
unfolding is_first is_last nulled_by
returns-in-LastNull c = grind (arith, common_steps)

pub returns-in-AreaBoundary : goal.returns-in-AreaBoundary
unfolding is_first is_last nulled_by
returns-in-AreaBoundary c = grind (arith, common_steps)
