-- `code_nulled` is the definition of a drawing by that code, at each drawing mode.
use native.Mathlib.Omega.{arith}
use Rattle.std.proofs.lemmas.Grind.{common_steps}
use Rattle.places.specs.Places.{is_first, is_last, on_boundary, nulled_by}
use Rattle.places.proofs.modes.code_nulled.Goals as goal

pub returns-in-AllPixels : goal.returns-in-AllPixels
unfolding is_first is_last on_boundary nulled_by
returns-in-AllPixels c = λ e count i same. grind (arith, common_steps)

pub returns-in-FirstNull : goal.returns-in-FirstNull
unfolding is_first is_last on_boundary nulled_by
returns-in-FirstNull c = λ e count i same. grind (arith, common_steps)

pub returns-in-LastNull : goal.returns-in-LastNull
unfolding is_first is_last on_boundary nulled_by
returns-in-LastNull c = λ e count i same. grind (arith, common_steps)

pub returns-in-AreaBoundary : goal.returns-in-AreaBoundary
unfolding is_first is_last on_boundary nulled_by
returns-in-AreaBoundary c = λ e count i same. grind (arith, common_steps)
