-- `mask_of` is the mask pixel's column and row: each is the place from the mask's origin, as a column.
use native.Mathlib.Omega.{arith}
use Rattle.std.proofs.lemmas.Grind.{common_steps}
use Rattle.places.specs.Places.{mask_x, mask_y}
use Rattle.places.proofs.places.mask_of.Goals as goal

pub returns : goal.returns
unfolding mask_x mask_y
returns c = grind (arith, common_steps)
