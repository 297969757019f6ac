-- `place_x` is the greater of the two.
use native.Mathlib.Omega.{arith}
use Rattle.std.proofs.lemmas.Grind.{common_steps}
use Rattle.places.specs.Places.{place_x}
use Rattle.places.proofs.places.place_x.Goals as goal

pub returns : goal.returns
unfolding place_x
returns c = grind (arith, common_steps)
