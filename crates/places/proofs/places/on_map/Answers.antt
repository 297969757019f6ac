-- `on_map` is the definition: both places from the origin 0, which are the destination's, lie within.
use native.Mathlib.Omega.{arith}
use Rattle.std.proofs.lemmas.Grind.{common_steps}
use Rattle.places.specs.Places.{on_map}
use Rattle.places.proofs.places.on_map.Goals as goal

pub returns : goal.returns
unfolding on_map
returns c = grind (arith, common_steps)
