-- `straight_of` is the definition's choice, by the major axis.
use Rattle.moves.specs.Decoded.{straight_of}
use native.Mathlib.Omega.{arith}
use Rattle.std.proofs.lemmas.Grind.{common_steps}
use Rattle.moves.proofs.decoded.straight_of.Goals as goal

pub returns-then-octant-eq1 : goal.returns-then-octant-eq1
unfolding straight_of
returns-then-octant-eq1 c = grind (arith, common_steps)

pub returns-else-octant-eq1 : goal.returns-else-octant-eq1
unfolding straight_of
returns-else-octant-eq1 c = grind (arith, common_steps)
