-- `travel_of` is the definition, field by field: each call gives its field.
use Rattle.std.proofs.lemmas.Grind.{common_steps}
use native.Mathlib.Omega.{arith}
use Rattle.moves.specs.Decoded.{travel_of}
use Rattle.moves.proofs.decoded.travel_of.Goals as goal

pub returns : goal.returns
unfolding travel_of
returns c = grind (arith, common_steps)
