-- `flow_of` is the definition, field by field: each call gives its field, and the mode is below 4.
use native.Mathlib.Omega.{arith}
use Rattle.std.proofs.lemmas.Grind.{common_steps}
use Rattle.rules.proofs.ModeLaws.{mode_lt}
use Rattle.places.specs.Decoded.{flow_of}
use Rattle.places.proofs.decoded.flow_of.Goals as goal

pub overflow_cast-result : goal.overflow_cast-result
overflow_cast-result c = omega (arith, c.mode_of.ensures, mode_lt c.args.operations)

pub returns : goal.returns
unfolding flow_of
returns c = grind (arith, common_steps)
