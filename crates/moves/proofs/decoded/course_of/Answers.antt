-- `course_of` is the definition, field by field: each call gives its field.
use Rattle.std.proofs.lemmas.Grind.{common_steps}
use native.Mathlib.Omega.{arith}
use Rattle.moves.specs.Decoded.{course_of}
use Rattle.moves.proofs.decoded.course_of.Goals as goal

pub returns : goal.returns
unfolding course_of
returns c = grind (arith, common_steps)
