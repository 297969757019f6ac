-- `raise` is the definition.
use Rattle.std.proofs.Common.{arith, lit<, w32, to_z, of_z}
use mir.ValLaws.{to_z-of_z}
use Rattle.numbers.specs.Circles.{forth}
use Rattle.numbers.proofs.CircleLaws.{residue_lt}
use Rattle.runs.proofs.strokes.raise.Goals as goal

pub overflow_add-result : goal.overflow_add-result
overflow_add-result c = omega (arith, c.remainder.ensures, residue_lt 16384 (lit< tt) (to_z w32 (of_z w32 c.args.e)))

pub returns : goal.returns
unfolding forth
returns c = rw (c.remainder.ensures, to_z-of_z w32 c.args.e c.ranges.e)
