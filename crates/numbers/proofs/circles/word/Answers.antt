-- `word` is the remainder: the machine's own form of the number.
use mathlib.Core.Path.{sym}
use mir.Syntax.{w32}
use mir.ValLaws.{to_z-of_z}
use Rattle.numbers.proofs.SignedBytes.{residue_bits}
use Rattle.numbers.proofs.circles.word.Goals as goal

pub returns : goal.returns
returns c = rw (c.cast_unsigned.ensures, to_z-of_z w32 c.args.z c.ranges.z) (sym (residue_bits w32 c.args.z c.ranges.z))
