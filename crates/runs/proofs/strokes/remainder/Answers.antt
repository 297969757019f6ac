-- `remainder` is that of the machine's number.
use Rattle.std.proofs.Common.{lit<, w32}
use mir.ValLaws.{to_z-of_z}
use Rattle.numbers.proofs.CircleLaws.{residue_mod}
use Rattle.runs.proofs.strokes.remainder.Goals as goal

pub returns : goal.returns
returns c = rw (c.word.ensures, to_z-of_z w32 c.args.k c.ranges.k) (residue_mod 16384 (lit< tt) 262144 (lit< tt) c.args.k)
