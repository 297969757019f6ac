-- `bits_of` is 2 to the format's code: so small a shift of 1 loses nothing.
use native.Mathlib.Omega.{arith}
use Rattle.std.proofs.lemmas.Nat.{one_shl}
use Rattle.pixels.specs.Maps.{bits_of}
use Rattle.pixels.proofs.bits_of.Goals as goal

pub returns : goal.returns
unfolding bits_of
returns c = one_shl _ 32 (omega arith)
