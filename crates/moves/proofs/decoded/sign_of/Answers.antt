-- `sign_of` is the definition's choice, by the one test on the bit.
use borrow.Author.Rules.{rules}
use Rattle.std.proofs.lemmas.Grind.{common_steps}
use native.Mathlib.Omega.{arith}
use Rattle.moves.specs.Decoded.{sign_of}
use Rattle.moves.proofs.decoded.sign_of.Goals as goal

pub returns-then-bit-eq1 : goal.returns-then-bit-eq1
unfolding sign_of
returns-then-bit-eq1 c = search rules

pub returns-else-bit-eq1 : goal.returns-else-bit-eq1
unfolding sign_of
returns-else-bit-eq1 c = grind (arith, common_steps)
