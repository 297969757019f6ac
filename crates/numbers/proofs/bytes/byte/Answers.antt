-- `byte` is byte k of x: a shift by bytes is a division by a power of 256, and past the fourth x is below it.
use mathlib.Core.Path.{sym}
use borrow.Author.Rules.{rules}
use Rattle.numbers.specs.Bytes.{byte_of}
use Rattle.numbers.proofs.ByteLaws.{two_pow_eight, byte_beyond}
use Rattle.numbers.proofs.bytes.byte.Goals as goal

pub returns-then-k-lt4 : goal.returns-then-k-lt4
unfolding byte_of
returns-then-k-lt4 c = rw two_pow_eight

pub returns-else-k-lt4 : goal.returns-else-k-lt4
returns-else-k-lt4 c = sym (byte_beyond c.args.x c.args.k (search rules) c.if-k-lt4.false)
