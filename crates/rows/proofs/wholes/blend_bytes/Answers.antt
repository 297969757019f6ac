-- `rows::wholes::blend_bytes` is the blend, by the operations of bytes.
use Rattle.std.proofs.Common.{rules}
use lib.Bits.{bit_and, bit_xor}
use Rattle.rows.proofs.wholes.blend_bytes.Goals as goal

pub returns : goal.returns
returns c = c.of.ensures bit_and bit_xor (λ a b r given. search rules) (λ a b r given. search rules)
