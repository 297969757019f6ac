-- `replaced` is the byte with another field: the bits in which the old field and the new differ change.
use native.Mathlib.Nat.{mod-lt}
use native.Mathlib.Omega.{arith}
use lib.Bits.{and_mask, xor_lt}
use lib.Pow.{pow_pos, shl_exact}
use borrow.Author.Rules.{rules}
use Rattle.numbers.proofs.Fields.{field_lt, with_field_xor, with_field_lt}
use Rattle.pixels.proofs.replaced.Goals as goal

pub returns : goal.returns
returns c =
    let a = c.args.cell in
    rw (
      c.value.ensures,
      c.ones.ensures,
      and_mask c.args.new a.bits,
      shl_exact a.bits a.shift 32
          (xor_lt a.bits _ _ (field_lt a.shift a.bits a.byte) (mod-lt c.args.new (pow_pos a.bits)))
          (omega (arith, c.requires)),
    )
    (with_field_xor a.shift a.bits c.args.new a.byte)

pub overflow_cast-result-2 : goal.overflow_cast-result-2
overflow_cast-result-2 c =
    let a = c.args.cell in
    omega (arith, returns c, with_field_lt a.shift a.bits c.args.new a.byte 8 c.requires (search rules))
