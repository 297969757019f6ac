-- `rows::sweeps::span` is the largest number of so many bits, shifted.
use Rattle.std.proofs.Common.{◌≡◌, ℕ, ◌+◌, ◌-◌, ◌*◌, ◌%◌, ◌^◌, ◌<◌, ◌≤◌, sym, arith, pow_pos, pow_mono, shl_lt, shl_exact}
use lib.Pow.{ones_lt, high_ones}
use Rattle.rows.proofs.sweeps.span.Goals as goal

up : (bits shift : ℕ) → shift + bits ≤ 8 → (2 ^ bits - 1) * 2 ^ shift % 2 ^ 32 ≡ (2 ^ bits - 1) * 2 ^ shift
up bits shift h = shl_exact bits shift 32 (ones_lt bits) (omega arith)

within : (bits shift : ℕ) → shift + bits ≤ 8 → (2 ^ bits - 1) * 2 ^ shift < 2 ^ 8
within bits shift h =
    let both : bits + shift ≤ 8 = omega arith in
    let few : 2 ^ (bits + shift) ≤ 2 ^ 8 = pow_mono both in
    omega (arith, shl_lt bits shift (ones_lt bits))

pub overflow_cast-result : goal.overflow_cast-result
overflow_cast-result c = let a = c.args in rw (c.ones.ensures, up a.bits a.shift c.requires) (omega (arith, within a.bits a.shift c.requires))

pub returns : goal.returns
returns c = let a = c.args in rw (c.ones.ensures, up a.bits a.shift c.requires) (sym (high_ones c.args.bits c.args.shift))
