-- `shift_at` is the pixel's number, or that turned over, times its size, within a byte: the three low bits, which a shift in 32 bits keeps.
use mathlib.Core.Path.{ap, ◌∙◌}
use Prim.Native.Nat.{ℕ, ◌*◌, ◌%◌, ◌^◌}
use native.Mathlib.Omega.{arith}
use lib.Bits.{bit_xor, and_mask}
use lib.Pow.{mod-mod-pow}
use Rattle.pixels.specs.Maps.{bits_of}
use Rattle.pixels.proofs.Maps.{number_turned}
use Rattle.pixels.proofs.shift_at.Goals as goal

pub returns : goal.returns
unfolding bits_of
returns c =
    let a = c.args in
    and_mask _ 3
    ∙ mod-mod-pow (bit_xor a.n c.mirror.result * 2 ^ (a.format % 4)) 29 3
    ∙ ap (λ (t : ℕ). bit_xor a.n t * 2 ^ (a.format % 4) % 8) c.mirror.ensures
    ∙ number_turned a.format a.n (omega arith)
