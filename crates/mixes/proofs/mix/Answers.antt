-- `mixes::mix` meets its contract: a logical mix is its blend, and any other is merged under the plane mask on the pixel's low bits, which are all that counts.
use mathlib.Core.Path.{◌≡◌, ◌∙◌, sym, ap}
use Prim.Native.Nat.{◌%◌, ◌^◌, ◌<◌}
use lib.Bits.{bit_and, and_mask, mask_lt}
use Rattle.mixes.specs.Mixes.{merged}
use Rattle.mixes.proofs.ArithmeticMixes.{arithmetic_lt}
use Rattle.mixes.proofs.Mixed.{merged_pixel, mixed_arithmetic}
use Rattle.mixes.proofs.mix.Goals as goal
use Rattle.mixes.proofs.mix.Goals.{Start}

low : (c : Start) → let a = c.args in bit_and a.destination a.depth.ones ≡ a.destination % 2 ^ a.depth.bits
low c = ap (bit_and c.args.destination) c.requires.ones ∙ and_mask c.args.destination c.args.depth.bits

low-lt : (c : Start) → let a = c.args in bit_and a.destination a.depth.ones < 2 ^ a.depth.bits
low-lt c = rw c.requires.ones (mask_lt c.args.destination _)

pub merge-requires : goal.merge-requires
merge-requires c =
    let start = c in
    (start.requires, rw c.arithmetic-result.ensures (arithmetic_lt _ _ _ _ _), low-lt c.before.before.before)

pub returns : goal.returns
returns c =
    let worked = c in
    let start = c in
    let depth = start.args.depth in
    c.merge.ensures
    ∙ (λ i. merged depth.bits depth.planes (worked.arithmetic-result.ensures i) (low c.before.before.before.before i))
    ∙ merged_pixel _ _ _ _
    ∙ sym (mixed_arithmetic _ _ _ _ _ worked.if-code-lt16.false)
