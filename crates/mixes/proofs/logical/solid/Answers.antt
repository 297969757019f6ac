-- `mixes::logical::solid` meets its contract: what the source's masks take of its one pixel is in the other two, and they take nothing more.
use mathlib.Core.Path.{◌≡◌}
use Prim.Native.Nat.{ℕ, ◌%◌, ◌^◌}
use lib.Bits.{bit_and, bit_xor, and_zero_l, xor_zero_r}
use Rattle.mixes.specs.Inner.{blended}
use Rattle.mixes.proofs.logical.solid.Goals as goal

unturned : (x s : ℕ) → bit_xor x (bit_and 0 s) ≡ x
unturned x s = rw (and_zero_l s) (xor_zero_r x)

pub returns : goal.returns
unfolding blended
returns c = λ n s d.
    let a = c.args in
    let b = a.blend in
    let low = d % 2 ^ n in
    λ i. bit_xor low (bit_xor (unturned (bit_xor b.always (bit_and b.source a.source)) s i)
    (bit_and (unturned (bit_xor b.destination (bit_and b.both a.source)) s i) low))
