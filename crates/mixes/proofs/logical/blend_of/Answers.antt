-- `mixes::logical::blend_of` meets its contract: its masks are those of the code's bits, which make the mix.
use mathlib.Core.Path.{◌≡◌, ◌∙◌, ap}
use Prim.Native.Nat.{ℕ}
use lib.Bits.{bit_xor}
use Rattle.mixes.specs.declared.logical.Blend.{Blend}
use Rattle.mixes.specs.Inner.{blended}
use Rattle.mixes.proofs.Blends.{blend_of, blend_mixed}
use Rattle.mixes.proofs.logical.blend_of.Goals as goal

pub returns : goal.returns
returns c = λ cut logical s d.
    let third = c in
    let second = c in
    let first = c in
    let depth = first.args.depth in
    let both = first.spread-both.ensures in
    let source = second.spread-source.ensures in
    let destination = third.spread-destination.ensures in
    let neither = c.spread-neither.ensures in
    let made : _ ≡ blend_of depth.planes first.args.code =
    λ i. record {
      always = neither i;
      source = bit_xor (source i) (neither i);
      destination = bit_xor (bit_xor (destination i) (neither i)) depth.planes;
      both = bit_xor (bit_xor (both i) (source i)) (bit_xor (destination i) (neither i));
    } in
    ap (λ (b : Blend ℕ). blended depth.bits b s d) made ∙ blend_mixed _ cut.planes _ logical s d
