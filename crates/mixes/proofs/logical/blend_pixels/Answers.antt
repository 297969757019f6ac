-- `mixes::logical::blend_pixels` is the definition: a number under all ones is its low bits.
use Rattle.std.proofs.Common.{ap, ◌∙◌, rules}
use lib.Bits.{bit_and, bit_xor, and_mask}
use Rattle.mixes.specs.Inner.{made_by, blended}
use Rattle.mixes.proofs.logical.blend_pixels.Goals as goal

pub returns : goal.returns
unfolding blended
returns c =
    let a = c.args in
    c.of.ensures bit_and bit_xor (λ a b r given. search rules) (λ a b r given. search rules)
    ∙ ap (made_by bit_and bit_xor a.blend a.source) (ap (bit_and a.destination) c.requires.ones ∙ and_mask a.destination a.depth.bits)
