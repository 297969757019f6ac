-- `rows::patterns::ink` chooses by the bit, as the definition does by the pattern's pixel.
use Rattle.std.proofs.Common.{◌∙◌}
use lib.Bits.{bit_and, bit_xor}
use Rattle.numbers.specs.Choose.{choose}
use Rattle.rows.proofs.PatternLaws.{bit_told}
use Rattle.rows.proofs.patterns.ink.Goals as goal

pub returns : goal.returns
returns c =
    let start = c in
    let a = start.args in
    let k = a.inks in
    let test = bit_told a.pattern a.shift start.requires in
    c.either.ensures
    ∙ (λ j.
    choose (test j) (bit_xor k.front_always (bit_and k.front_keeps a.d)) (bit_xor k.rear_always (bit_and k.rear_keeps a.d)))
