-- `rows::patterns::sixteen` inks the bytes in order, by the two bytes of the pattern that it read before.
use Rattle.std.proofs.Common.{◌+◌, ◌%◌, ◌<◌, get_or, set, refl, ap, ◌∙◌, arith}
use lib.Bits.{bit_xor}
use Rattle.numbers.specs.Fields.{field}
use Rattle.rows.specs.Inner.{changed, inked_by}
use Rattle.rows.proofs.PatternLaws.{sixteen_next}
use Rattle.rows.proofs.patterns.sixteen.Goals as goal

pub loop-i-init : goal.loop-i-init
unfolding changed
loop-i-init c = refl

pub loop-i-preserved : goal.loop-i-preserved
loop-i-preserved c =
    let a = c.args in
    let l = c.loop-i in
    let d = get_or l.memory (a.at + l.i) 0 in
    let less : l.i < 16 = omega arith in
    ap (set l.memory (a.at + l.i))
    (c.ink.ensures
    ∙ (λ j. inked_by a.inks (field (bit_xor (l.i % 8) (c.mirror-mirror.ensures.0 j)) 1 (c.either-pattern.ensures j)) d))
    ∙ sixteen_next a.inks a.place a.at l.i a.memory.now l.memory less l.invariant
