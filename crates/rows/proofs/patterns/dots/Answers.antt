-- `rows::patterns::dots` inks the bytes in order: after i turns memory is that of i bytes inked.
use Rattle.std.proofs.Common.{ℕ, ◌+◌, ◌<◌, get_or, set, refl, ap, ◌∙◌, arith}
use Rattle.rows.specs.Inner.{changed, inked_by, pattern_at}
use Rattle.rows.proofs.PatternLaws.{row_next}
use Rattle.rows.proofs.patterns.dots.Goals as goal

pub loop-i-init : goal.loop-i-init
unfolding changed
loop-i-init c = refl

pub loop-i-preserved : goal.loop-i-preserved
loop-i-preserved c =
    let a = c.args in
    let l = c.loop-i in
    let less : l.i < a.count = omega arith in
    ap (set l.memory (a.at + l.i))
    (c.ink.ensures ∙ ap (λ (k : ℕ). inked_by a.inks (pattern_at k a.source (a.n + l.i) l.memory) (get_or l.memory (a.at + l.i) 0)) c.mirror-mirror.ensures.0)
    ∙ row_next a.inks a.source a.n a.at a.count a.memory.now c.requires l.i less l.memory l.invariant
