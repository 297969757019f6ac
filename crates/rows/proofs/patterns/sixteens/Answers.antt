-- `rows::patterns::sixteens` inks sixteen bytes after sixteen: as many of the pattern's pixels are two of its bytes.
use Rattle.std.proofs.Common.{◌<◌, refl, arith}
use Rattle.rows.specs.Inner.{changed}
use Rattle.rows.proofs.PatternLaws.{sixteens_beside, sixteens_next}
use Rattle.rows.proofs.patterns.sixteens.Goals as goal

pub loop-i-init : goal.loop-i-init
unfolding changed
loop-i-init c = refl

pub sixteen-requires : goal.sixteen-requires
sixteen-requires c =
    let a = c.args in
    let l = c.loop-i in
    let less : l.i < a.count = omega arith in
    rw l.auto.memory (sixteens_beside a.place a.at a.count l.i less _ c.requires)

pub loop-i-preserved : goal.loop-i-preserved
loop-i-preserved c =
    let a = c.args in
    let l = c.loop-i in
    let less : l.i < a.count = omega arith in
    sixteens_next a.place a.at a.count l.i less a.inks a.memory.now l.memory _ c.requires l.invariant c.sixteen.ensures
