-- `rows::slides::slide_forth` makes the bytes in order: after i turns memory is that of i bytes made.
use Rattle.std.proofs.Common.{false, refl}
use Rattle.rows.specs.Inner.{wholly, slid}
use Rattle.rows.proofs.JoinLaws.{slid_next}
use Rattle.rows.proofs.slides.slide_forth.Goals as goal

pub loop-i-init : goal.loop-i-init
unfolding slid
loop-i-init c = refl

pub loop-i-preserved : goal.loop-i-preserved
loop-i-preserved c =
    let a = c.args in
    rw (c.blend_bytes.ensures, c.join-s.ensures) (slid_next (wholly a.whole) a.down false _ _ _ _ _ _ c.loop-i.invariant)
