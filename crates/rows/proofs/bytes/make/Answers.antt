-- `rows::bytes::make` makes the bytes in order: after i turns memory is that of i bytes made.
use Rattle.std.proofs.Common.{refl}
use Rattle.rows.specs.Inner.{carried}
use Rattle.rows.proofs.CarryLaws.{carried_next}
use Rattle.rows.proofs.bytes.make.Goals as goal

pub loop-i-init : goal.loop-i-init
unfolding carried
loop-i-init g c = λ op gives. refl

pub loop-i-preserved : goal.loop-i-preserved
loop-i-preserved g c = λ op gives.
    rw (gives _ _ _ c.byte.ensures, c.place-at.ensures, c.place.ensures)
    (carried_next op c.args.on.back _ _ _ _ _ (c.loop-i.invariant op gives))
