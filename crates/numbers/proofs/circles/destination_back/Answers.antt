-- `destination_back` is that many steps back on the destination's circle: they may be made on what the pointer reads back.
use lib.Dec.{lit<}
use mir.Syntax.{w16}
use mir.ValLaws.{to_z-of_z}
use Rattle.numbers.proofs.CircleLaws.{circle_back}
use Rattle.numbers.proofs.circles.destination_back.Goals as goal

pub returns : goal.returns
returns c =
    rw (to_z-of_z w16 _ (record { sfits = c.destination.type_inv }), c.destination.ensures)
    (rw (c.half_word.ensures, to_z-of_z w16 _ c.ranges.z) (circle_back 2048 8192 (lit< tt) 8 (lit< tt) _ _))
