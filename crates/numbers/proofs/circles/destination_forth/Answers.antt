-- `destination_forth` is that many steps forth on the destination's circle: they may be made on what the pointer reads back.
use lib.Dec.{lit<}
use mir.Syntax.{w16}
use mir.ValLaws.{to_z-of_z}
use Rattle.numbers.proofs.CircleLaws.{circle_forth}
use Rattle.numbers.proofs.circles.destination_forth.Goals as goal

pub returns : goal.returns
returns c =
    rw (to_z-of_z w16 _ (record { sfits = c.destination.type_inv }), c.destination.ensures)
    (rw (c.half_word.ensures, to_z-of_z w16 _ c.ranges.z) (circle_forth 2048 8192 (lit< tt) 8 (lit< tt) _ _))
