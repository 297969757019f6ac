-- `destination` is the place on its circle, which is small enough for 16 bits.
use lib.Dec.{lit<, lit≤}
use mir.Syntax.{w16, w32}
use mir.ValLaws.{to_z-of_z}
use Rattle.numbers.proofs.SignedLaws.{circle_fits}
use Rattle.numbers.proofs.circles.destination.Goals as goal

pub overflow_cast-result : goal.overflow_cast-result
overflow_cast-result c =
    rw (to_z-of_z w32 _ (record { sfits = c.onto.type_inv }), c.onto.ensures) (circle_fits w16 2048 8192 _ (lit< tt) (lit≤ tt))

pub returns : goal.returns
returns c =
    rw (to_z-of_z w32 _ (record { sfits = c.onto.type_inv }), c.onto.ensures) (to_z-of_z w16 _ (circle_fits w16 2048 8192 _ (lit< tt) (lit≤ tt)))
