-- `term_sum` is the sum on the circle: the remainders of what the terms read back add as the terms do.
use lib.Dec.{lit<}
use mir.Syntax.{w32}
use mir.ValLaws.{to_z-of_z}
use Rattle.numbers.proofs.CircleLaws.{circle_sum}
use Rattle.numbers.proofs.circles.term_sum.Goals as goal

pub returns : goal.returns
returns c =
    let f = c.ranges in
    rw (to_z-of_z w32 _ (record { sfits = c.term.type_inv }), c.term.ensures, c.word-2.ensures, c.word.ensures)
    (rw (to_z-of_z w32 _ f.e, to_z-of_z w32 _ f.k) (circle_sum 8192 16384 (lit< tt) 262144 (lit< tt) _ _))
