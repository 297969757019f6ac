-- `is_within` tells whether the place is from 0 to the last: the two tests, on the place in 32 bits, are the definition's cases.
use native.Mathlib.Omega.{arith}
use mir.Syntax.{w32}
use mir.ValLaws.{to_z_pos}
use Rattle.places.proofs.Columns.{within_tests, answered}
use Rattle.places.proofs.places.is_within.Goals as goal

pub returns : goal.returns
returns c =
    let s = c.ranges in
    let last = c.args.last in
    rw (answered s.z s.origin c.place_from-place.ensures, to_z_pos w32 last (omega (arith, s.last.fits))) (within_tests last _)
