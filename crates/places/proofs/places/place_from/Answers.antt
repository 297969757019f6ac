-- `place_from` is the destination less the origin: 32 bits hold the difference of two numbers of 16.
use mir.Syntax.{w16}
use mir.ValLaws.{to_z-of_z}
use Rattle.places.proofs.Columns.{widened, place_fits, placed, read_back}
use Rattle.places.proofs.places.place_from.Goals as goal

pub overflow_cast-result : goal.overflow_cast-result
overflow_cast-result c = rw (to_z-of_z w16 _ c.ranges.z) (widened c.ranges.z)

pub overflow_sub-result : goal.overflow_sub-result
overflow_sub-result c = rw (placed c.ranges.z c.ranges.origin) (place_fits c.ranges.z c.ranges.origin)

pub returns : goal.returns
returns c = read_back c.ranges.z c.ranges.origin (placed c.ranges.z c.ranges.origin)
