-- `needed` is the map's bits in bytes, rounded up: 65536 rows of 65536 pixels of 8 bits fit.
use Rattle.pixels.specs.Maps.{needed_of}
use Rattle.pixels.proofs.needed.Goals as goal
use Rattle.pixels.proofs.needed.Goals.{After-bits_of, After-struct_known-2-1}

pub returns : goal.returns
unfolding needed_of
returns c = rw c.bits_of.ensures
