-- `find` is the definition, with each part of it found once; the byte is there by what is required.
use Rattle.pixels.specs.Pixels.{byte_at}
use Rattle.pixels.specs.Inner.{cell_at}
use Rattle.pixels.proofs.find.Goals as goal

pub returns : goal.returns
unfolding byte_at cell_at
returns c = rw (c.bits_of.ensures, c.shift.ensures, c.place-at.ensures)
