-- `get` is the pixel: the field that is found of its byte, which is there by what is required.
use Rattle.pixels.specs.Pixels.{pixel_at}
use Rattle.pixels.specs.Inner.{cell_at}
use Rattle.pixels.proofs.Pixels.{cell_in_byte}
use Rattle.pixels.proofs.get.Goals as goal

pub value-requires : goal.value-requires
value-requires c = rw c.find.ensures (cell_in_byte _ _ _ _)

pub returns : goal.returns
unfolding cell_at pixel_at
returns c = rw (c.value.ensures, c.find.ensures)
