-- `put` leaves memory with another pixel: the byte that is found is set, with another field.
use Rattle.pixels.specs.Pixels.{with_pixel}
use Rattle.pixels.specs.Inner.{cell_at}
use Rattle.pixels.proofs.Pixels.{cell_in_byte, cell_in_memory}
use Rattle.pixels.proofs.put.Goals as goal

pub store-requires : goal.store-requires
store-requires c = rw c.find.ensures (cell_in_byte _ _ _ _, cell_in_memory _ _ _ _ c.requires)

pub returns : goal.returns
unfolding cell_at with_pixel
returns c = rw (c.store.ensures, c.find.ensures)
