-- `write` leaves what a painted position draws: the cell that was found is the destination's, for the mix and for the byte that is set.
use Rattle.pixels.specs.Inner.{cell_at}
use Rattle.pixels.specs.Pixels.{with_pixel}
use Rattle.position.specs.Drawn.{drawn}
use Rattle.position.proofs.Writing.{drawn_by_lem}
use Rattle.position.proofs.write.write.Goals as goal

pub returns : goal.returns
unfolding cell_at with_pixel drawn
returns c = λ pen read aimed painted.
    rw (c.store.ensures, c.mixed_pixel.ensures _ pen read aimed, aimed.cell, drawn_by_lem _ _ pen _, painted)
