-- `place` is that of the pixel's number.
use mathlib.Core.Path.{ap, ◌∙◌}
use Rattle.pixels.specs.Maps.{start_of, place_of}
use Rattle.pixels.specs.Inner.{place_at}
use Rattle.pixels.proofs.place.Goals as goal

pub returns : goal.returns
unfolding start_of place_of
returns c =
    let a = c.args in c.place_at.ensures ∙ ap (place_at a.map.format a.map.base) c.index.ensures
