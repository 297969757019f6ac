-- `shift` is that of the pixel's number.
use mathlib.Core.Path.{ap, ◌∙◌}
use Rattle.pixels.specs.Maps.{start_of, shift_of}
use Rattle.pixels.specs.Inner.{shift_at}
use Rattle.pixels.proofs.shift.Goals as goal

pub returns : goal.returns
unfolding start_of shift_of
returns c = c.shift_at.ensures ∙ ap (shift_at c.args.map.format) c.index.ensures
