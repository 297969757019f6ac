-- `brush_of` is the definition, field by field: each call gives its field, and a pixel has at most 8 bits.
use native.Mathlib.Omega.{arith}
use Rattle.std.proofs.lemmas.Grind.{common_steps}
use Rattle.pixels.proofs.Maps.{bits_le}
use Rattle.rules.specs.Maps.{map_at}
use Rattle.places.specs.Decoded.{brush_of}
use Rattle.places.proofs.decoded.brush_of.Goals as goal

pub depth_of-requires : goal.depth_of-requires
depth_of-requires c = rw c.bits_of.ensures (bits_le _)

pub returns : goal.returns
unfolding map_at brush_of
returns c = grind (arith, common_steps)
