-- `leaf_get` is the pixel: where its byte is not in the memory it is 0 by the definition.
use mathlib.Core.Path.{sym}
use native.Mathlib.Omega.{arith}
use Rattle.pixels.proofs.Pixels.{pixel_beyond}
use Rattle.leaves.proofs.leaf_get.Goals as goal

pub returns-then-memory-place : goal.returns-then-memory-place
returns-then-memory-place c = sym (pixel_beyond _ _ _ _ (omega (arith, c.place.ensures)))
