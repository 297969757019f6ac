-- `leaf_put` leaves memory with another pixel: where its byte is not in the memory that is the memory as it was.
use mathlib.Core.Path.{sym}
use native.Mathlib.Omega.{arith}
use Rattle.pixels.proofs.Pixels.{put_beyond}
use Rattle.leaves.proofs.leaf_put.Goals as goal

pub returns-else-place-memory : goal.returns-else-place-memory
returns-else-place-memory c = sym (put_beyond _ _ _ _ _ (omega (arith, c.place.ensures)))
