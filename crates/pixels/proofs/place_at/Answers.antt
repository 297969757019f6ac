-- `place_at` is the byte of the pixel's first bit: eight bits a byte, so the size's shift up and 3 down are one shift down.
use Rattle.pixels.proofs.Maps.{start_shr}
use Rattle.pixels.proofs.place_at.Goals as goal

pub returns : goal.returns
returns c = rw start_shr
