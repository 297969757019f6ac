-- `pass_stretch` is that of the block in hand.
use Rattle.runs.proofs.stretches.pass_stretch.Goals as goal

pub pass-requires : goal.pass-requires
pass-requires c = let h = c.requires in let room = h.1 _ _ _ c.in-Block.is in (h.0, room.0, room.1, h.2, h.3)
