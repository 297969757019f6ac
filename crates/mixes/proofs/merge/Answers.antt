-- `mixes::merge` meets its contract: it works bit by bit, as the merge does.
use Rattle.mixes.proofs.Mixed.{is_merged}
use Rattle.mixes.proofs.merge.Goals as goal

pub returns : goal.returns
returns c = let given = c.requires in is_merged _ given.0.planes given.1 given.2
