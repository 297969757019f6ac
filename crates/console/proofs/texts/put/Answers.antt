-- `put` copies the text to its place.
use Rattle.std.proofs.Common.{refl}
use Rattle.std.proofs.Math.Nat.{add-sub_cancel_left}
use Rattle.console.proofs.TextLaws.{copied}
use Rattle.console.proofs.texts.put.Goals as goal

pub returns : goal.returns
returns c = (refl, rw (add-sub_cancel_left, c.copy_from_slice.ensures.after) (copied _ _ _ c.requires))
