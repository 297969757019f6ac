-- `take_destination` is the register after the write: the circle's place of what `take` hands on.
use mathlib.Core.Path.{◌∙◌}
use mir.Syntax.{w16}
use mir.ValLaws.{to_z-of_z}
use Rattle.parts.specs.Takes.{taken_onto}
use Rattle.parts.proofs.TakeLaws.{taken_by}
use Rattle.parts.proofs.takes.take_destination.Goals as goal

pub returns : goal.returns
unfolding taken_onto
returns c =
    rw (to_z-of_z w16 c.map_or.result (record { sfits = c.map_or.type_inv }), ← to_z-of_z w16 c.args.stored c.ranges.stored)
    (taken_by _ _ _ _ _ _ _ c.take.ensures c.map_or.ensures (λ q. q ∙ rw c.half_word.ensures))
