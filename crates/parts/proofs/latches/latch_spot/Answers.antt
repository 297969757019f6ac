-- `latch_spot` is the destination pointer after the write: each field is its register's, read as it was stored.
use mir.Syntax.{w16}
use borrow.Author.Rules.{rules}
use Rattle.parts.specs.Registers.{coordinate}
use Rattle.parts.specs.Takes.{taken_onto}
use Rattle.parts.specs.Latches.{spot_latched}
use Rattle.parts.proofs.SignedFields.{field_answer}
use Rattle.parts.proofs.latches.latch_spot.Goals as goal

pub returns : goal.returns
unfolding spot_latched
returns c =
    let at = c.args in
    let x = field_answer w16 (taken_onto (coordinate 0x78) at.w) at.spot.x _ (search rules)
    (record { sfits = c.take_destination.type_inv }) c.take_destination.ensures in
    let y = field_answer w16 (taken_onto (coordinate 0x7A) at.w) at.spot.y _ (search rules) (record { sfits = c.take_destination-2.type_inv })
    c.take_destination-2.ensures in
    λ i. record { x = x i; y = y i }
