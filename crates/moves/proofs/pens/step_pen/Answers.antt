-- `step_pen` is the definition, field by field: each call gives its field.
use mir.Syntax.{w16, w32}
use mir.ValLaws.{to_z-of_z}
use borrow.Author.Rules.{rules}
use Rattle.moves.specs.Inner.{pen_turned}
use Rattle.moves.proofs.pens.step_pen.Goals as goal

pub returns : goal.returns
unfolding pen_turned
returns c = let a = c.args in
    rw (
      c.turned.ensures,
      c.turned-2.ensures,
      to_z-of_z w16 c.circled.result (record { sfits = c.circled.type_inv }),
      to_z-of_z w16 c.circled-2.result (record { sfits = c.circled-2.type_inv }),
      c.circled.ensures,
      c.circled-2.ensures,
      to_z-of_z w16 a.pen.pointers.destination.x (search rules),
      to_z-of_z w16 a.pen.pointers.destination.y (search rules),
      to_z-of_z w32 a.e c.ranges.e,
    )
