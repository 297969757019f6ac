-- `column_of` is the place as a column: the greater of it and 0.
use mir.Syntax.{w32}
use mir.ValLaws.{to_z-of_z}
use Rattle.places.specs.Places.{column_of}
use Rattle.places.proofs.Columns.{answered, raised}
use Rattle.places.proofs.places.column_of.Goals as goal

pub returns : goal.returns
unfolding column_of
returns c = let s = c.ranges in
    rw (
      to_z-of_z w32 c.max.result (record { sfits = c.max.type_inv }),
      c.max.ensures.value,
      answered s.z s.origin c.place_from.ensures,
      raised,
    )
