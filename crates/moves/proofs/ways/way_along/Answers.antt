-- `way_along` is the definition, part by part: a part of a choice of steps is the choice of their parts.
use mir.Syntax.{w32}
use mir.ValLaws.{to_z-of_z}
use Rattle.std.proofs.Common.{◌≡◌, Bool}
use Rattle.numbers.specs.Choose.{choose}
use Rattle.numbers.proofs.Choices.{choose_part}
use Rattle.parts.specs.declared.shapes.Point.{Point}
use Rattle.moves.specs.declared.Turn.{Turn}
use Rattle.moves.specs.declared.Way.TheVariants.{Along}
use Rattle.moves.specs.Moves.{right, source_by, destination_by}
use Rattle.moves.proofs.ways.way_along.Goals as goal

x-of : (t : Bool) (p q : Point Turn) → choose t p.x q.x ≡ (choose t p q).x
x-of = choose_part (λ (s : Point Turn). s.x)

y_of : (t : Bool) (p q : Point Turn) → choose t p.y q.y ≡ (choose t p q).y
y_of = choose_part (λ (s : Point Turn). s.y)

pub returns : goal.returns
unfolding source_by destination_by
returns c = let a = c.args in
    let read = a.course.read in
    rw (c.turn_in-4.ensures, c.turn_in-3.ensures, c.turn_in-2.ensures, c.turn_in.ensures, to_z-of_z w32 a.e c.ranges.e)
    (λ i.
    Along (x-of read a.step right i) (y_of read a.step right i) (x-of read right a.step i) (y_of read right a.step i) a.e a.drawing)
