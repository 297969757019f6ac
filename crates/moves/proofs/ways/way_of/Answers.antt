-- `way_of` leads to the definition's pen at each kind of drawing: what the match finds in hand is what the pen moves by.
use mathlib.Core.Path.{◌≡◌, ◌∙◌, sym, ap}
use Rattle.parts.specs.declared.drawing.Drawing.{Drawing}
use Rattle.parts.specs.Drawings.{with_inside}
use Rattle.moves.specs.Moves.{pen_stepped, pen_with, pen_gone, line_moved, codes_moved, column_passed, row_passed, block_moved, moved_by, moved}
use Rattle.moves.specs.Inner.{went_by}
use Rattle.moves.proofs.ways.way_of.Goals as goal
use Rattle.moves.proofs.ways.way_of.Goals.{Start}

-- the pen moves by what its drawing is known to be, with the bit as it is now
known : (c : Start) {d : Drawing} → let a = c.args in a.pen.drawing ≡ d
    → moved_by a.travel (with_inside a.inside d) (pen_with (with_inside a.inside d) a.pen)
    ≡ moved a.travel (pen_with (with_inside a.inside a.pen.drawing) a.pen)
unfolding moved pen_with
known c e = let a = c.args in
    ap (λ (d : Drawing). moved_by a.travel (with_inside a.inside d) (pen_with (with_inside a.inside d) a.pen)) (sym e)

pub returns-in-Nothing : goal.returns-in-Nothing
unfolding went_by moved_by with_inside
returns-in-Nothing c =
    let e = c.in-Nothing.is in
    ap (λ (d : Drawing). pen_with d c.args.pen) e ∙ known c.before e

pub returns-in-Line : goal.returns-in-Line
unfolding moved_by with_inside line_moved pen_gone pen_stepped pen_with
returns-in-Line c = c.line_way.ensures ∙ known c.before.before c.in-Line.is

pub returns-in-Codes : goal.returns-in-Codes
unfolding moved_by with_inside codes_moved pen_gone pen_stepped pen_with
returns-in-Codes c = c.code_way.ensures ∙ known c.before.before c.in-Codes.is

pub returns-in-Block : goal.returns-in-Block
unfolding moved_by with_inside block_moved column_passed row_passed pen_stepped pen_with
returns-in-Block c = c.block_way.ensures ∙ known c.before.before c.in-Block.is
