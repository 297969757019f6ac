-- `next` goes the way that leads to the definition's pen, whichever it is.
use mathlib.Core.Path.{◌≡◌, ◌∙◌, sym, ap}
use mir.Syntax.{w32}
use mir.ValLaws.{to_z-of_z}
use borrow.Author.Rules.{rules}
use Rattle.moves.specs.declared.Travel.{Travel}
use Rattle.moves.specs.declared.Pen.{Pen}
use Rattle.moves.specs.declared.Way.{Way}
use Rattle.moves.specs.Moves.{pen_with}
use Rattle.moves.specs.Inner.{went_by}
use Rattle.moves.proofs.PenLaws.{turned_once, column_turned, whole_row}
use Rattle.moves.proofs.passage.next.Goals as goal

-- the pen goes the way that it is known to be
known : (s : Travel) (pen : Pen) {v w : Way} {moved : Pen} → v ≡ w → went_by s v pen ≡ moved → went_by s w pen ≡ moved
known s pen e went = ap (λ w. went_by s w pen) (sym e) ∙ went

pub returns-in-Along : goal.returns-in-Along
unfolding went_by
returns-in-Along c = let a = c.args in
    let w = c.in-Along in
    rw (c.step_pen.ensures, to_z-of_z w32 c.in-Along.e (search rules))
    (turned_once a.travel w.drawing a.pen (record { x = w.from_x; y = w.from_y }) (record { x = w.to_x; y = w.to_y }) w.e
    ∙ known a.travel a.pen c.in-Along.is c.way_of.ensures)

pub returns-in-Column : goal.returns-in-Column
unfolding went_by
returns-in-Column c = let a = c.args in
    c.pass_columns.ensures ∙ column_turned a.travel c.in-Column.drawing a.pen ∙ known a.travel a.pen c.in-Column.is c.way_of.ensures

pub returns-in-Row : goal.returns-in-Row
unfolding went_by
returns-in-Row c = let a = c.args in
    c.return_row.ensures ∙ whole_row a.travel c.in-Row.drawing a.pen ∙ known a.travel a.pen c.in-Row.is c.way_of.ensures

pub returns-in-Here : goal.returns-in-Here
unfolding went_by pen_with
returns-in-Here c = let a = c.args in
    rw (to_z-of_z w32 a.pen.e (search rules)) (known a.travel a.pen c.in-Here.is c.way_of.ensures)
