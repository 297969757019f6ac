-- `pass_columns` is a step in X alone, made that many times.
use mathlib.Core.Path.{◌∙◌, sym}
use mir.Syntax.{w32}
use mir.ValLaws.{to_z-of_z}
use borrow.Author.Rules.{rules}
use Rattle.moves.proofs.PenLaws.{columns_turned}
use Rattle.moves.proofs.pens.pass_columns.Goals as goal

pub returns : goal.returns
returns c = let a = c.args in
    rw (to_z-of_z w32 a.pen.e (search rules)) at c.step_pen.ensures ∙ sym (columns_turned a.travel a.drawing a.pen a.count)
