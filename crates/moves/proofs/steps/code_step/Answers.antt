-- `code_step` is the definition's step: its two turns are those of the direction, which eight cases show once.
use mathlib.Core.Path.{sym}
use native.Mathlib.Omega.{arith}
use Rattle.moves.proofs.Directions.{code_step_lem}
use Rattle.moves.proofs.steps.code_step.Goals as goal

pub returns : goal.returns
returns c = rw (c.turn_of-2.ensures, c.turn_of.ensures)
    (sym (code_step_lem c.args.code _ (sym c.direction_of-direction.ensures)
    (omega (arith, c.direction_of-direction.ensures))))
