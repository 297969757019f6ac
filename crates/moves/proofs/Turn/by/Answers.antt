-- `by` is the definition at each of the three turns: a sum or difference that stays in the map is its own remainder.
use mathlib.Core.Path.{sym}
use native.Mathlib.Omega.{arith}
use Rattle.numbers.proofs.CircleLaws.{forth_inside}
use Rattle.moves.specs.Turns.{turned_by}
use Rattle.moves.proofs.TurnLaws.{back_inside}
use Rattle.moves.proofs.Turn.by.Goals as goal

pub returns-in-Stay : goal.returns-in-Stay
unfolding turned_by
returns-in-Stay c = rw c.in-Stay.is

pub returns-in-Forth : goal.returns-in-Forth
unfolding turned_by
returns-in-Forth c = rw (c.in-Forth.is, c.if-count-eq1.true, c.step_forth.ensures)

pub returns-in-Forth-2 : goal.returns-in-Forth-2
unfolding turned_by
returns-in-Forth-2 c = rw c.in-Forth-2.is (sym (forth_inside _ _ _ (omega arith)))

pub returns-in-Forth-3 : goal.returns-in-Forth-3
unfolding turned_by
returns-in-Forth-3 c = rw (c.in-Forth-2.is, c.steps_forth.ensures)

pub returns-in-Back : goal.returns-in-Back
unfolding turned_by
returns-in-Back c = rw (c.in-Back.is, c.if-count-eq1-2.true, c.step_back.ensures)

pub returns-in-Back-2 : goal.returns-in-Back-2
unfolding turned_by
returns-in-Back-2 c = rw c.in-Back-2.is (sym (back_inside _ _ _ c.if-count-x.true (omega arith)))

pub returns-in-Back-3 : goal.returns-in-Back-3
unfolding turned_by
returns-in-Back-3 c = rw (c.in-Back-2.is, c.steps_back.ensures)
