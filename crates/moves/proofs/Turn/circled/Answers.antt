-- `circled` is the definition at each of the three turns.
use borrow.Author.Rules.{rules}
use Rattle.std.proofs.lemmas.Grind.{common_steps}
use native.Mathlib.Omega.{arith}
use Rattle.moves.specs.Turns.{circled_by}
use Rattle.moves.proofs.Turn.circled.Goals as goal

pub returns-in-Stay : goal.returns-in-Stay
unfolding circled_by
returns-in-Stay c = grind (arith, common_steps)

pub returns-in-Forth : goal.returns-in-Forth
unfolding circled_by
returns-in-Forth c = grind (arith, common_steps)

pub returns-in-Back : goal.returns-in-Back
unfolding circled_by
returns-in-Back c = search rules
