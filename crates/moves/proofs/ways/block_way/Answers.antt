-- `block_way` leads to the definition's pen: within the row to the next column, at its end over the row's end.
use native.Mathlib.Omega.{arith}
use Rattle.std.proofs.lemmas.Grind.{common_steps}
use Rattle.moves.specs.Moves.{block_moved}
use Rattle.moves.specs.Inner.{went_by}
use Rattle.moves.proofs.ways.block_way.Goals as goal

pub returns-then-column-travel : goal.returns-then-column-travel
unfolding went_by block_moved
returns-then-column-travel c = grind (arith, common_steps)

pub returns-else-column-travel : goal.returns-else-column-travel
unfolding went_by block_moved
returns-else-column-travel c = grind (arith, common_steps)
