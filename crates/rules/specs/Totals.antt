-- The positions of a drawing: how many it has, fixed by its dimensions or codes, and how many are left at its counters.
use Rattle.std.specs.Prelude.{ℕ, ◌+◌, ◌-◌, ◌*◌}
use Rattle.parts.specs.declared.shapes.Figure.{Figure}
use Rattle.parts.specs.declared.drawing.Drawing.{Drawing}
use Rattle.parts.specs.declared.drawing.Drawing.TheVariants.{Nothing, Line, Codes, Block}
use Rattle.rules.specs.Codes.{codes_from}

-- 01, The functions: the positions of a drawing from its start
unfoldable pub total_of : Figure → Drawing → ℕ
total_of f (Nothing stopped) = 0
total_of f (Line rose done) = f.dimensions.x + 1
total_of f (Codes count code done) = codes_from f.steps count 0 count
total_of f (Block inside column row) = (f.dimensions.y + 1) * (f.dimensions.x + 1)

-- 01, State image: the positions left at the counters
unfoldable pub left_of : Figure → Drawing → ℕ
left_of f (Nothing stopped) = 0
left_of f (Line rose done) = f.dimensions.x + 1 - done
left_of f (Codes count code done) = codes_from f.steps count code (count - code) - done
left_of f (Block inside column row) = (f.dimensions.y + 1 - row) * (f.dimensions.x + 1) - column
