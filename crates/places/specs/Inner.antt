-- How the code asks it: what functions inside promise and ask of each other, proved from the rules; nothing here has to be believed.
use Rattle.std.specs.Prelude.{ℕ, Bool, true, false, ◌&&◌}
use Rattle.parts.specs.declared.drawing.Drawing.{Drawing}
use Rattle.parts.specs.declared.drawing.Drawing.TheVariants.{Nothing, Line, Codes, Block}
use Rattle.rules.specs.Codes.{only_moves, code_at}

-- the code that is drawn, 0 where none is
abbrev pub code_in : ℕ → Drawing → ℕ
code_in steps (Nothing stopped) = 0
code_in steps (Line rose done) = 0
code_in steps (Codes count code done) = code_at steps count code
code_in steps (Block inside column row) = 0

-- whether codes are drawn
abbrev pub are_codes : Drawing → Bool
are_codes (Nothing stopped) = false
are_codes (Line rose done) = false
are_codes (Codes count code done) = true
are_codes (Block inside column row) = false

-- whether a position only moves, by the code that is drawn
abbrev pub moves_by : ℕ → Drawing → Bool
moves_by code d = are_codes d && only_moves code
