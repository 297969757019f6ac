-- Which way a position steps: lines by their octant and E, codes by their direction.
use Rattle.std.specs.Prelude.{ℕ, Bool, true, false, [], ◌∷◌, ℤ, pos, get_or}
use Rattle.std.specs.Int.Signed.{lt_z}
use Rattle.numbers.specs.Choose.{choose}
use Rattle.rules.specs.Codes.{direction_of}
use Rattle.moves.specs.declared.Turn.{Turn}
use Rattle.moves.specs.declared.Turn.TheVariants.{Stay, Forth, Back}
use Rattle.parts.specs.declared.shapes.Point.{Point}
use Rattle.moves.specs.declared.Course.{Course}

-- 01, The functions, Line: E below 0 steps the major axis, otherwise both
unfoldable pub line_step : Course → ℤ → Point Turn
line_step course e =
    choose (lt_z e (pos 0)) course.straight (record { x = course.x; y = course.y })

-- 01, The functions, Codes: bits 7-5 direction, 0 right, 1 up right, then anticlockwise; up lowers Y
unfoldable pub code_step : ℕ → Point Turn
code_step code =
    get_or
    (record { x = Forth; y = Stay }
    ∷ record { x = Forth; y = Back }
    ∷ record { x = Stay; y = Back }
    ∷ record { x = Back; y = Back }
    ∷ record { x = Back; y = Stay }
    ∷ record { x = Back; y = Forth }
    ∷ record { x = Stay; y = Forth }
    ∷ record { x = Forth; y = Forth }
    ∷ [])
    (direction_of code)
    (record { x = Stay; y = Stay })

-- 01, The functions: whether a step's part in Y moves it
abbrev pub moves_row : Turn → Bool
moves_row Stay = false
moves_row Forth = true
moves_row Back = true

-- 01, The functions: whether it moves it up, which lowers Y
abbrev pub goes_up : Turn → Bool
goes_up Stay = false
goes_up Forth = false
goes_up Back = true
