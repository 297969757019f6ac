-- Where a line or codes pass from one row to the next.
use Rattle.std.specs.Prelude.{ℕ, zero, suc, ◌+◌, Bool, false, not, ◌&&◌, ◌||◌, eqb, ℤ, pos, negsuc}
use Rattle.numbers.specs.Choose.{choose}
use Rattle.parts.specs.Drawings.{unfinished}
use Rattle.moves.specs.declared.Turn.TheVariants.{Forth}
use Rattle.moves.specs.declared.Travel.{Travel}
use Rattle.moves.specs.declared.Pen.{Pen}
use Rattle.moves.specs.Turns.{circled_by}
use Rattle.moves.specs.Moves.{moved}
use Rattle.places.specs.Places.{column_of, is_move}

-- 01, The functions: the pen of a line or codes after n positions
unfoldable pub pen_after : Travel → ℕ → Pen → Pen
pen_after t zero pen = pen
pen_after t (suc n) pen = moved t (pen_after t n pen)

-- 02, 102: the row in which that position lies
abbrev pub row_after : Travel → ℕ → Pen → ℤ
row_after t n pen = (pen_after t n pen).pointers.destination.y

-- 01, Maps and pointers: the row below, on the destination's circle
unfoldable pub below : ℤ → ℤ
below y = circled_by Forth 1 y

-- 01, Maps and pointers: two places of a pointer are one
unfoldable pub same_place : ℤ → ℤ → Bool
same_place (pos a) (pos b) = eqb a b
same_place (pos a) (negsuc b) = false
same_place (negsuc a) (pos b) = false
same_place (negsuc a) (negsuc b) = eqb a b

-- 02, 102: the outline passes from the row of position n to the row below it: the position after lies there, or the one before lay there
unfoldable pub crosses : Travel → Pen → ℕ → Bool
crosses t pen zero = same_place (row_after t 1 pen) (below (row_after t 0 pen))
crosses t pen (suc n) =
    same_place (row_after t (suc (suc n)) pen) (below (row_after t (suc n) pen)) || same_place (row_after t n pen) (below (row_after t (suc n) pen))

-- 02, 102: position n crosses at column x of row y, and is not of a move code; left of the map it counts in column 0
unfoldable pub crosses_at : Travel → Pen → (x y n : ℕ) → Bool
crosses_at t pen x y n =
    unfinished (pen_after t n pen).drawing
    && not (is_move t (pen_after t n pen).drawing)
    && crosses t pen n
    && eqb (column_of (pen_after t n pen).pointers.destination.x) x
    && same_place (row_after t n pen) (pos y)

-- 02, 102: how many of the first n positions do
unfoldable pub crossings : Travel → Pen → (x y n : ℕ) → ℕ
crossings t pen x y zero = 0
crossings t pen x y (suc n) = crossings t pen x y n + choose (crosses_at t pen x y n) 1 0
