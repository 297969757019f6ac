-- A run of positions: one after another, until none is left or the allowance is used up.
use Rattle.std.specs.Prelude.{ℕ, zero, suc, ◌+◌, List}
use Rattle.numbers.specs.Choose.{choose}
use Rattle.parts.specs.Drawings.{unfinished}
use Rattle.places.specs.declared.Setup.{Setup}
use Rattle.moves.specs.declared.Pen.{Pen}
use Rattle.moves.specs.Moves.{moved}
use Rattle.position.specs.Drawn.{crossed, drawn}

-- docs/DECISIONS.md, 30: a run under way: the pen, the memory, and the positions done
pub record Run : Type 0 where
  pub pen : Pen
  pub memory : List ℕ
  pub done : ℕ

-- docs/DECISIONS.md, 30: nothing done yet
unfoldable pub begun : Pen → List ℕ → Run
begun pen memory = record { pen = pen; memory = memory; done = 0 }

-- 01, The functions: a position, and the move to the next as part of it; 02, 102: a fill's bit is set by the position
unfoldable pub positioned : Setup → Run → Run
positioned s t = record { pen = moved s.travel (crossed s t.memory t.pen); memory = drawn s t.memory t.pen; done = t.done + 1 }

-- 01, The functions: one position, if one is left
unfoldable pub stepped : Setup → Run → Run
stepped s t = choose (unfinished t.pen.drawing) (positioned s t) t

-- 01, The functions: an allowance of n positions, or as many as there are
unfoldable pub after : Setup → ℕ → Run → Run
after s zero t = t
after s (suc n) t = stepped s (after s n t)
