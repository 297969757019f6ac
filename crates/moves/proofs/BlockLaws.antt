-- The moves of a block: to the next column within its row, and from a row's end to the next row, since its counters tell which.
use mathlib.Core.Path.{◌≡◌, ap, ◌∙◌}
use mathlib.Core.Bool.{Bool, false}
use Prim.Native.Nat.{ℕ, ◌+◌, ◌≤◌, ◌<◌}
use lib.Dec.{ltb}
use borrow.Author.Tests.{lt-ltb, le-ltb}
use Rattle.numbers.specs.Choose.{choose}
use Rattle.numbers.proofs.Choices.{choose_true, choose_false}
use Rattle.parts.specs.declared.drawing.Drawing.{Drawing}
use Rattle.parts.specs.declared.drawing.Drawing.TheVariants.{Nothing, Block}
use Rattle.moves.specs.declared.Travel.{Travel}
use Rattle.moves.specs.declared.Pen.{Pen}
use Rattle.moves.specs.Moves.{column_passed, row_passed, block_moved, moved_by, moved}

module _ (s : Travel) (pen : Pen) (column row : ℕ) (inside : Bool) (e : pen.drawing ≡ Block inside column row) where
  pub to_column : column < s.figure.dimensions.x → moved s pen ≡ column_passed s (Block inside (column + 1) row) pen
  unfolding moved moved_by block_moved
  to_column less = ap (λ (d : Drawing). moved_by s d pen) e ∙ choose_true _ _ (lt-ltb column s.figure.dimensions.x less)

  pub past_row : s.figure.dimensions.x ≤ column
      → moved s pen ≡ row_passed s (choose (ltb row s.figure.dimensions.y) (Block false 0 (row + 1)) (Nothing false)) pen
  unfolding moved moved_by block_moved
  past_row last = ap (λ (d : Drawing). moved_by s d pen) e ∙ choose_false _ _ (le-ltb column s.figure.dimensions.x last)

  pub to_row : s.figure.dimensions.x ≤ column → row < s.figure.dimensions.y → moved s pen ≡ row_passed s (Block false 0 (row + 1)) pen
  to_row last another =
      past_row last ∙ ap (λ (d : Drawing). row_passed s d pen) (choose_true _ _ (lt-ltb row s.figure.dimensions.y another))
