-- A start sets one of four drawings, by its tests in their order.
use mathlib.Core.Path.{◌≡◌}
use mathlib.Core.Bool.{true, false}
use Prim.Native.Nat.{ℕ}
use Rattle.numbers.proofs.Choices.{by_test}
use Rattle.parts.specs.declared.shapes.Figure.{Figure}
use Rattle.parts.specs.declared.drawing.Drawing.{Drawing}
use Rattle.parts.specs.declared.drawing.Drawing.TheVariants.{Nothing, Line, Codes, Block}
use Rattle.rules.specs.Operations.{is_line, is_block}
use Rattle.rules.specs.Codes.{stops, code_at}
use Rattle.rules.specs.Starts.{drawing_started}

-- what holds of each drawing that a start can set holds of the one that it sets
pub by_start : (P : Drawing → Type 0) (f : Figure) (length : ℕ)
    → (is_line f.operations ≡ true → P (Line false 0))
    → (is_block f.operations ≡ true → P (Block false 0 0))
    → P (Nothing true)
    → (is_line f.operations ≡ false → is_block f.operations ≡ false → stops (code_at f.steps length 0) ≡ false → P (Codes length 0 0))
    → P (drawing_started f length)
unfolding drawing_started
by_start P f length line block stopped codes =
    by_test P (is_line f.operations) line
    (λ no_line.
    by_test P (is_block f.operations) block
    (λ no_block. by_test P (stops (code_at f.steps length 0)) (λ none. stopped) (codes no_line no_block)))
