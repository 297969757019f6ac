-- The positions left are all at a start, some while a drawing is in hand, and never more than all: the codes passed are counted before those to come.
use mathlib.Core.Path.{◌≡◌, refl}
use mathlib.Core.Bool.{Bool, true, false≢true}
use Prim.Native.Nat.{ℕ, suc, ◌+◌, ◌-◌, ◌≤◌, ◌<◌, zero-le}
use native.Mathlib.Nat.{sub-zero, mul-le-mul_right}
use native.Mathlib.Omega.{arith}
use Rattle.parts.specs.declared.shapes.Figure.{Figure}
use Rattle.parts.specs.declared.drawing.Drawing.{Drawing}
use Rattle.parts.specs.declared.drawing.Drawing.TheVariants.{Nothing, Line, Codes, Block}
use Rattle.parts.specs.Drawings.{unfinished}
use Rattle.rules.specs.Starts.{drawing_started}
use Rattle.rules.specs.Going.{counters_hold}
use Rattle.rules.specs.Totals.{total_of, left_of}
use Rattle.rules.proofs.StartLaws.{by_start}
use Rattle.rules.proofs.CodeLaws.{none_stopped_before, code_going, codes_next, codes_split}
use Rattle.rules.proofs.CounterLaws.{line_held, codes_held, block_held}

pub left_idle : (f : Figure) (stopped : Bool) → left_of f (Nothing stopped) ≡ 0
unfolding left_of
left_idle f stopped = refl

module _ (f : Figure) where
  pub left_started : (length : ℕ) → left_of f (drawing_started f length) ≡ total_of f (drawing_started f length)
  unfolding left_of total_of
  left_started length =
      by_start (λ started. left_of f started ≡ total_of f started) f length
      (λ line. simp sub-zero) (λ block. simp sub-zero) refl (λ no_line no_block code. simp sub-zero)

  pub left_some : (drawing : Drawing) → counters_hold f drawing ≡ true → unfinished drawing ≡ true
      → 0 < left_of f drawing
  unfolding left_of
  left_some (Nothing stopped) h u = absurd (false≢true u)
  left_some (Line rose done) h u = omega (arith, line_held f done rose h)
  left_some (Codes count code done) h u =
      let held = codes_held f count code done h in
      let more : count - code ≡ suc (count - suc code) = omega arith in
      rw (more, codes_next f.steps count code _ (code_going f.steps count code held.going)) (omega arith)
  left_some (Block inside column row) h u =
      let held = block_held f column row inside h in
      let rows : 1 ≤ f.dimensions.y + 1 - row = omega arith in
      omega (arith, mul-le-mul_right (f.dimensions.x + 1) rows)

  pub left_le_total : (drawing : Drawing) → counters_hold f drawing ≡ true
      → left_of f drawing ≤ total_of f drawing
  unfolding left_of total_of
  left_le_total (Nothing stopped) h = zero-le
  left_le_total (Line rose done) h = omega arith
  left_le_total (Codes count code done) h =
      let held = codes_held f count code done h in
      let passed = none_stopped_before f.steps count code held.going in
      let whole : code + (count - code) ≡ count = omega arith in
      let split = rw whole at (codes_split f.steps count code (count - code) passed) in
      omega arith
  left_le_total (Block inside column row) h =
      let rows : f.dimensions.y + 1 - row ≤ f.dimensions.y + 1 = omega arith in
      omega (arith, mul-le-mul_right (f.dimensions.x + 1) rows)
