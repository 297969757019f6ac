-- A write that starts a drawing leaves all of its positions, and a valid record has positions left exactly while a drawing is in hand: the counters
-- of a start are 0, and counters that hold stand before the end.
use mathlib.Core.Path.{◌≡◌, refl}
use mathlib.Core.Bool.{Bool, true, false, true≢false}
use mathlib.Core.Logic.{◌↔◌}
use Prim.Native.Nat.{◌<◌}
use native.Mathlib.Omega.{arith}
use Rattle.numbers.specs.declared.bytes.Write.{Write}
use Rattle.numbers.proofs.Choices.{and_left, and_right}
use Rattle.parts.specs.declared.shapes.Figure.{Figure}
use Rattle.parts.specs.declared.drawing.Drawing.{Drawing}
use Rattle.parts.specs.declared.drawing.Drawing.TheVariants.{Nothing, Line, Codes, Block}
use Rattle.parts.specs.Moved.{with_moved}
use Rattle.parts.specs.Refusals.{is_accepted}
use Rattle.parts.specs.Drawings.{unfinished}
use Rattle.rules.specs.Going.{counters_hold}
use Rattle.rules.specs.Totals.{left_of}
use Rattle.rules.proofs.TotalLaws.{left_started, left_some, left_idle}
use Rattle.coprocessor.specs.declared.Coprocessor.{Coprocessor}
use Rattle.coprocessor.specs.Valid.{goes_on, valid_of}
use Rattle.coprocessor.specs.Writes.{stored, starts_by, started, settled_by, write_refusal, write_answer}
use Rattle.theorems.specs.Totals.{total_in, left_in}

pub start_total : (w : Write) (c : Coprocessor) → is_accepted (write_refusal w c) ≡ true → starts_by w (stored w c) ≡ true
    → left_in (write_answer w c).coprocessor ≡ total_in (write_answer w c).coprocessor
unfolding started with_moved settled_by write_answer
start_total w c accepted starts =
    rw (accepted, starts) (left_started (stored w c).registers.figure w.length)

-- ---- the drawing in hand

pub left_in_hand : (c : Coprocessor) → valid_of c ≡ true → unfinished c.drawing ≡ true → 0 < left_in c
unfolding goes_on valid_of
left_in_hand c valid hand =
    let going : goes_on c ≡ true = search (valid, and_right) in
    let counters : counters_hold c.registers.figure c.drawing ≡ true = search (rw hand at going, and_left) in
    left_some c.registers.figure c.drawing counters hand

none_left : (f : Figure) (drawing : Drawing) → unfinished drawing ≡ false → left_of f drawing ≡ 0
none_left f (Nothing stopped) idle = left_idle f stopped
none_left f (Line rose done) idle = absurd (true≢false idle)
none_left f (Codes count code done) idle = absurd (true≢false idle)
none_left f (Block inside column row) idle = absurd (true≢false idle)

pub left_none : (c : Coprocessor) → valid_of c ≡ true → left_in c ≡ 0 ↔ unfinished c.drawing ≡ false
left_none c valid = (λ none. by none (unfinished c.drawing) refl, none_left c.registers.figure c.drawing)
  where
    by : left_in c ≡ 0 → (t : Bool) → unfinished c.drawing ≡ t → t ≡ false
    by none true hand = absurd (let some = left_in_hand c valid hand in omega arith)
    by none false idle = refl
