-- `pass` goes on by all columns, or from the first of them to the next row's start: as by all but the last, and then by that one's move.
use Rattle.std.proofs.Common.{◌≡◌, ℕ, ◌+◌, ◌-◌, ◌≤◌, false, sym, refl, ap, ◌∙◌, add-one, arith}
use Rattle.parts.specs.declared.drawing.Drawing.{Drawing}
use Rattle.parts.specs.declared.drawing.Drawing.TheVariants.{Block}
use Rattle.moves.specs.declared.Pen.{Pen}
use Rattle.moves.specs.Inner.{columns_passed, row_returned}
use Rattle.moves.proofs.BlockLaws.{to_column, past_row}
use Rattle.moves.proofs.ColumnLaws.{columns_more, row_returned_lem}
use Rattle.runs.proofs.stretches.pass.Goals as goal
use Rattle.runs.proofs.stretches.pass.Goals.{Start}

-- the pen so many columns further
abbrev ahead : Start → ℕ → Pen
ahead c n = let a = c.args in columns_passed a.travel n (Block false (a.column + n) a.row) a.pen

drawing : (c : Start) (n : ℕ) → (ahead c n).drawing ≡ Block false (c.args.column + n) c.args.row
unfolding columns_passed
drawing c n = refl

-- no more columns than a row has
few : (c : Start) → c.args.count - 1 ≤ c.args.travel.figure.dimensions.x
few c = omega (arith, c.requires.1)

pub returns-then-travel-column : goal.returns-then-travel-column
returns-then-travel-column c =
    let a = c.args in
    let h = c.requires in
    let n = a.count - 1 in
    let last = a.travel.figure.dimensions.x in
    let next = c.row_after.ensures in
    c.return_row.ensures
    ∙ ap (λ (d : Drawing). row_returned a.travel (last - n) d a.pen) next
    ∙ sym (row_returned_lem a.travel a.pen h.4 h.3 n (few c.before.before.before.before.before) _ (Block false (a.column + n) a.row))
    ∙ sym (past_row a.travel (ahead c.before.before.before.before.before n) (a.column + n) a.row false (drawing c.before.before.before.before.before n) c.if-travel-column.true)

pub returns-else-travel-column : goal.returns-else-travel-column
returns-else-travel-column c =
    let a = c.args in
    let n = a.count - 1 in
    c.pass_columns.ensures
    ∙ (λ i. columns_passed a.travel (add-one n i) (Block false (a.column + n + 1) a.row) a.pen)
    ∙ sym (columns_more a.travel a.pen c.requires.4 n (Block false (a.column + n) a.row) (Block false (a.column + n + 1) a.row))
    ∙ sym (to_column a.travel (ahead c.before.before.before n) (a.column + n) a.row false (drawing c.before.before.before n) (omega (arith, c.if-travel-column.false)))
