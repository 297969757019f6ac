-- `block_length` is a stretch, by the tests that it passed and the least of three numbers.
use Rattle.std.proofs.Common.{◌≡◌, ℕ, ◌≤◌, Bool, sym, ap, ◌∙◌, arith}
use native.Mathlib.Nat.{min-le_left, min-le_right}
use borrow.Author.Tests.{not-false}
use Rattle.parts.specs.declared.drawing.Drawing.TheVariants.{Block}
use Rattle.runs.specs.Inner.{column_at, taken_x}
use Rattle.runs.proofs.PlaceLaws.{neither, spans_fewer}
use Rattle.runs.proofs.stretches.block_length.Goals as goal

at_most : {x y : ℕ} → x ≡ y → x ≤ y
at_most e = omega arith

pub returns : goal.returns
returns c = λ row e some.
    let a = c.args in
    let r = c.min.result in
    let first : r ≤ c.min-left.result = rw c.min.ensures (min-le_left _ _) in
    let second : r ≤ c.reach.result = rw c.min.ensures (min-le_right _ _) in
    let allowed : c.min-left.result ≤ a.allowance = rw c.min-left.ensures (min-le_left _ _) in
    let fewest : c.min-left.result ≤ c.rest.result = rw c.min-left.ensures (min-le_right _ _) in
    let ends = at_most c.rest.ensures.0 in
    let spans = c.reach.ensures (omega arith) in
    let free = neither a.inside _ c.if-inside-on_map.false in (
      record {
        column = a.column;
        row = row;
        drawing = e ∙ ap (λ (i : Bool). Block i a.column row) free.0;
        ends = omega arith;
        small = omega (arith, c.rest.ensures.1);
        on = sym c.on_map.ensures ∙ not-false _ free.1;
        inside = sym c.in_mask.ensures ∙ c.if-not-in_mask.false;
        columns = spans_fewer a.plan.now.back (column_at a.setup a.pen) r c.reach.result a.plan.now.left a.plan.now.right second spans.0;
        taken = spans_fewer a.plan.now.back (taken_x a.setup a.plan.now.takes a.pen) r c.reach.result 0 a.plan.now.map.width second spans.1;
      },
      omega arith,
    )
