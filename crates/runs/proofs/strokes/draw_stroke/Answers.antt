-- `draw_stroke` is the stroke from the pen on, where that is inside, and nothing otherwise.
use Rattle.std.proofs.Common.{◌≡◌, ℕ, ◌<◌, Bool, eqb, ℤ, sym, refl, ap, ◌∙◌, subst, zero-le, arith, w32, rules}
use mir.ValLaws.{to_z-of_z}
use borrow.Author.Tests.{eqb-false}
use Rattle.runs.specs.Runs.{begun, after}
use Rattle.runs.specs.Inner.{Spans, stroke_of}
use Rattle.runs.proofs.PlaceLaws.{neither}
use Rattle.runs.proofs.strokes.draw_stroke.Goals as goal

pub returns-in_default : goal.returns-in_default
unfolding after begun
returns-in_default c = (zero-le, refl)

pub returns-then-not-on_map : goal.returns-then-not-on_map
unfolding after begun
returns-then-not-on_map c = (zero-le, refl)

pub returns-then-across-down : goal.returns-then-across-down
unfolding after begun
returns-then-across-down c = (zero-le, refl)

-- a span by the edges
edged : (back back' : Bool) (here here' k low low' high high' : ℕ) → back ≡ back' → here ≡ here' → low ≡ low' → high ≡ high' → Spans back here k low high → Spans back' here' k low' high'
edged back back' here here' k low low' high high' e f g i = subst (λ (X : Type 0). X) (λ j. Spans (e j) (f j) k (g j) (i j))

pub go-requires : goal.go-requires
go-requires c =
    let a = c.args in
    let h = c.requires in
    let second = neither (eqb c.span-across.result 0) _ c.if-across-down.false in
    let across : 0 < c.span-across.result = omega (arith, eqb-false c.span-across.result 0 second.0) in
    let down : 0 < c.span-down.result = omega (arith, eqb-false c.span-down.result 0 second.1) in
    let at = c.destination_of-at.ensures in (
      record {
        has = h.0.strokes;
        stroke =
            sym (c.stroke_of.ensures.0 ∙ ap (λ (e : ℤ). stroke_of a.job.now.setup.travel e a.pen.drawing) (to_z-of_z w32 a.pen.e (search (rules, c.type_inv.pen)))) ∙ c.in-Some.is;
        small = rw c.in-Some.is at c.stroke_of.ensures.1;
        on = sym c.on_map.ensures ∙ c.if-not-on_map.false;
        column = at.0;
        row = at.1;
        some = (across, down);
        columns = edged _ _ _ _ _ _ _ _ _ c.goes_back.ensures refl h.0.left h.0.right (c.span-across.ensures across);
        rows = edged _ _ _ _ _ _ _ _ _ c.goes_back-2.ensures refl h.0.top h.0.bottom (c.span-down.ensures down);
      },
      h.1,
      h.2,
    )
