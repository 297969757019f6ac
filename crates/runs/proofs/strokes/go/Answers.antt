-- `go` is the stroke's positions: the pixels of its trail, and the pen by the number of the pixel there.
use Rattle.std.proofs.Common.{◌≡◌, ℕ, ◌+◌, ◌/◌, ◌%◌, ◌<◌, ◌≤◌, true, ◌&&◌, eqb, ltb, length, pos, sym, ap, ◌∙◌, subst, arith, w32, ltb-true, eqb-true}
use mir.ValLaws.{to_z-of_z}
use Rattle.numbers.specs.Choose.{choose}
use Rattle.numbers.specs.Circles.{circle}
use Rattle.numbers.proofs.Choices.{by_test, and_left, and_right}
use Rattle.pixels.specs.Inner.{place_at}
use Rattle.pixels.specs.Maps.{bits_of}
use Rattle.mixes.specs.Inner.{blended}
use Rattle.rows.specs.declared.Trail.{Trail}
use Rattle.rows.specs.Inner.{wholly, Alike, pixel_no, with_pixel_no, error_at, number_at, turns_at, traced}
use Rattle.rows.proofs.TraceLaws.{error_lt}
use Rattle.runs.specs.Runs.{begun, after}
use Rattle.runs.specs.Inner.{trail_from, error_of, pen_at}
use Rattle.runs.proofs.StrokedLaws.{stroke_termed}
use Rattle.runs.proofs.StrokeLaws.{place_held, stroke_done, is_stroke_lem}
use Rattle.runs.proofs.strokes.go.Goals as goal
use Rattle.runs.proofs.strokes.go.Goals.{After-trace-gone, After-turns_of-turns}

-- each pixel that is gone to lies in the memory
held : (c : After-turns_of-turns) → let t = trail_from c.args.job.now.setup.brush.destination c.args.stroke c.args.at.x c.args.at.y in
    (i : ℕ) → i ≤ c.count_of-count.result → turns_at t i ≤ c.turns_of-turns.result → place_at t.format t.base (number_at t i) < length c.args.memory.now
held c i less turn =
    let a = c.args in
    let counted = c.count_of-count.ensures in
    place_held a.job.now.setup a.pen a.stroke a.at.x a.at.y a.across a.down c.requires.0 _ c.requires.2 c.trail_of-trail.ensures.1 _ _ counted.1 counted.2
    counted.3 c.turns_of-turns.ensures.0 c.turns_of-turns.ensures.1 i less turn

-- how far it was gone
gone : (c : After-trace-gone) → let t = trail_from c.args.job.now.setup.brush.destination c.args.stroke c.args.at.x c.args.at.y in let n = c.trace-gone.result.done in
    (n ≤ c.count_of-count.result) × (turns_at t n ≤ c.turns_of-turns.result) × (c.trace-gone.result.at ≡ number_at t n) × (c.trace-gone.result.e ≡ error_at t n)
gone c =
    let e = c.trace-gone.ensures in
    let n = c.trace-gone.result.done in
    let same = c.trail_of-trail.ensures.0 in (
      e.0,
      subst (λ (t : Trail). turns_at t n ≤ c.turns_of-turns.result) same e.1,
      subst (λ (t : Trail). c.trace-gone.result.at ≡ number_at t n) same e.2,
      subst (λ (t : Trail). c.trace-gone.result.e ≡ error_at t n) same e.3,
    )

pub trace-gone-requires : goal.trace-gone-requires
trace-gone-requires c =
    let a = c.args in
    rw c.trail_of-trail.ensures.0 (
      stroke_termed a.job.now.setup a.pen.e a.pen.drawing a.stroke a.job.now.setup.brush.destination a.at.x a.at.y c.requires.0.stroke,
      λ i less turn. held (goal.at.trace-gone-requires c).After-turns_of-turns i (omega arith) turn,
    )

pub end-requires : goal.end-requires
end-requires c ends =
    let far = gone (goal.at.end-requires c).After-trace-gone in
    rw (c.trace-gone.auto.memory, far.2, c.trail_of-trail.ensures.0) (held (goal.at.end-requires c).After-turns_of-turns _ far.0 far.1)

pub error_on-requires : goal.error_on-requires
error_on-requires c =
    let far = gone (goal.at.error_on-requires c).After-trace-gone in
    let a = c.args in
    let small = stroke_termed a.job.now.setup a.pen.e a.pen.drawing a.stroke a.job.now.setup.brush.destination a.at.x a.at.y c.requires.0.stroke in
    rw far.3 (error_lt (trail_from a.job.now.setup.brush.destination a.stroke a.at.x a.at.y) _ small.0)

-- what ends says
ends_at : (c : After-trace-gone) → let n = c.trace-gone.result.done in let a = c.args in
    (eqb n a.stroke.steps && ltb n a.allowance) ≡ true → (n ≡ a.stroke.steps) × (n < a.allowance)
ends_at c ends =
    let n = c.trace-gone.result.done in
    let all = eqb n c.args.stroke.steps in
    (eqb-true _ _ (and_left all _ ends), ltb-true _ _ (and_right all _ ends))

-- no more are done than are allowed
allowed : (c : After-trace-gone) → let n = c.trace-gone.result.done in let a = c.args in
    choose (eqb n a.stroke.steps && ltb n a.allowance) (n + 1) n ≤ a.allowance
allowed c =
    let n = c.trace-gone.result.done in
    let a = c.args in
    by_test (λ (k : ℕ). k ≤ a.allowance) (eqb n a.stroke.steps && ltb n a.allowance) (λ ends. omega (arith, (ends_at c ends).1))
    (λ goes. omega (arith, (gone c).0, c.count_of-count.ensures.0))

pub returns : goal.returns
returns c = (
  omega (arith, c.done_by.ensures, allowed (goal.at.returns c).After-trace-gone),
  let a = c.args in
      let h = c.requires in
      let s = a.job.now.setup in
      let blends = a.job.now.blends in
      let inks = a.job.now.inked h.2.depth in
      let map = s.brush.destination in
      let t = trail_from a.job.now.setup.brush.destination a.stroke a.at.x a.at.y in
      let n = c.trace-gone.result.done in
      let ends = eqb n a.stroke.steps && ltb n a.allowance in
      let far = gone (goal.at.returns c).After-trace-gone in
      let counted = c.count_of-count.ensures in
      let turning = c.turns_of-turns.ensures in
      let made : ℕ → ℕ = blended (bits_of map.format) blends.foreground 0 in
      let op = blended (bits_of map.format) blends.foreground in
      let same = c.trail_of-trail.ensures.0 in
      let stroke = is_stroke_lem s a.pen a.stroke a.at.x a.at.y a.across a.down h.0 _ h.2 c.trail_of-trail.ensures.1 _ _ counted.1 counted.2 counted.3 turning.0 turning.1 in
      let pens = c.pen_at.ensures
      ∙ (λ j. pen_at (circle 2048 8192 (pos (far.2 j % (map.width + 1)))) (circle 2048 8192 (pos (far.2 j / (map.width + 1))))
      ((to_z-of_z w32 c.error_on.result (record { sfits = c.error_on.type_inv }) ∙ c.error_on.ensures ∙ ap (λ (e : ℕ). error_of a.pen.drawing e a.pen.e) far.3) j) (c.drawing_on.ensures stroke j) a.pen) in
      let alike' = subst (λ (t : Trail). Alike t.format op (wholly a.whole)) (sym same) h.1 in
      let drew = c.trace-gone.ensures.4 op alike' ∙ (λ j. traced made (same j) n a.memory.now) in
      let memory = c.end.ensures op alike'
      ∙ (λ j. choose ends (with_pixel_no (same j).format (same j).base (far.2 j) (made (pixel_no (same j).format (same j).base (far.2 j) (drew j))) (drew j)) (drew j)) in
      ap (λ (k : ℕ). after s k (begun a.pen a.memory.now)) c.done_by.ensures
      ∙ stroke_done s a.pen a.stroke a.at.x a.at.y a.across a.down h.0 _ h.2 c.trail_of-trail.ensures.1 _ _ counted.1 counted.2 counted.3 turning.0 turning.1
      blends inks a.memory.now ends n far.0 far.1 (λ e. (ends_at (goal.at.returns c).After-trace-gone e).0)
      ∙ (λ j. record { pen = sym pens j; memory = sym memory j; done = sym c.done_by.ensures j }),
)
