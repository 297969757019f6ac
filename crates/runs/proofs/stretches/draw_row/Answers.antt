-- `draw_row` is a stretch: the lane of its row drawn, and the pen as many columns further.
use Rattle.std.proofs.Common.{◌≡◌, suc, ◌-◌, ◌<◌, sym, refl, ap, ◌∙◌, subst, zero-le, arith}
use Rattle.rows.specs.declared.Lane.{Lane}
use Rattle.rows.specs.Inner.{swept_from}
use Rattle.runs.specs.Runs.{begun, after}
use Rattle.runs.specs.Inner.{row_op, Makes, Stretch}
use Rattle.runs.proofs.StretchLaws.{column_in}
use Rattle.runs.proofs.RowLaws.{row_laid, stretch_on, row_makes, stretch_run}
use Rattle.runs.proofs.stretches.draw_row.Goals as goal
use Rattle.runs.proofs.stretches.draw_row.Goals.{Else-count-eq0}

-- the positions from the pen on are a stretch
some : (c : Else-count-eq0) → 0 < c.length_of-count.result
some c = omega (arith, c.if-count-eq0.false)

stretch : (c : Else-count-eq0) → let a = c.args in Stretch a.job.now.setup a.plan.now a.pen c.length_of-count.result
stretch c = (c.length_of-count.ensures (some c)).0

pub returns-then-count-eq0 : goal.returns-then-count-eq0
unfolding after begun
returns-then-count-eq0 c = (zero-le, refl)

pub draw_lane-requires : goal.draw_lane-requires
draw_lane-requires c =
    let a = c.args in
    let h = c.requires in
    let lane = c.lane_of-lane.ensures in
    let long = (goal.at.draw_lane-requires c).Else-count-eq0 in
    rw lane.0 (row_laid a.job.now.setup a.plan.now h.0 a.pen _ _ h.2 (stretch long) (some long) lane.1 lane.2)

pub returns-then-not-draw_lane : goal.returns-then-not-draw_lane
unfolding after begun
returns-then-not-draw_lane c =
    let a = c.args in
    let kept = c.draw_lane.ensures.0 (c.if-not-draw_lane.true) in
    (zero-le, λ i. record { pen = a.pen; memory = sym kept i; done = 0 })

pub pass_stretch-requires : goal.pass_stretch-requires
pass_stretch-requires c =
    let a = c.args in
    let h = c.requires in
    let long = (goal.at.pass_stretch-requires c).Else-count-eq0 in
    let st = stretch long in (
      some long,
      λ inside column row e. let same : column ≡ st.column = ap column_in (sym e ∙ st.drawing) in (omega (arith, st.ends), omega (arith, st.small)),
      h.2.pointers,
      stretch_on a.job.now.setup a.plan.now h.0 a.pen _ _ h.2 st (some long),
    )

pub returns : goal.returns
returns c = (
  (c.length_of-count.ensures (some (goal.at.returns c).Else-count-eq0)).1,
  let a = c.args in
      let h = c.requires in
      let s = a.job.now.setup in
      let blends = a.job.now.blends in
      let inks = a.job.now.inked h.2.depth in
      let taken = a.plan.now.takes in
      let st = stretch (goal.at.returns c).Else-count-eq0 in
      let k = c.length_of-count.result in
      let n = k - 1 in
      let all : k ≡ suc n = omega (arith, some (goal.at.returns c).Else-count-eq0) in
      let went = c.pass_stretch.ensures st.column st.row st.drawing in
      let lane = c.lane_of-lane.ensures.0 in
      let makes = row_makes s a.plan.now h.0 a.pen _ k h.2 st blends inks h.1 in
      let drew = c.draw_lane.ensures.1 (c.if-not-draw_lane.false) (row_op s blends taken)
      (subst (λ (l : Lane). Makes taken l.format (row_op s blends taken) a.plan.now.front a.plan.now.rear) (sym lane) makes)
      ∙ (λ j. swept_from a.plan.now.map.format (row_op s blends taken) (lane j) k a.memory.now) in
      stretch_run s a.plan.now h.0 a.pen _ k h.2 st blends inks n all a.memory.now
      ∙ λ i. record { pen = sym went i; memory = sym drew i; done = k },
)
