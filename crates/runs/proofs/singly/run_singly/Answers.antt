-- `run_singly` is that many positions: at each turn pen, memory and count are those of the positions done, and a drawing in hand is safe, as every move keeps it so.
use Rattle.std.proofs.Common.{◌+◌, Bool, length, sym, refl, ap, ◌∙◌, arith}
use Rattle.parts.specs.Drawings.{with_inside}
use Rattle.moves.specs.Moves.{pen_with, moved}
use Rattle.position.specs.Drawn.{crossed}
use Rattle.position.specs.Inner.{Safe}
use Rattle.position.proofs.Safety.{safe_within, safe_with, safe_moved}
use Rattle.runs.specs.Runs.{Run, begun, positioned, after}
use Rattle.runs.proofs.AfterLaws.{after_rest, after_on, parts}
use Rattle.runs.proofs.singly.run_singly.Goals as goal
use Rattle.runs.proofs.singly.run_singly.Goals.{Else-not-is_unfinished}

-- a drawing in hand is safe
safe : (c : Else-not-is_unfinished) → Safe c.args.job.now.setup (length c.args.memory.now) c.loop-done.pen
safe c = c.loop-done.invariant.2 (sym c.is_unfinished.ensures ∙ c.if-not-is_unfinished.false)

pub loop-done-init : goal.loop-done-init
unfolding after begun
loop-done-init c = (refl, refl, c.requires)

pub returns-then-not-is_unfinished : goal.returns-then-not-is_unfinished
returns-then-not-is_unfinished c =
    let at = c.loop-done in
    let u : Run = record { pen = at.pen; memory = at.memory; done = at.done } in
    parts _ u (after_rest _ _ _ _ u at.invariant.1 (omega (arith, c.loop-done-test.true)) (sym c.is_unfinished.ensures ∙ c.if-not-is_unfinished.true))

pub draw-inside-requires : goal.draw-inside-requires
draw-inside-requires c =
    let held = safe (goal.at.draw-inside-requires c).Else-not-is_unfinished in
    (held.crossing, held.depth, c.args.job.now.inked held.depth, rw c.loop-done.invariant.0 (safe_within _ _ _ held))

pub loop-done-preserved : goal.loop-done-preserved
unfolding positioned crossed
loop-done-preserved c =
    let at = c.loop-done in
    let held = safe (goal.at.loop-done-preserved c).Else-not-is_unfinished in
    let drawn = c.draw-inside in
    let next = c.next-pen.ensures in
    let s = c.args.job.now.setup in
    let went = next ∙ ap (λ (inside : Bool). moved s.travel (pen_with (with_inside inside at.pen.drawing) at.pen)) drawn.ensures.0 in
    let u : Run = record { pen = at.pen; memory = at.memory; done = at.done } in (
      drawn.auto.memory ∙ at.invariant.0,
      after_on _ _ _ u at.invariant.1 (sym c.is_unfinished.ensures ∙ c.if-not-is_unfinished.false)
          ∙ λ i. record { pen = sym went i; memory = sym drawn.ensures.1 i; done = at.done + 1 },
      λ more. rw next (safe_moved _ _ _ (safe_with _ _ _ _ held)),
    )
