-- `rows::traces::straight_by` makes the pixels in order while no step turns.
use Rattle.std.proofs.Common.{◌≡◌, true, not, sym, ap, ◌∙◌, ne_eqb}
use Rattle.rows.specs.Inner.{Dotted, straight_on}
use Rattle.rows.proofs.TraceLaws.{along_next}
use Rattle.rows.proofs.traces.straight_by.Goals as goal
use Rattle.rows.proofs.traces.straight_by.Goals.{In-loop-trail, Joined-this-ne0, then-this-ne0, else-this-ne0}

on : (g : _) (c : In-loop-trail g) → straight_on c.loop-trail.gone c.args.count ≡ true
on g c = sym c.is_straight.ensures ∙ c.loop-trail-test.true

-- the pixel that is made
dotted : (g : _) (c : Joined-this-ne0 g) → let t = c.args.trail in
    Dotted t.format t.base c.loop-trail.gone.at c.args.whole c.loop-trail.memory c.if-this-ne0.memory
dotted g c =
    elim c.if-this-ne0.branch [
      | then-this-ne0 w ↦ rw w.memory-is (w.byte.ensures _ (c.requires.0 (ap not (ne_eqb _ 0 w.if-this-ne0.true))))
      | else-this-ne0 w ↦ rw w.memory-is w.part.ensures
    ]

pub loop-trail-preserved : goal.loop-trail-preserved
loop-trail-preserved g c =
    rw c.ahead-gone.ensures
    (along_next _ _ _ _ _ _ _ c.requires.1 c.loop-trail.invariant (on g (goal.at.loop-trail-preserved g c).In-loop-trail)
    _ c.if-this-ne0.auto.memory (dotted g (goal.at.loop-trail-preserved g c).Joined-this-ne0))
