-- `rows::traces::straight_by` makes the pixels in order while no step turns.
use Rattle.std.proofs.Common.{◌-◌}
use Rattle.rows.proofs.TraceLaws.{Along}
use Rattle.rows.proofs.traces.straight_by.Given as goal

abbrev pub invariant-loop-trail : goal.invariant-loop-trail
invariant-loop-trail g l = Along l.trail l.whole l.count l.initial.gone l.initial.memory l.gone l.memory

abbrev pub decreases-loop-trail : goal.decreases-loop-trail
decreases-loop-trail g l = l.count - l.gone.done
