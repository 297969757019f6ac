-- `holds` is the definition: condition 4 is true of nothing.
use Rattle.mixes.specs.Conditions.{holds_of, condition_holds}
use Rattle.mixes.proofs.conditions.holds.Goals as goal

pub returns-then-condition-eq-NEVER : goal.returns-then-condition-eq-NEVER
unfolding holds_of condition_holds
returns-then-condition-eq-NEVER c = rw c.if-condition-eq-NEVER.true
