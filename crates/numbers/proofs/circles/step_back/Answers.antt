-- `step_back` is one step back on the circle: from 0 it comes to the last, and inside it takes 1.
use Prim.Native.Nat.{◌+◌, ◌-◌}
use native.Mathlib.Omega.{arith}
use native.Mathlib.Nat.{mod-eq_of_lt}
use Rattle.numbers.proofs.CircleLaws.{back_one, back_first}
use Rattle.numbers.proofs.circles.step_back.Goals as goal

pub returns-then-x-eq0 : goal.returns-then-x-eq0
returns-then-x-eq0 c = rw c.if-x-eq0.true (omega (arith, back_first (c.args.last + 1) (omega arith)))

pub returns-else-x-eq0 : goal.returns-else-x-eq0
returns-else-x-eq0 c =
    let a = c.args in
    rw (back_one (a.last + 1) a.x (omega arith) (omega (arith, c.if-x-eq0.false)), mod-eq_of_lt {n = a.x - 1} {m = a.last + 1} (omega arith))
