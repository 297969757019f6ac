-- `rows::traces::bend` makes one pixel and goes one step, which turns.
use Rattle.std.proofs.Common.{refl}
use Rattle.rows.proofs.TraceLaws.{reached_lt, goes_turned}
use Rattle.rows.proofs.traces.bend.Goals as goal

pub step-requires : goal.step-requires
step-requires c =
    let a = c.args in
    let h = c.requires in
    (reached_lt a.trail a.from h.0 h.1, h.0.2, h.2)

pub returns : goal.returns
returns c =
    let a = c.args in
    let h = c.requires in
    rw c.step.ensures (refl, goes_turned a.trail a.whole a.from _ _ h.1 c.dot.ensures h.3)
