-- `rows::traces::alone` keeps what is not turned where it is 1.
use Rattle.std.proofs.Common.{sym, ◌∙◌, arith}
use Rattle.rows.proofs.CarryLaws.{kept, wholly_none}
use Rattle.rows.proofs.traces.alone.Goals as goal

pub returns : goal.returns
returns c =
    let a = c.args in
    let w = a.whole in
    sym (wholly_none w a.d ∙ kept w.always w.destination a.d (omega arith) (omega arith) (omega arith))
