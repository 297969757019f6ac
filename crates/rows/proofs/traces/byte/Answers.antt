-- `rows::traces::byte` sets the one byte, which is the pixel.
use Rattle.std.proofs.Common.{◌+◌, set, ap, ◌∙◌, arith, rules}
use Rattle.rows.proofs.CarryLaws.{Masks}
use Rattle.rows.proofs.TraceLaws.{byte_made}
use Rattle.rows.proofs.traces.byte.Goals as goal
use Rattle.rows.proofs.traces.byte.Goals.{Start}

masks : (c : Start) → Masks c.args.whole
masks c = record { always = omega arith; source = omega arith; destination = omega arith; both = omega arith }

pub returns : goal.returns
returns c = λ format eight op alike.
    let start = c in
    let a = start.args in
    let m = a.memory.now in
    ap (set m (a.base + a.n)) c.alone.ensures
    ∙ byte_made op a.whole format a.base a.n m eight alike (masks (goal.at.returns c).Start) (λ j. search rules)
