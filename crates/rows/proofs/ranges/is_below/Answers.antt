-- `rows::ranges::is_below`: no byte of the one lies above its highest, and none of the other below its lowest.
use Rattle.std.proofs.Common.{arith, ltb-true}
use Rattle.rows.proofs.RangeLaws.{lowest_end, highest_end}
use Rattle.rows.proofs.ranges.is_below.Goals as goal

pub returns : goal.returns
returns c = λ holds i j few few'.
    let a = c.args in
    omega (
      arith,
      ltb-true c.source_end-highest.result c.source_end-lowest.result holds,
      c.source_end-highest.ensures,
      c.source_end-lowest.ensures,
      highest_end a.a i a.count few,
      lowest_end a.b j a.count few',
    )
