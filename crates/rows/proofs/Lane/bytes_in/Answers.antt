-- `rows::Lane::bytes_in` is the definition: as many pixels as a byte has are a power of two.
use Rattle.std.proofs.Common.{◌/◌}
use Rattle.rows.proofs.LaneLaws.{per_pow}
use Rattle.rows.proofs.Lane.bytes_in.Goals as goal

pub returns : goal.returns
returns c = λ i. c.args.count / per_pow c.args.self.format i
