-- `rows::Lane::pixels_in` is the definition: as many pixels as a byte has are a power of two, and all have room.
use Rattle.std.proofs.Common.{◌*◌, ◌%◌, ◌^◌, ◌∙◌, mod-eq_of_lt}
use Rattle.rows.proofs.LaneLaws.{per_pow}
use Rattle.rows.proofs.Lane.pixels_in.Goals as goal

pub returns : goal.returns
returns c = (λ i. c.args.bytes * per_pow c.args.self.format i % 2 ^ 32) ∙ mod-eq_of_lt c.requires
