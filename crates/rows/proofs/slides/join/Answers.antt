-- `rows::slides::join` is the definition.
use Rattle.std.proofs.Common.{refl}
use Rattle.rows.specs.Inner.{joined}
use Rattle.rows.proofs.slides.join.Goals as goal

pub returns : goal.returns
unfolding joined
returns c = refl
