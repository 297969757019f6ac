-- `mixes::arithmetic::held_sum` meets its contract: the sum carries exactly where the number is above all enabled bits.
use mathlib.Core.Path.{◌≡◌, ◌∙◌, ap}
use Prim.Native.Nat.{ℕ, min}
use lib.Bits.{bit_and}
use Rattle.mixes.proofs.ArithmeticMixes.{held}
use Rattle.mixes.proofs.arithmetic.held_sum.Goals as goal
use Rattle.mixes.proofs.arithmetic.held_sum.Goals.{After-min}

least : (c : After-min) → c.min.result ≡ min c.sum.result c.args.depth.ones
least c = c.min.ensures

pub returns : goal.returns
returns c =
    let sum = c in
    let start = c in
    ap (λ (x : ℕ). bit_and x start.args.depth.planes) (least c.before)
    ∙ held _ _ start.requires.planes start.requires.ones sum.sum.ensures.0
