-- `mixes::arithmetic::sum` meets its contract: with the bits between set, the sum stands for that of the two numbers.
use Rattle.mixes.proofs.Sums.{sum_stands, sum_lt}
use Rattle.mixes.proofs.arithmetic.sum.Goals as goal

pub returns : goal.returns
returns c =
    let start = c in
    let a = start.args in
    rw start.requires.ones (sum_stands _ _ _ _ start.requires.planes, sum_lt a.depth.bits a.depth.planes a.s a.d start.requires.planes)
