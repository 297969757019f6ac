-- `mixes::arithmetic::average` meets its contract: what is made of the half and what is left of the number make the whole, and a turn takes one bit.
use Prim.Native.Nat.{◌+◌}
use lib.Dec.{ltb}
use Rattle.mixes.specs.Inner.{number_in}
use Rattle.mixes.proofs.Halves.{Halving}
use Rattle.mixes.proofs.arithmetic.average.Given as goal

abbrev pub invariant-loop-enabled : goal.invariant-loop-enabled
invariant-loop-enabled l =
    Halving l.depth.bits l.depth.planes (number_in l.depth l.s + number_in l.depth l.d) (ltb l.depth.ones l.total) l.enabled l.rest l.place l.below l.half

abbrev pub decreases-loop-enabled : goal.decreases-loop-enabled
decreases-loop-enabled l = l.enabled
