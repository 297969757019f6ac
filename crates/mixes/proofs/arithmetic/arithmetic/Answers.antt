-- `mixes::arithmetic::arithmetic` meets its contract: each arm is its code's place in the list of the mixes, worked on the enabled bits where they stand.
use Rattle.mixes.specs.Mixes.{worked, arithmetic}
use Rattle.mixes.proofs.Codes.{past}
use Rattle.mixes.proofs.ArithmeticMixes.{arithmetic_past, greater_standing, lesser_standing, difference_standing}
use Rattle.mixes.proofs.arithmetic.arithmetic.Goals as goal

pub returns-in-16 : goal.returns-in-16
unfolding worked arithmetic
returns-in-16 c = rw (c.max.ensures, c.in-16.is) (greater_standing _ _ c.requires.0.planes _ _)

pub returns-in-17 : goal.returns-in-17
unfolding worked arithmetic
returns-in-17 c = rw (c.min.ensures, c.in-17.is) (lesser_standing _ _ c.requires.0.planes _ _)

pub returns-in-18 : goal.returns-in-18
unfolding worked arithmetic
returns-in-18 c = rw (c.held_sum.ensures, c.in-18.is)

pub returns-in-19 : goal.returns-in-19
unfolding worked arithmetic
returns-in-19 c = rw (c.saturating_sub.ensures, c.in-19.is) (difference_standing _ _ c.requires.0.planes _ _)

pub returns-in-20 : goal.returns-in-20
unfolding worked arithmetic
returns-in-20 c = rw (c.saturating_sub-in-20.ensures, c.in-20.is) (difference_standing _ _ c.requires.0.planes _ _)

pub returns-in-21 : goal.returns-in-21
unfolding worked arithmetic
returns-in-21 c = rw (c.average.ensures, c.in-21.is)

pub returns-in_default : goal.returns-in_default
returns-in_default c = arithmetic_past _ _ _ _ _ (past 16 6 _ c.requires.1 c.in_default.in_default-own.rest)
