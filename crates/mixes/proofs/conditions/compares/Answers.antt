-- `compares` is the definition: the masked pixels compare as the gathered bits do, so each arm is the condition of its number.
use mathlib.Core.Path.{◌≡◌, sym}
use Prim.Native.Nat.{ℕ, zero-le}
use lib.Bits.{bit_and}
use Rattle.mixes.specs.Conditions.{holds_of, condition_holds}
use Rattle.mixes.proofs.Codes.{past}
use Rattle.mixes.proofs.Order.{holds_masked, holds_past}
use Rattle.mixes.proofs.conditions.compares.Goals as goal
use Rattle.mixes.proofs.conditions.compares.Goals.{Start}

-- what condition k says of the masked pixels is the answer where the condition is k
answer : (c : Start) (k : ℕ) → let a = c.args in a.condition ≡ k
    → holds_of k (bit_and a.destination a.depth.planes) (bit_and a.value a.depth.planes)
    ≡ condition_holds a.depth.bits a.condition a.depth.planes a.destination a.value
answer c k e = rw e (sym (holds_masked _ k _ _ _ c.requires.planes))

pub returns-in-0 : goal.returns-in-0
unfolding holds_of
returns-in-0 c = answer c.before.before.before 0 c.in-0.is

pub returns-in-1 : goal.returns-in-1
unfolding holds_of
returns-in-1 c = answer c.before.before.before 1 c.in-1.is

pub returns-in-2 : goal.returns-in-2
unfolding holds_of
returns-in-2 c = answer c.before.before.before 2 c.in-2.is

pub returns-in-3 : goal.returns-in-3
unfolding holds_of
returns-in-3 c = answer c.before.before.before 3 c.in-3.is

pub returns-in-4 : goal.returns-in-4
unfolding holds_of
returns-in-4 c = answer c.before.before.before 4 c.in-4.is

pub returns-in-5 : goal.returns-in-5
unfolding holds_of
returns-in-5 c = answer c.before.before.before 5 c.in-5.is

pub returns-in-6 : goal.returns-in-6
unfolding holds_of
returns-in-6 c = answer c.before.before.before 6 c.in-6.is

pub returns-in-7 : goal.returns-in-7
unfolding holds_of
returns-in-7 c = answer c.before.before.before 7 c.in-7.is

pub returns-in_default : goal.returns-in_default
returns-in_default c = sym (holds_past _ _ _ _ _ (past 0 8 _ zero-le c.in_default.in_default-own.rest))
