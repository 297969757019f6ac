-- `is_placed` is the definition at each length: 1, 2 and 4 by their own test, and no other.
use native.Mathlib.Nat.{mod-one}
use borrow.Author.Tests.{ne_eqb}
use Rattle.parts.specs.Registers.{placed}
use Rattle.parts.proofs.registers.is_placed.Goals as goal

pub returns-in-1 : goal.returns-in-1
unfolding placed
returns-in-1 c = rw (c.in-1.is, mod-one)

pub returns-in-2 : goal.returns-in-2
unfolding placed
returns-in-2 c = rw c.in-2.is

pub returns-in-4 : goal.returns-in-4
unfolding placed
returns-in-4 c = rw c.in-4.is

pub returns-in_default : goal.returns-in_default
unfolding placed
returns-in_default c =
    simp (ne_eqb _ _ c.in_default.in_default-own.rest.0.0.1, ne_eqb _ _ c.in_default.in_default-own.rest.0.1, ne_eqb _ _ c.in_default.in_default-own.rest.1)
