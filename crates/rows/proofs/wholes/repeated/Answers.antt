-- `rows::wholes::repeated` is the definition, size by size.
use Rattle.std.proofs.Common.{◌≡◌, ◌%◌, arith}
use Rattle.pixels.specs.Maps.{bits_of}
use Rattle.rows.specs.Inner.{repeated_in}
use Rattle.rows.proofs.wholes.repeated.Goals as goal

pub returns-in-0 : goal.returns-in-0
unfolding bits_of repeated_in
returns-in-0 c = rw c.in-0.is

pub returns-in-1 : goal.returns-in-1
unfolding bits_of repeated_in
returns-in-1 c = rw c.in-1.is

pub returns-in-2 : goal.returns-in-2
unfolding bits_of repeated_in
returns-in-2 c = rw c.in-2.is

pub returns-in_default : goal.returns-in_default
unfolding bits_of repeated_in
returns-in_default c = let last : c.args.format % 4 ≡ 3 = omega arith in rw last (omega arith)
