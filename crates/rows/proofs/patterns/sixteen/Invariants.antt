-- `rows::patterns::sixteen` inks the bytes in order, by the two bytes of the pattern that it read before.
use Rattle.std.proofs.Common.{◌≡◌}
use Rattle.rows.specs.Inner.{row_inked}
use Rattle.rows.proofs.patterns.sixteen.Given as goal

abbrev pub invariant-loop-i : goal.invariant-loop-i
invariant-loop-i l = l.memory ≡ row_inked l.inks l.place 0 l.at l.i l.initial.memory
