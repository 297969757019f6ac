-- `rows::patterns::dots` inks the bytes in order: after i turns memory is that of i bytes inked.
use Rattle.std.proofs.Common.{◌≡◌}
use Rattle.rows.specs.Inner.{row_inked}
use Rattle.rows.proofs.patterns.dots.Given as goal

abbrev pub invariant-loop-i : goal.invariant-loop-i
invariant-loop-i l = l.memory ≡ row_inked l.inks l.source l.n l.at l.i l.initial.memory
