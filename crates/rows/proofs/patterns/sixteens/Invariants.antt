-- `rows::patterns::sixteens` inks sixteen bytes after sixteen: as many of the pattern's pixels are two of its bytes.
use Rattle.std.proofs.Common.{◌≡◌, ◌*◌}
use Rattle.rows.specs.Inner.{row_inked}
use Rattle.rows.proofs.patterns.sixteens.Given as goal

abbrev pub invariant-loop-i : goal.invariant-loop-i
invariant-loop-i l = l.memory ≡ row_inked l.inks l.place 0 l.at (l.i * 16) l.initial.memory
