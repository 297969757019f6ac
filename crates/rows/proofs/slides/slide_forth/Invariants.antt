-- `rows::slides::slide_forth` makes the bytes in order: after i turns memory is that of i bytes made.
use Rattle.std.proofs.Common.{◌≡◌, false}
use Rattle.rows.specs.Inner.{wholly, slid}
use Rattle.rows.proofs.slides.slide_forth.Given as goal

abbrev pub invariant-loop-i : goal.invariant-loop-i
invariant-loop-i l = l.memory ≡ slid (wholly l.whole) l.down false l.low l.high l.to l.i l.initial.memory
