-- `rows::bytes::make` makes the bytes in order: after i turns memory is that of i bytes made.
use Rattle.std.proofs.Common.{◌≡◌, ℕ}
use Rattle.mixes.specs.Inner.{Gives}
use Rattle.rows.specs.Inner.{carried}
use Rattle.rows.proofs.bytes.make.Given as goal

abbrev pub invariant-loop-i : goal.invariant-loop-i
invariant-loop-i g l =
    (op : ℕ → ℕ → ℕ) → Gives (goal.F-post g l.byte) op → l.memory ≡ carried op l.on.back l.on.from l.on.to l.i l.initial.memory
