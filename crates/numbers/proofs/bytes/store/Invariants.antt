-- `store` lays the bytes: what is left to lay, laid on the buffer as it is, is always the whole laid on the buffer as it was.
use mathlib.Core.Path.{◌≡◌}
use Prim.Native.Nat.{◌+◌, ◌-◌, ◌≤◌}
use lib.ListN.{length}
use lib.Seq.{sets}
use Rattle.numbers.specs.Bytes.{le}
use Rattle.numbers.proofs.bytes.store.Given as goal

abbrev pub invariant-loop-i : goal.invariant-loop-i
invariant-loop-i l =
    (l.i ≤ l.count) × (length l.buffer ≡ length l.initial.buffer) × (sets l.buffer (l.at + l.i) (le (l.count - l.i) l.rest) ≡ sets l.initial.buffer l.at (le l.count l.value))

abbrev pub decreases-loop-i : goal.decreases-loop-i
decreases-loop-i l = l.count - l.i
