-- `latch` puts the register together from its highest byte down: at each turn the number is that of the bytes passed.
use mathlib.Core.Path.{◌≡◌}
use Prim.Native.Nat.{◌+◌, ◌-◌, ◌/◌, ◌^◌, ◌≤◌}
use Rattle.numbers.specs.Bytes.{latched}
use Rattle.numbers.proofs.bytes.latch.Given as goal

abbrev pub invariant-loop-k : goal.invariant-loop-k
invariant-loop-k l = (l.k ≤ l.bytes) × (l.number ≡ latched (l.bytes - l.k) (l.at + l.k) l.w (l.stored / 256 ^ l.k))
