-- `fetch` reads the number from its highest byte down: at each turn it is the number of the bytes passed.
use mathlib.Core.Path.{◌≡◌}
use Prim.Native.Nat.{◌+◌, ◌-◌, ◌^◌, ◌≤◌, ◌<◌}
use lib.ListN.{take, drop}
use Rattle.numbers.specs.Bytes.{number_of}
use Rattle.numbers.proofs.bytes.fetch.Given as goal

abbrev pub invariant-loop-i : goal.invariant-loop-i
invariant-loop-i l =
    (l.i ≤ l.count) × (l.number ≡ number_of (take (l.count - l.i) (drop (l.at + l.i) l.buffer))) × (l.number < 256 ^ (l.count - l.i))

abbrev pub decreases-loop-i : goal.decreases-loop-i
decreases-loop-i l = l.i
