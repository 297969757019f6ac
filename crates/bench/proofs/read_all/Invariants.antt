-- `read_all` reads while there may be more, and while reads are left.
use Rattle.std.proofs.Common.{◌≡◌, ◌-◌, length, true}
use Rattle.bench.specs.Inner.{session_of}
use Rattle.bench.specs.Played.{progress_of, begun, Reads}
use Rattle.bench.proofs.read_all.Given as goal

abbrev pub invariant-loop : goal.invariant-loop
invariant-loop g l =
    Reads (begun (session_of l.initial.bench)) (progress_of l.bench true (18446744073709551615 - l.counter))
    × (l.bench.text.laid ≡ 0) × (length l.piece ≡ 1024)
