-- `take_piece` takes byte after byte: those taken and those left make the whole, and each has room for an answer.
use Rattle.std.proofs.Common.{◌≡◌, ◌+◌, ◌*◌, ◌≤◌, drop}
use Rattle.bench.specs.Inner.{session_of, bytes_taken}
use Rattle.bench.proofs.session.Bench.take_piece.Given as goal

abbrev pub invariant-loop-byte : goal.invariant-loop-byte
invariant-loop-byte l =
    (l.self.text.laid ≤ l.initial.self.text.laid + 40 * l.byte-index)
    × (bytes_taken (drop l.byte-index l.piece) (session_of l.self) ≡ bytes_taken l.piece (session_of l.initial.self))
