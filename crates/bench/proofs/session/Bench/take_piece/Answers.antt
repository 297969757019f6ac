-- `take_piece` takes byte after byte: those taken and those left make the whole, and each has room for an answer.
use Rattle.std.proofs.Common.{arith, sym, ◌∙◌}
use Rattle.bench.proofs.SessionLaws.{bytes_on, bytes_end}
use Rattle.bench.proofs.session.Bench.take_piece.Goals as goal

pub loop-byte-preserved : goal.loop-byte-preserved
loop-byte-preserved c =
    let h = c.hear_byte.ensures in
    (omega (arith, h.room, c.loop-byte.invariant.0), rw h.session (sym (bytes_on _ _ _ c.loop-byte-test.true) ∙ c.loop-byte.invariant.1))

pub returns : goal.returns
returns c = sym (bytes_end _ _ _ c.loop-byte-test.false) ∙ c.loop-byte.invariant.1
