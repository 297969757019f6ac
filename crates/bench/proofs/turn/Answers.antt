-- `turn` takes the bytes that came and hands on what they print, whatever the system delivers.
use Rattle.bench.specs.Played.{progress_of, turned}
use Rattle.bench.proofs.turn.Goals as goal

pub returns-clause-turned : goal.returns-clause-turned
unfolding progress_of turned
returns-clause-turned g c =
    let a = c.hear-came in let b = c.take_piece.ensures in let d = c.hand_on.ensures in
    λ left. record { came = a.result; same = rw (d.session, b, ← a.ensures.prefix_len.1) }
