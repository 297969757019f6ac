-- `run_singly` is that many positions: at each turn pen, memory and count are those of the positions done, and a drawing in hand is safe, as every move keeps it so.
use Rattle.std.proofs.Common.{◌≡◌, true, length}
use Rattle.parts.specs.Drawings.{unfinished}
use Rattle.position.specs.Inner.{Safe}
use Rattle.runs.specs.Runs.{begun, after}
use Rattle.runs.proofs.singly.run_singly.Given as goal

abbrev pub invariant-loop-done : goal.invariant-loop-done
invariant-loop-done l =
    (length l.memory ≡ length l.initial.memory)
    × (after l.job.setup l.done (begun l.initial.pen l.initial.memory) ≡ record { pen = l.pen; memory = l.memory; done = l.done })
    × (unfinished l.pen.drawing ≡ true → Safe l.job.setup (length l.initial.memory) l.pen)
