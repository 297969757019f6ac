-- `run` is that many positions: each turn adds those that it did, and a drawing in hand stays safe.
use Rattle.std.proofs.Common.{◌≡◌, ◌-◌, ◌≤◌, true, length}
use Rattle.parts.specs.Drawings.{unfinished}
use Rattle.position.specs.Inner.{Safe}
use Rattle.runs.specs.Runs.{begun, after}
use Rattle.runs.proofs.run.Given as goal

abbrev pub invariant-loop-done : goal.invariant-loop-done
invariant-loop-done l =
    (l.done ≤ l.allowance)
    × (length l.memory ≡ length l.initial.memory)
    × (after l.fn.setup l.done (begun l.initial.pen l.initial.memory) ≡ record { pen = l.pen; memory = l.memory; done = l.done })
    × (unfinished l.pen.drawing ≡ true → Safe l.fn.setup (length l.initial.memory) l.pen)

abbrev pub decreases-loop-done : goal.decreases-loop-done
decreases-loop-done l = l.allowance - l.done
