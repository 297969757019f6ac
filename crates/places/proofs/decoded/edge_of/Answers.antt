-- `edge_of` is the choice by the drawing mode.
use native.Mathlib.Omega.{arith}
use Rattle.std.proofs.lemmas.Grind.{common_steps}
use Rattle.places.specs.Decoded.{edge_of}
use Rattle.places.proofs.decoded.edge_of.Goals as goal

pub returns-then-mode_of-eq3 : goal.returns-then-mode_of-eq3
unfolding edge_of
returns-then-mode_of-eq3 c = grind (arith, common_steps)

pub returns-else-mode_of-eq3 : goal.returns-else-mode_of-eq3
unfolding edge_of
returns-else-mode_of-eq3 c = grind (arith, common_steps)
