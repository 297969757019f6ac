-- `in_mask` is the definition: without a boundary all is inside, and otherwise both places from the mask's origin lie within.
use mathlib.Core.Path.{◌≡◌}
use mathlib.Core.Bool.{false}
use native.Mathlib.Omega.{arith}
use Rattle.std.proofs.lemmas.Grind.{common_steps}
use Rattle.places.specs.Places.{is_within, mask_x, mask_y, named_mask, is_disabled, in_mask}
use Rattle.places.proofs.places.in_mask.Goals as goal

pub returns-then-eq : goal.returns-then-eq
unfolding in_mask
returns-then-eq c = grind (arith, common_steps)

pub returns-else-eq : goal.returns-else-eq
unfolding mask_x mask_y in_mask
returns-else-eq c =
    let brush = c.args.brush in
    let pen = c.args.pen in
    let bounds : is_disabled (named_mask brush.mask.mode) ≡ false = grind (arith, common_steps) in
    let across : c.is_within.result ≡ is_within brush.mask.map.width (mask_x brush pen) = grind (arith, common_steps) in
    let down : c.is_within-else-eq.result ≡ is_within brush.mask.map.height (mask_y brush pen) = grind (arith, common_steps) in
    rw (bounds, across, down)
