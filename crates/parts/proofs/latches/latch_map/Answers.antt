-- `latch_map` is the map after the write: each field is its register's, and a map that the write does not reach stays.
use mathlib.Core.Path.{sym, ◌∙◌}
use Rattle.parts.specs.Latches.{map_latched}
use Rattle.parts.proofs.LatchLaws.{map_untouched}
use Rattle.parts.proofs.latches.latch_map.Goals as goal

pub returns-then-touches : goal.returns-then-touches
unfolding map_latched
returns-then-touches c =
    let width = c in
    λ i. record {
      base = width.take_word.ensures i;
      width = width.take_twelve_bits.ensures i;
      height = c.take_twelve_bits-then-touches.ensures i;
      format = c.take_bits.ensures i;
    }

pub returns-else-touches : goal.returns-else-touches
returns-else-touches c = sym (map_untouched _ _ (sym c.touches.ensures ∙ c.if-touches.false))
