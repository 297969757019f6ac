-- `latch_pointers` is the pointers after the write: each is its registers', and pointers that the write does not reach stay.
use mathlib.Core.Path.{sym, ◌∙◌}
use Rattle.parts.specs.Latches.{pointers_latched}
use Rattle.parts.proofs.LatchLaws.{pointers_untouched}
use Rattle.parts.proofs.latches.latch_pointers.Goals as goal

pub returns-then-touches : goal.returns-then-touches
unfolding pointers_latched
returns-then-touches c = λ i. record {
  source = c.latch_point.ensures i;
  pattern = c.latch_point-then-touches.ensures i;
  destination =
      c.latch_spot.ensures i;
}

pub returns-else-touches : goal.returns-else-touches
returns-else-touches c = sym (pointers_untouched _ _ (sym c.touches.ensures ∙ c.if-touches.false))
