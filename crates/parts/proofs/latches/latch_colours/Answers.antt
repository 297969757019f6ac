-- `latch_colours` is the colours after the write: each field is its registers', and colours that the write does not reach stay.
use mathlib.Core.Path.{sym, ◌∙◌}
use Rattle.parts.specs.Latches.{colours_latched}
use Rattle.parts.proofs.LatchLaws.{colours_untouched}
use Rattle.parts.proofs.latches.latch_colours.Goals as goal

pub returns-then-touches : goal.returns-then-touches
unfolding colours_latched
returns-then-touches c =
    let inks = c in
    λ i. record {
      foreground = inks.latch_ink.ensures i;
      background = inks.latch_ink-then-touches.ensures i;
      compare = c.latch_compare.ensures i;
      planes = c.take_word.ensures i;
      carries = c.take_word-then-touches.ensures i;
    }

pub returns-else-touches : goal.returns-else-touches
returns-else-touches c = sym (colours_untouched _ _ (sym c.touches.ensures ∙ c.if-touches.false))
