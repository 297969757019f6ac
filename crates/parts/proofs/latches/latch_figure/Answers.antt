-- `latch_figure` is the figure after the write: each field is its registers'.
use Rattle.parts.specs.Latches.{figure_latched}
use Rattle.parts.proofs.latches.latch_figure.Goals as goal

pub returns : goal.returns
unfolding figure_latched
returns c =
    let word = c in
    λ i. record {
      operations = word.take_word.ensures i;
      steps = word.take_word-2.ensures i;
      dimensions = c.latch_point.ensures i;
      origin = c.latch_point-2.ensures i;
    }
