-- `source_read` is the pixel at the source pointer, which lies in the memory where it is read.
use mathlib.Core.Path.{sym, ◌∙◌}
use Rattle.numbers.proofs.Choices.{choose_true, choose_false}
use Rattle.position.specs.Drawn.{source_pixel}
use Rattle.position.specs.Inner.{source_read}
use Rattle.position.proofs.look.source_read.Goals as goal

pub returns-then-reads_source : goal.returns-then-reads_source
unfolding source_pixel source_read
returns-then-reads_source c = c.get.ensures ∙ sym (choose_true _ 0 (sym c.reads_source.ensures ∙ c.if-reads_source.true))

pub returns-else-reads_source : goal.returns-else-reads_source
unfolding source_read
returns-else-reads_source c = sym (choose_false _ 0 (sym c.reads_source.ensures ∙ c.if-reads_source.false))
