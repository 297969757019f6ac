-- `latch_registers` is the registers after the write, group by group.
use Rattle.parts.specs.Latches.{registers_latched}
use Rattle.parts.proofs.latches.latch_registers.Goals as goal

pub returns : goal.returns
unfolding registers_latched
returns c =
    let terms = c in
    λ i. record {
      index = terms.take_bits.ensures i;
      terms = terms.latch_terms.ensures i;
      colours = c.latch_colours.ensures i;
      figure = c.latch_figure.ensures i;
      pointers = c.latch_pointers.ensures i;
    }
