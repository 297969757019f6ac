-- `play` reads from the first session on to the input's end, and what it handed on is what is to be printed.
use Rattle.std.proofs.Common.{◌∙◌, ap, []}
use Rattle.bench.specs.Inner.{with_text, input_ended}
use Rattle.bench.specs.Played.{Reads, first_progress}
use Rattle.bench.proofs.ReadLaws.{reads_printed}
use Rattle.bench.proofs.play.Goals as goal

pub returns : goal.returns
unfolding first_progress
returns g c =
    let r = c.read_all.ensures.read in
    let reads : Reads first_progress r.last = rw c.fresh-bench.ensures.session at r.reads in
    record {
      last = r.last;
      reads = reads;
      ended = r.ended;
      same = c.hand_on.ensures.session ∙ ap (with_text []) (c.end_input.ensures ∙ ap input_ended r.same);
      right = reads_printed reads;
    }
