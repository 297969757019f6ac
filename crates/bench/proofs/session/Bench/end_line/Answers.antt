-- `end_line` does the command that the line is, and each part of the session is what the calls promise.
use Rattle.std.proofs.Common.{◌∙◌, ap}
use Rattle.bench.specs.Printed.{line_after}
use Rattle.bench.specs.Inner.{Session, session_of, with_text, line_ended}
use Rattle.bench.proofs.session.Bench.end_line.Goals as goal

pub returns-clause-session : goal.returns-clause-session
unfolding session_of with_text line_ended
returns-clause-session c =
    let laid = c.lay_answer.ensures.session in
    let told = c.obey-told.ensures in
    let number = ap (λ (s : Session). s.line) laid in
    (λ i. record {
      board = (laid i).board;
      memory = (laid i).memory;
      buffer = (laid i).buffer;
      count = 0;
      line = (c.next_line-self.ensures ∙ ap line_after number) i;
      text = (laid i).text;
    })
    ∙ rw (told.0, told.1, c.command-command.ensures)
