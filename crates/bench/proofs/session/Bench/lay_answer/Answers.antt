-- `lay_answer` lays the answer's text after what waits.
use Rattle.std.proofs.Common.{◌≡◌, take, replicate}
use Rattle.console.specs.Texts.{answer_text}
use Rattle.console.proofs.TextLaws.{laid_alone}
use Rattle.bench.specs.Inner.{session_of, with_text}
use Rattle.bench.proofs.session.Bench.lay_answer.Goals as goal

pub returns-clause-session : goal.returns-clause-session
unfolding session_of with_text
returns-clause-session c =
    let a = c.answer_text-n in
    let own : take a.result a.new.out ≡ answer_text c.args.answer c.args.self.now.number =
    laid_alone (replicate 40 0) _ a.ensures.value.0 a.ensures.value.1 a.ensures.counted.0 in
    rw (c.lay.ensures.text, own)
