-- `take_word` is the register after the write: what `take` hands on, or what is stored.
use mathlib.Core.Path.{sym}
use Rattle.std.specs.Prelude.{Option, Some, None, ℕ}
use Rattle.std.specs.Option.{unwrap_or}
use Rattle.numbers.specs.Bytes.{latched}
use Rattle.parts.specs.Takes.{touched, taken}
use Rattle.numbers.proofs.Choices.{choose_part}
use Rattle.parts.proofs.takes.take_word.Goals as goal

pub returns : goal.returns
unfolding taken
returns c =
    let a = c.args in
    rw (c.unwrap_or.ensures, c.take.ensures)
    (sym (choose_part (λ (o : Option ℕ). unwrap_or o a.stored) (touched 4 a.at a.w) (Some (latched 4 a.at a.w a.stored)) None))
