-- `take_byte` is the register after the write: the one byte of what `take` hands on.
use mathlib.Core.Path.{◌≡◌, ◌∙◌}
use borrow.Author.Rules.{rules}
use Rattle.numbers.specs.Bytes.{byte_of, latched}
use Rattle.parts.specs.Takes.{taken}
use Rattle.parts.proofs.TakeLaws.{taken_by, byte_latched}
use Rattle.parts.proofs.takes.take_byte.Goals as goal

pub returns : goal.returns
unfolding taken
returns c =
    let a = c.args in
    taken_by _ _ _ _ _ _ _ c.take.ensures c.map_or.ensures
    (λ q. let e : c.map_or.result ≡ byte_of (latched 1 a.at a.w a.stored) 0 = search rules in e ∙ byte_latched a.at a.w a.stored)
