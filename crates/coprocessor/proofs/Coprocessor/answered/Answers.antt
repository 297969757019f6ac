-- `answered` starts a drawing by as many codes as the write has bytes: an accepted write is placed, and so has at most four.
use mathlib.Core.Path.{sym, ap, ◌∙◌}
use borrow.Author.Rules.{rules}
use Rattle.parts.specs.Refusals.{is_accepted}
use Rattle.coprocessor.proofs.PlaceLaws.{placed_known}
use Rattle.coprocessor.proofs.WriteLaws.{write_placed}
use Rattle.coprocessor.proofs.Coprocessor.answered.Goals as goal

pub overflow_cast-w : goal.overflow_cast-w
overflow_cast-w c =
    let short = (placed_known _ _ (write_placed _ _ (ap is_accepted (sym c.requires.2 ∙ c.in-Ok.is)))).short in search (rules, short)
