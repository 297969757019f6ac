-- `found` answers the asked bytes where the read is accepted, and so placed.
use mathlib.Core.Path.{sym, ap, ◌∙◌}
use Rattle.parts.specs.Refusals.{is_accepted}
use Rattle.coprocessor.proofs.WriteLaws.{read_placed}
use Rattle.coprocessor.proofs.Coprocessor.found.Goals as goal

pub value_at-value-requires : goal.value_at-value-requires
value_at-value-requires c = read_placed _ _ _ (ap is_accepted (sym c.requires ∙ c.in-Ok.is))
