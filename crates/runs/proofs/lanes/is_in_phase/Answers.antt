-- `is_in_phase` compares how far up the pixels lie, which tells their phases.
use Rattle.std.proofs.Common.{sym, ◌∙◌, eqb-true}
use borrow.Author.Tests.{eqb-false}
use Rattle.rows.proofs.LiesLaws.{shift_phase}
use Rattle.runs.proofs.lanes.is_in_phase.Goals as goal

pub returns : goal.returns
returns c =
    let l = c.args.lane in
    let from = c.shift_at.ensures in
    let to = c.shift_at-2.ensures in (
      λ same. shift_phase l.format l.from l.to (sym from ∙ eqb-true _ _ same ∙ to),
      λ other e. eqb-false _ _ other (from ∙ sym e ∙ sym to),
    )
