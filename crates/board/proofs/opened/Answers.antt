-- `opened` is the record of an image that loads, and otherwise refusal 10.
use mathlib.Core.Path.{sym, ap, ◌∙◌}
use Rattle.std.proofs.lemmas.Result.{err_from_is_err_and}
use Rattle.parts.specs.Refusals.{is_accepted}
use Rattle.coprocessor.specs.declared.Written.{Written}
use Rattle.coprocessor.proofs.Opened.{begun, open_refused, told}
use Rattle.laws.proofs.LoadedLaws.{loaded_valid}
use Rattle.board.proofs.opened.Goals as goal

pub returns-in_err-opened : goal.returns-in_err-opened
returns-in_err-opened c =
    let closed = sym (told _ _ c.unpack-opened.ensures) ∙ ap is_accepted c.in_err-opened.was in
    let refused = ap (λ (w : Written). w.outcome) c.unpack-opened.ensures ∙ open_refused _ closed in
    let p = err_from_is_err_and c.from_residual.result c.from_residual.ensures.1 in
    rw (p.1, p.2) (closed, cc)

pub invariant_of-result : goal.invariant_of-result
invariant_of-result c =
    let good = sym (told _ _ c.unpack-opened.ensures) ∙ ap is_accepted c.in_ok-opened.was in
    record { valid = rw (begun _ _ c.unpack-opened.ensures good) (loaded_valid _ good) }

pub returns : goal.returns
returns c =
    let good = sym (told _ _ c.unpack-opened.ensures) ∙ ap is_accepted c.in_ok-opened.was in
    (good, begun _ _ c.unpack-opened.ensures good)
