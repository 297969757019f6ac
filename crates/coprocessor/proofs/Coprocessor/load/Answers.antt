-- `load` answers with the record that the image is where it loads, and with the old one elsewhere.
use mathlib.Core.Path.{sym, ap, ◌∙◌}
use Rattle.parts.specs.Refusals.{is_accepted}
use Rattle.coprocessor.specs.declared.Written.{Written}
use Rattle.coprocessor.specs.Images.{load_answer}
use Rattle.coprocessor.proofs.Opened.{open_refused, load_opened, told}
use Rattle.coprocessor.proofs.Coprocessor.load.Goals as goal

pub returns-in-Ok : goal.returns-in-Ok
returns-in-Ok c = c.unpack-opened.ensures ∙ sym (load_opened _ _ (sym (told _ _ c.unpack-opened.ensures) ∙ ap is_accepted c.in-Ok.is))

pub returns-in-Err : goal.returns-in-Err
unfolding load_answer
returns-in-Err c =
    let fails = sym (told _ _ c.unpack-opened.ensures) ∙ ap is_accepted c.in-Err.is in
    let outcome = ap (λ (a : Written). a.outcome) c.unpack-opened.ensures ∙ open_refused _ fails in
    simp fails (λ i. record { outcome = outcome i; coprocessor = c.args.self })
