-- `is_foreground` is the definition, by the flags that tell where the pattern comes from, of what was read for it.
use Rattle.std.proofs.Common.{ℕ, not, eqb, sym, ap, ◌∙◌}
use Rattle.numbers.proofs.Choices.{choose_true, choose_false}
use Rattle.position.specs.declared.Pattern.{Pattern}
use Rattle.position.specs.Drawn.{is_foreground}
use Rattle.position.specs.Inner.{pattern_read}
use Rattle.position.proofs.Safety.{derived_read}
use Rattle.position.proofs.write.is_foreground.Goals as goal

pub returns-then-setup : goal.returns-then-setup
unfolding is_foreground pattern_read
returns-then-setup c = λ memory pen read source.
    ap (λ (p : Pattern). p.one) read ∙ choose_true _ _ c.if-setup.true ∙ sym (choose_true _ _ c.if-setup.true)

pub returns-then-setup-2 : goal.returns-then-setup-2
unfolding is_foreground
returns-then-setup-2 c = λ memory pen read source.
    ap (λ (n : ℕ). not (eqb n 0)) (source ∙ derived_read _ memory pen c.if-setup-2.true)
    ∙ sym (choose_false _ _ c.if-setup.false ∙ choose_true _ _ c.if-setup-2.true)

pub returns : goal.returns
unfolding is_foreground
returns c = λ memory pen read source. sym (choose_false _ _ c.if-setup.false ∙ choose_false _ _ c.if-setup-2.false)
