-- `xga_fresh` lays the fresh state, which is valid, into a buffer of an image's length, where the number is that of the fresh state.
use mathlib.Core.Path.{◌≡◌, refl, sym, ap, ◌∙◌}
use mathlib.Core.List.{List}
use Prim.Native.Nat.{ℕ}
use lib.ListN.{length}
use borrow.Author.Tests.{eq-eqb}
use Rattle.numbers.specs.Choose.{choose}
use Rattle.numbers.proofs.Choices.{by_test}
use Rattle.parts.specs.Refusals.{is_accepted, refusal_number}
use Rattle.image.specs.Layout.{image_length}
use Rattle.coprocessor.specs.declared.Written.{Written}
use Rattle.coprocessor.specs.Fresh.{size_holds, fresh_answer}
use Rattle.coprocessor.specs.Images.{image_of, saves, save_refusal}
use Rattle.laws.proofs.Refused.{fresh_valid, fresh_answer_valid}
use Rattle.laws.proofs.LoadedLaws.{saved_valid}
use Rattle.board.specs.Calls.{fresh_number, fresh_image}
use Rattle.board.proofs.xga_fresh.Goals as goal

-- over a buffer of an image's length, the number is that of the fresh state
long-number : (image : List ℕ) (size : ℕ) → length image ≡ image_length → refusal_number (fresh_answer size).outcome ≡ fresh_number image size
unfolding fresh_number fresh_answer saves save_refusal
long-number image size long =
    by_test
    (λ (r : Written). refusal_number r.outcome
    ≡ choose (is_accepted r.outcome) (refusal_number (save_refusal r.coprocessor image)) (refusal_number r.outcome))
    (size_holds size)
    (λ holds. rw (eq-eqb _ _ long, fresh_valid size holds))
    (λ other. refl)

pub returns-then-image-eq-BYTES : goal.returns-then-image-eq-BYTES
unfolding fresh_image
returns-then-image-eq-BYTES c =
    let long = c.if-image-eq-BYTES.true in
    let made = c.fresh-made.ensures in (
      c.number.ensures ∙ ap (λ (r : Written). refusal_number r.outcome) made ∙ long-number _ _ long,
      c.save_known.ensures ∙ ap (λ (r : Written). image_of r.coprocessor) made
          ∙ sym (saved_valid _ _ long (fresh_answer_valid _)),
    )
