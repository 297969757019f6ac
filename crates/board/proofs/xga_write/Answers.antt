-- `xga_write` lays the record back where the write is accepted; the image of a refused one already is that of its record.
use mathlib.Core.Path.{sym, ap, ◌∙◌, ◌≡◌}
use Prim.Native.Nat.{ℕ, ◌<◌}
use lib.ListN.{get_or}
use Rattle.numbers.specs.declared.bytes.Write.{Write}
use Rattle.parts.proofs.RefusalLaws.{ok_accepted}
use Rattle.parts.specs.Refusals.{is_accepted, refusal_number}
use Rattle.coprocessor.specs.declared.Coprocessor.{Coprocessor}
use Rattle.coprocessor.specs.declared.Written.{Written}
use Rattle.coprocessor.specs.Writes.{write_answer}
use Rattle.coprocessor.specs.Images.{image_of, loaded, saved}
use Rattle.laws.proofs.LoadedLaws.{loads_length, loaded_valid, saved_valid, save_load}
use Rattle.laws.proofs.Refused.{write_refused}
use Rattle.laws.proofs.ValidWrites.{write_valid}
use Rattle.board.specs.Calls.{write_number, write_image}
use Rattle.board.proofs.xga_write.Goals as goal
use Rattle.board.proofs.xga_write.Goals.{then-is_ok, else-is_ok}

pub returns : goal.returns
unfolding write_answer write_number write_image
returns c =
    let good = c.in-Ok.ensures.0 in
    let done = c.write-written.ensures ∙ ap (write_answer _) c.in-Ok.ensures.1 in
    let a = c.args in
    let w : Write = record { offset = a.offset; length = a.length; value = a.value } in
    let long = loads_length _ good in
    let number : c.number-2.result ≡ write_number a.image.now w =
    simp good (c.number-2.ensures ∙ ap (λ (r : Written). refusal_number r.outcome) done) in
    let told = ap (λ (r : Written). is_accepted r.outcome) (sym done) ∙ sym (ok_accepted _) ∙ sym c.is_ok.ensures.value in
    let bytes : (i : ℕ) → get_or a.image.now i 0 < 256 = λ i. (c.slice_known-1.given i).fits in
    elim c.if-is_ok.branch [
      | then-is_ok t ↦ (
        number,
        simp good (t.image-is ∙ t.save_known.ensures ∙ ap (λ (r : Written). image_of r.coprocessor) done
            ∙ sym (saved_valid _ _ long (write_valid w (loaded a.image.now) (loaded_valid _ good)))),
      )
      | else-is_ok t ↦ let kept = write_refused w (loaded a.image.now) (told ∙ t.if-is_ok.false) in
          (number, simp good (t.image-is ∙ sym (ap (λ (s : Coprocessor). saved s a.image.now) kept ∙ save_load _ _ good bytes long)))
    ]
