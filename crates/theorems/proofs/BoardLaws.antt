-- The calls on a state image keep what the calls on a record promise: an image that loads is that of the record that it loads to, and every call
-- leaves a valid record and saves it over the image, so the new image loads to that record.
use Rattle.std.proofs.Common.{Result}
use mathlib.Core.Path.{◌≡◌, refl, sym, ap, ◌∙◌}
use mathlib.Core.Bool.{Bool, true, false}
use mathlib.Core.List.{List, [], ◌∷◌, ◌++◌}
use Prim.Native.Nat.{ℕ, zero, suc, ◌+◌, ◌/◌, ◌^◌, ◌<◌, min}
use native.Mathlib.Omega.{arith}
use lib.Arith.{digits_div, digits_mod}
use lib.Dec.{lit<}
use lib.ListN.{length, get_or}
use borrow.Author.Tests.{eqb-true, eq-eqb, ne_eqb}
use Rattle.numbers.specs.Choose.{choose}
use Rattle.numbers.specs.Bytes.{le}
use Rattle.numbers.specs.declared.bytes.Write.{Write}
use Rattle.numbers.proofs.Choices.{by_test}
use Rattle.parts.specs.declared.refusals.Refusal.{Refusal}
use Rattle.parts.specs.Refusals.{is_accepted, refusal_number}
use Rattle.parts.proofs.RefusalLaws.{number_accepted}
use Rattle.image.specs.Fields.{Field, laid}
use Rattle.image.specs.Layout.{image_length}
use Rattle.coprocessor.specs.declared.Coprocessor.{Coprocessor}
use Rattle.coprocessor.specs.declared.Written.{Written}
use Rattle.coprocessor.specs.Fresh.{size_holds, fresh_answer}
use Rattle.coprocessor.specs.Valid.{valid_of}
use Rattle.coprocessor.specs.Writes.{write_refusal, write_answer}
use Rattle.coprocessor.specs.Runs.{run_refusal, run_answer, run_memory}
use Rattle.coprocessor.specs.Images.{image_of, loads, loaded, saves, saved}
use Rattle.board.specs.Calls.{call_answer, fresh_image, write_number, write_image, run_number, run_image, run_bytes}
use Rattle.laws.specs.Held.{Held}
use Rattle.theorems.specs.Totals.{left_in}
use Rattle.theorems.specs.LoadsTo.{LoadsTo}
use Rattle.theorems.specs.BoardCuts.{refusal_in, value_in}
use Rattle.laws.proofs.Refused.{write_refused, run_refused, fresh_answer_valid}
use Rattle.laws.proofs.ValidWrites.{write_valid}
use Rattle.laws.proofs.HeldWrites.{held_fresh, held_written}
use Rattle.laws.proofs.RunValid.{run_valid}
use Rattle.theorems.proofs.RunCalls.{Continued, accepts, run_done, done_le, run_run}
use Rattle.laws.proofs.ImageLaws.{length_image, loaded_image, loads_image}
use Rattle.laws.proofs.LoadedLaws.{loaded_valid, image_loaded, save_load, held_loaded}
use Rattle.laws.proofs.HeldRuns.{held_run}

-- ---- the image of a record

le_bytes : (n x : ℕ) (rest : List ℕ) → ((i : ℕ) → get_or rest i 0 < 256) → (i : ℕ) → get_or (le n x ++ rest) i 0 < 256
unfolding le
le_bytes zero x rest bytes i = bytes i
le_bytes (suc n) x rest bytes zero = omega arith
le_bytes (suc n) x rest bytes (suc i) = le_bytes n (x / 256) rest bytes i

laid_bytes : (fields : List Field) (i : ℕ) → get_or (laid fields) i 0 < 256
unfolding laid
laid_bytes [] i = lit< tt
laid_bytes (f ∷ fields) i = le_bytes f.bytes f.value (laid fields) (laid_bytes fields) i

pub image_small : (c : Coprocessor) (i : ℕ) → get_or (image_of c) i 0 < 256
unfolding image_of
image_small c = laid_bytes _

saved_loads : (c : Coprocessor) (image : List ℕ) → length image ≡ image_length → Held c → valid_of c ≡ true → LoadsTo (saved c image) c
unfolding saved saves
saved_loads c image long held v =
    rw (eq-eqb (length image) image_length long, v) (record { bytes = image_small c; accepted = loads_image c held v; record_same = loaded_image c held v })

-- a record has one image
pub one_image : {a b : List ℕ} {c d : Coprocessor} → LoadsTo a c → c ≡ d → LoadsTo b d → a ≡ b
one_image {a} {b} p same q =
    sym (image_loaded a p.accepted p.bytes) ∙ ap image_of (p.record_same ∙ same ∙ sym q.record_same) ∙ image_loaded b q.accepted q.bytes

-- ---- a fresh image

-- 01, refusals 9 and 10: a buffer of 115 bytes takes the fresh state, one of size 1 where the size is refused
pub image_fresh : (image : List ℕ) (size : ℕ) → length image ≡ image_length → LoadsTo (fresh_image image size) (fresh_answer size).coprocessor
unfolding fresh_answer fresh_image
image_fresh image size long = saved_loads _ image long held (fresh_answer_valid size)
  where
    held : Held (fresh_answer size).coprocessor
    held = by_test (λ (r : Written). Held r.coprocessor) (size_holds size) (λ holds. held_fresh size) (λ other. held_fresh 1)

-- ---- the image with a record saved over it

module _ (image : List ℕ) (bytes : (i : ℕ) → get_or image i 0 < 256) where
  long : loads image ≡ true → length image ≡ image_length
  long e = ap length (sym (image_loaded image e bytes)) ∙ length_image (loaded image)

  -- the image stays where its record does
  stays : (c : Coprocessor) → (loads image ≡ true → c ≡ loaded image) → choose (loads image) (saved c image) image ≡ image
  stays c same =
      by_test (λ (b : List ℕ). b ≡ image) (loads image) (λ e. rw (same e) (save_load image image e bytes (long e))) (λ fails. refl)

  anew : (c : Coprocessor) → loads image ≡ true → Held c → valid_of c ≡ true → LoadsTo (choose (loads image) (saved c image) image) c
  anew c e held v = rw e (saved_loads c image (long e) held v)

-- ---- a write

-- 01, Numbers a call answers with: a refused write stores nothing
pub image_write_refused : (image : List ℕ) (w : Write) → ((i : ℕ) → get_or image i 0 < 256) → (write_number image w ≡ 0 → ⊥) → write_image image w ≡ image
unfolding write_number write_image write_answer
image_write_refused image w bytes refused =
    stays image bytes _
    (λ e. write_refused w (loaded image) (sym (number_accepted (write_refusal w (loaded image))) ∙ ne_eqb _ 0 (λ none. refused (rw e none))))

-- docs/DECISIONS.md, 32: the image after a write is that of the record after it
pub image_written : (image : List ℕ) (w : Write) → ((i : ℕ) → get_or image i 0 < 256) → loads image ≡ true
    → LoadsTo (write_image image w) (write_answer w (loaded image)).coprocessor
unfolding write_image
image_written image w bytes e =
    anew image bytes _ e (held_written w (loaded image) (held_loaded image bytes)) (write_valid w (loaded image) (loaded_valid image e))

-- ---- a run

-- a refusal and a value of 32 bits are the two halves of their answer
answer_halves : (r : Result Unit Refusal) (v : ℕ) → v < 2 ^ 32 → (refusal_in (call_answer r v) ≡ refusal_number r) × (value_in (call_answer r v) ≡ v)
unfolding call_answer refusal_in value_in
answer_halves r v small = (digits_div (refusal_number r) small, digits_mod (refusal_number r) small)

-- what a run answers, for an image that loads
pub image_run_answer : (image memory : List ℕ) (n : ℕ) → n < 2 ^ 32 → loads image ≡ true
    → (refusal_in (run_number image memory n) ≡ refusal_number (run_answer (loaded image) memory n).outcome)
    × (value_in (run_number image memory n) ≡ (run_answer (loaded image) memory n).done)
unfolding run_number
image_run_answer image memory n small e =
    let few = done_le (loaded image) memory n in
    rw e (answer_halves (run_answer (loaded image) memory n).outcome (run_answer (loaded image) memory n).done (omega (arith, few)))

-- a number above 0 is a refusal
refused_number : (r : Result Unit Refusal) → (refusal_number r ≡ 0 → ⊥) → is_accepted r ≡ false
refused_number r some = sym (number_accepted r) ∙ ne_eqb (refusal_number r) 0 some

pub memory_ran : (image memory : List ℕ) (n : ℕ) → loads image ≡ true → run_bytes image memory n ≡ run_memory (loaded image) memory n
unfolding run_bytes
memory_ran image memory n e = rw e

-- 01, Numbers a call answers with: a refused run does 0 positions
pub image_run_refused : (image memory : List ℕ) (n : ℕ) → ((i : ℕ) → get_or image i 0 < 256) → n < 2 ^ 32 → (refusal_in (run_number image memory n) ≡ 0 → ⊥)
    → (run_image image memory n ≡ image) × (run_bytes image memory n ≡ memory) × (value_in (run_number image memory n) ≡ 0)
unfolding run_number run_image run_bytes value_in
image_run_refused image memory n bytes small refused = by (loads image) refl
  where
    by : (t : Bool) → loads image ≡ t → (run_image image memory n ≡ image) × (run_bytes image memory n ≡ memory) × (value_in (run_number image memory n) ≡ 0)
    by true e =
        let answer = image_run_answer image memory n small e in
        let none = run_refused (loaded image) memory n (refused_number (run_answer (loaded image) memory n).outcome (λ zero. refused (answer.0 ∙ zero))) in
        (stays image bytes _ (λ loads. none.2), memory_ran image memory n e ∙ none.0, answer.1 ∙ none.1)
    by false e = (rw e, rw e, rw e)

-- docs/DECISIONS.md, 32: the image after a run is that of the record after it
pub image_ran : (image memory : List ℕ) (n : ℕ) → ((i : ℕ) → get_or image i 0 < 256) → loads image ≡ true
    → LoadsTo (run_image image memory n) (run_answer (loaded image) memory n).coprocessor
unfolding run_image
image_ran image memory n bytes e =
    anew image bytes _ e (held_run (loaded image) memory n (held_loaded image bytes)) (run_valid (loaded image) memory n (loaded_valid image e))

-- 01, The functions: a run over a memory of the state's size answers the smaller of the allowance and the positions left
pub image_run_done : (image memory : List ℕ) (n : ℕ) → loads image ≡ true → length memory ≡ (loaded image).size
    → run_number image memory n ≡ min n (left_in (loaded image))
unfolding run_number call_answer run_answer
image_run_done image memory n e same =
    let accepted = accepts (loaded image) memory same (loaded_valid image e) in
    let none : refusal_number (run_refusal (loaded image) memory) ≡ 0 = eqb-true _ 0 (number_accepted (run_refusal (loaded image) memory) ∙ accepted) in
    let done = run_done (loaded image) memory accepted n in
    rw e (omega (arith, none, done))

-- docs/PROMISES.md, Point 3: two runs in a row are one; the image is all the state there is, so the second may be on another board
pub image_run_run : (image memory : List ℕ) (a b : ℕ) → ((i : ℕ) → get_or image i 0 < 256) → loads image ≡ true → length memory ≡ (loaded image).size
    → (run_image (run_image image memory a) (run_bytes image memory a) b ≡ run_image image memory (a + b))
    × (run_bytes (run_image image memory a) (run_bytes image memory a) b ≡ run_bytes image memory (a + b))
image_run_run image memory a b bytes e same =
    let c : Coprocessor = loaded image in
    let on : Continued c memory a b (run_answer c memory a) (run_memory c memory a) = run_run c memory a b (accepts c memory same (loaded_valid image e)) in
    let first : LoadsTo (run_image image memory a) (run_answer c memory a).coprocessor = image_ran image memory a bytes e in
    let middle : run_bytes image memory a ≡ run_memory c memory a = memory_ran image memory a e in (
      one_image (image_ran _ (run_bytes image memory a) b first.bytes first.accepted)
          ((λ i. (run_answer (first.record_same i) (middle i) b).coprocessor) ∙ on.record_same) (image_ran image memory (a + b) bytes e),
      memory_ran _ (run_bytes image memory a) b first.accepted
          ∙ (λ i. run_memory (first.record_same i) (middle i) b) ∙ on.memory_same ∙ sym (memory_ran image memory (a + b) e),
    )
