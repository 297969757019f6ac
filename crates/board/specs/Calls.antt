-- The calls on a state image: each is the record's call, between a load and a save.
use Rattle.std.specs.Prelude.{ℕ, ◌+◌, ◌*◌, ◌^◌, List, Result}
use Rattle.numbers.specs.Choose.{choose}
use Rattle.numbers.specs.declared.bytes.Write.{Write}
use Rattle.parts.specs.declared.refusals.Refusal.{Refusal}
use Rattle.parts.specs.Refusals.{is_accepted, refusal_number}
use Rattle.coprocessor.specs.Fresh.{fresh_answer}
use Rattle.coprocessor.specs.Reads.{read_answer}
use Rattle.coprocessor.specs.Writes.{write_answer}
use Rattle.coprocessor.specs.Runs.{run_answer, run_memory}
use Rattle.coprocessor.specs.Images.{loads, loaded, save_refusal, saved}

-- 01, refusal 10: what every call but a fresh one answers for an image that does not load
abbrev pub no_image : ℕ
no_image = 10

-- docs/DECISIONS.md, 32: a refusal and a value in one number of 64 bits
unfoldable pub call_answer : Result Unit Refusal → ℕ → ℕ
call_answer outcome value = refusal_number outcome * 2 ^ 32 + value

-- 01, refusals 9 and 10: a fresh state, then a save: 9 for a size outside the limit, otherwise 10 for a buffer not of 115 bytes
unfoldable pub fresh_number : List ℕ → ℕ → ℕ
fresh_number image size =
    choose (is_accepted (fresh_answer size).outcome) (refusal_number (save_refusal (fresh_answer size).coprocessor image))
    (refusal_number (fresh_answer size).outcome)

-- 01, refusals 9 and 10: a fresh state of size 1 for a size outside the limit; a buffer not of 115 bytes stays
unfoldable pub fresh_image : List ℕ → ℕ → List ℕ
fresh_image image size = saved (fresh_answer size).coprocessor image

-- docs/DECISIONS.md, 32: a write, between a load and a save
unfoldable pub write_number : List ℕ → Write → ℕ
write_number image w = choose (loads image) (refusal_number (write_answer w (loaded image)).outcome) no_image

-- 01, Numbers a call answers with: a refused write stores nothing, and an image that does not load stays
unfoldable pub write_image : List ℕ → Write → List ℕ
write_image image w = choose (loads image) (saved (write_answer w (loaded image)).coprocessor image) image

-- docs/DECISIONS.md, 32: a read, after a load
unfoldable pub read_number : List ℕ → (offset length : ℕ) → ℕ
read_number image offset length =
    choose (loads image)
    (call_answer (read_answer (loaded image) offset length).outcome (read_answer (loaded image) offset length).value)
    (no_image * 2 ^ 32)

-- docs/DECISIONS.md, 32: a run, between a load and a save: the refusal, and the positions done
unfoldable pub run_number : List ℕ → List ℕ → ℕ → ℕ
run_number image memory n =
    choose (loads image)
    (call_answer (run_answer (loaded image) memory n).outcome (run_answer (loaded image) memory n).done)
    (no_image * 2 ^ 32)

-- docs/DECISIONS.md, 32: the image after it; one that does not load stays
unfoldable pub run_image : List ℕ → List ℕ → ℕ → List ℕ
run_image image memory n = choose (loads image) (saved (run_answer (loaded image) memory n).coprocessor image) image

-- docs/DECISIONS.md, 32: the memory after it; it stays where the image does not load
unfoldable pub run_bytes : List ℕ → List ℕ → ℕ → List ℕ
run_bytes image memory n = choose (loads image) (run_memory (loaded image) memory n) memory

-- 01, refusal 10: whether an image loads
unfoldable pub load_number : List ℕ → ℕ
load_number image = choose (loads image) 0 no_image
