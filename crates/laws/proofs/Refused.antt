-- No refused call changes anything: a write, run or load hands the record back, a run does nothing and leaves the memory, a save leaves the buffer, a
-- read gives 0, by the choice that each answer makes; and a fresh state is valid, by computing every test.
use Rattle.std.proofs.Common.{Result, Ok, Err}
use mathlib.Core.Path.{◌≡◌, refl, sym}
use mathlib.Core.Bool.{Bool, true, false, not, false≢true}
use mathlib.Core.List.{List}
use Prim.Native.Nat.{ℕ}
use Rattle.numbers.specs.Choose.{choose}
use Rattle.numbers.specs.declared.bytes.Write.{Write}
use Rattle.numbers.proofs.Choices.{by_test}
use Rattle.parts.specs.declared.refusals.Refusal.{Refusal}
use Rattle.parts.specs.declared.refusals.Refusal.TheVariants.{Image}
use Rattle.parts.specs.Drawings.{unfinished}
use Rattle.parts.specs.Registers.{placed}
use Rattle.parts.specs.Fresh.{fresh_registers}
use Rattle.parts.specs.Refusals.{is_accepted}
use Rattle.parts.specs.Reduced.{map_reduced, term_reduced, terms_reduced, colours_reduced, point_reduced, figure_reduced, destination_reduced, spot_reduced, pointers_reduced, registers_reduced}
use Rattle.rules.specs.Maps.{map_at}
use Rattle.coprocessor.specs.declared.Coprocessor.{Coprocessor}
use Rattle.coprocessor.specs.declared.Written.{Written}
use Rattle.coprocessor.specs.Fresh.{size_holds, fresh_of, fresh_answer}
use Rattle.coprocessor.specs.Valid.{maps_reduced, reduced_of, goes_on, valid_of}
use Rattle.coprocessor.specs.Reads.{read_refusal, read_answer}
use Rattle.coprocessor.specs.Writes.{write_refusal, write_answer}
use Rattle.coprocessor.specs.Runs.{run_answer, run_memory}
use Rattle.coprocessor.specs.Images.{image_of, loads, saves, save_refusal, saved, load_answer}

-- 01, Numbers a call answers with: a refused write stores nothing, not even the register
pub write_refused : (w : Write) (c : Coprocessor) → is_accepted (write_refusal w c) ≡ false → (write_answer w c).coprocessor ≡ c
unfolding write_answer
write_refused w c refused = rw refused

-- 01, refusal 2: no register write is accepted while a drawing is unfinished
pub write_unfinished : (w : Write) (c : Coprocessor) → unfinished c.drawing ≡ true → is_accepted (write_refusal w c) ≡ false
unfolding write_refusal
write_unfinished w c going =
    by_test (λ (r : Result Unit Refusal). is_accepted r ≡ false) (not (placed w.offset w.length)) (λ other. refl) (λ well. rw going)

-- 01, Numbers a call answers with: a refused read gives 0
pub read_refused : (c : Coprocessor) (offset length : ℕ) → is_accepted (read_refusal c offset length) ≡ false → (read_answer c offset length).value ≡ 0
unfolding read_answer
read_refused c offset length refused = rw refused

-- 01, Numbers a call answers with: a refused load keeps the old state
pub load_refused : (c : Coprocessor) (b : List ℕ) → is_accepted (load_answer c b).outcome ≡ false → (load_answer c b).coprocessor ≡ c
unfolding load_answer
load_refused c b =
    by_test (λ (r : Written). is_accepted r.outcome ≡ false → r.coprocessor ≡ c) (loads b)
    (λ holds refused. absurd (false≢true (sym refused))) (λ fails refused. refl)

-- 01, Numbers a call answers with: a refused save keeps the buffer
pub save_refused : (c : Coprocessor) (b : List ℕ) → is_accepted (save_refusal c b) ≡ false → saved c b ≡ b
unfolding save_refusal saved
save_refused c b = by (saves c b)
  where
    by : (t : Bool) → is_accepted (choose t (Ok tt) (Err Image)) ≡ false → choose t (image_of c) b ≡ b
    by true refused = absurd (false≢true (sym refused))
    by false refused = refl

-- 01, Numbers a call answers with: a refused run does 0 positions
pub run_refused : (c : Coprocessor) (memory : List ℕ) (n : ℕ) → is_accepted (run_answer c memory n).outcome ≡ false
    → (run_memory c memory n ≡ memory) × ((run_answer c memory n).done ≡ 0) × ((run_answer c memory n).coprocessor ≡ c)
unfolding run_memory run_answer
run_refused c memory n refused = (rw refused, rw refused, rw refused)

pub fresh_valid : (size : ℕ) → size_holds size ≡ true → valid_of (fresh_of size) ≡ true
unfolding fresh_registers fresh_of map_at map_reduced term_reduced terms_reduced colours_reduced point_reduced figure_reduced destination_reduced spot_reduced
    pointers_reduced registers_reduced maps_reduced reduced_of goes_on valid_of
fresh_valid size holds = rw holds

-- the one that a refused fresh state answers is valid too
pub fresh_answer_valid : (size : ℕ) → valid_of (fresh_answer size).coprocessor ≡ true
unfolding size_holds fresh_answer
fresh_answer_valid size =
    by_test (λ (r : Written). valid_of r.coprocessor ≡ true) (size_holds size) (fresh_valid size) (λ other. fresh_valid 1 refl)
