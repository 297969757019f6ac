-- What an accepted write says of the write and the record: each test that could refuse it was passed, in the order of the refusals; so what a write
-- leaves is one of three records.
use mathlib.Core.Path.{◌≡◌, refl}
use mathlib.Core.Bool.{Bool, true, false, not, ◌&&◌, ◌||◌}
use Rattle.numbers.specs.Bytes.{covers}
use Rattle.numbers.specs.declared.bytes.Write.{Write}
use Rattle.numbers.proofs.Choices.{by_test}
use Rattle.parts.specs.Refusals.{is_accepted}
use Rattle.parts.proofs.RefusalLaws.{passed}
use Rattle.parts.specs.Drawings.{unfinished}
use Rattle.parts.specs.Registers.{placed, listed}
use Rattle.rules.specs.Operations.{is_line, is_codes, is_block, draws}
use borrow.Author.Tests.{not-true, not-false}
use Rattle.coprocessor.specs.declared.Coprocessor.{Coprocessor}
use Rattle.coprocessor.specs.Valid.{start_refusal_of, valid_of}
use Rattle.coprocessor.specs.Writes.{stored, starts_by, started, started_refusal, write_refusal, settled_by, write_answer}

module _ (w : Write) (c : Coprocessor) where
  -- 01, Numbers a call answers with: none of 1, 2, 3, 5 to 8 and 10
  pub record Allowed : Type 0 where
    pub place : placed w.offset w.length ≡ true
    pub idle : unfinished c.drawing ≡ false
    pub registers : listed w.length w.offset ≡ true
    pub rules : is_accepted (started_refusal w (stored w c)) ≡ true
    pub valid : valid_of c ≡ true

  pub accepted_allowed : is_accepted (write_refusal w c) ≡ true → Allowed
  unfolding write_refusal
  accepted_allowed e =
      let place = passed (not (placed w.offset w.length)) _ _ (λ t. refl) e in
      let idle = passed (unfinished c.drawing) _ _ (λ t. refl) place.1 in
      let registers = passed (not (listed w.length w.offset)) _ _ (λ t. refl) idle.1 in
      let function = passed (covers w 0x7F && not (draws (stored w c).registers.figure.operations)) _ _ (λ t. refl) registers.1 in
      let rules = passed (not (is_accepted (started_refusal w (stored w c)))) _ _ (not-true _) function.1 in
      let valid = passed (not (valid_of c)) _ _ (λ t. refl) rules.1 in
      record {
        place = not-false _ place.0;
        idle = idle.0;
        registers = not-false _ registers.0;
        rules = not-false _ rules.0;
        valid = not-false _ valid.0;
      }

-- ---- where the write starts a drawing

-- a start is of a line, a block or codes, whichever byte starts it
some_function : (a b line codes block : Bool) → ((a && (line || block)) || (b && codes)) ≡ true → (line || codes || block) ≡ true
some_function a b true codes block e = refl
some_function a b false true block e = refl
some_function a b false false true e = refl
some_function true true false false false e = e
some_function true false false false false e = e
some_function false true false false false e = e
some_function false false false false false e = e

pub start_draws : (w : Write) (c : Coprocessor) → starts_by w c ≡ true → draws c.registers.figure.operations ≡ true
unfolding starts_by draws
start_draws w c =
    let operations = c.registers.figure.operations in
    some_function (covers w 0x7F) (covers w 0x2F) (is_line operations) (is_codes operations) (is_block operations)

pub start_rules : (w : Write) (c : Coprocessor) → is_accepted (started_refusal w c) ≡ true → starts_by w c ≡ true → is_accepted (start_refusal_of c) ≡ true
unfolding started_refusal
start_rules w c e starts = rw starts at e

-- ---- the record after any write

-- what holds of the record, of the one with the write stored, and of the one with a drawing started, holds of what the write leaves
pub by_write : (w : Write) (c : Coprocessor) (P : Coprocessor → Type 0) → (is_accepted (write_refusal w c) ≡ false → P c)
    → (is_accepted (write_refusal w c) ≡ true → starts_by w (stored w c) ≡ false → P (stored w c))
    → (is_accepted (write_refusal w c) ≡ true → starts_by w (stored w c) ≡ true → P (started w.length (stored w c)))
    → P (write_answer w c).coprocessor
unfolding settled_by write_answer
by_write w c P refused rests starts =
    by_test P (is_accepted (write_refusal w c)) (λ e. by_test P (starts_by w (stored w c)) (starts e) (rests e)) refused
