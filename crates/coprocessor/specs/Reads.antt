-- The answer of a read.
use Rattle.std.specs.Prelude.{ℕ, not, Result, Ok, Err}
use Rattle.numbers.specs.Choose.{choose}
use Rattle.parts.specs.declared.refusals.Refusal.{Refusal}
use Rattle.parts.specs.declared.refusals.Refusal.TheVariants.{Place, Unlisted, Image}
use Rattle.parts.specs.Refusals.{is_accepted}
use Rattle.parts.specs.Registers.{placed, listed}
use Rattle.image.specs.Bank.{bank_of, read_from}
use Rattle.coprocessor.specs.declared.Coprocessor.{Coprocessor}
use Rattle.coprocessor.specs.declared.Found.{Found}
use Rattle.coprocessor.specs.Valid.{valid_of}

-- 01, Registers: the bytes of the bank from the offset on, least significant first
unfoldable pub value_at : Coprocessor → (offset length : ℕ) → ℕ
value_at c offset length = read_from (bank_of c.maps c.registers) offset length

-- 01, Numbers a call answers with: 1, 3, 10
unfoldable pub read_refusal : Coprocessor → (offset length : ℕ) → Result Unit Refusal
read_refusal c offset length =
    choose (not (placed offset length)) (Err Place)
    (choose (not (listed length offset)) (Err Unlisted)
    (choose (not (valid_of c)) (Err Image)
    (Ok tt)))

-- 01, Numbers a call answers with: a refused read gives 0; 01, Registers: reads change nothing
unfoldable pub read_answer : Coprocessor → (offset length : ℕ) → Found
read_answer c offset length =
    record {
      outcome = read_refusal c offset length;
      value = choose (is_accepted (read_refusal c offset length)) (value_at c offset length) 0;
      coprocessor = c;
    }
