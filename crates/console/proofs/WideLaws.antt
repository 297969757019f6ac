-- An offset or a length wider than 32 bits meets refusal 1 and changes nothing: the number that stands for it is none that a register write may have.
use mathlib.Core.Path.{◌≡◌}
use mathlib.Core.Bool.{and-false}
use Prim.Native.Nat.{ℕ, ◌^◌, ◌≤◌}
use native.Mathlib.Nat.{min-eq_right}
use native.Mathlib.Omega.{arith}
use Rattle.parts.specs.Registers.{placed}
use Rattle.coprocessor.specs.declared.Coprocessor.{Coprocessor}
use Rattle.coprocessor.specs.Writes.{write_refusal, write_answer}
use Rattle.console.specs.declared.Wide.TheVariants.{Largest}
use Rattle.console.specs.declared.Answer.TheVariants.{Refused}
use Rattle.console.specs.Digits.{fitted}
use Rattle.console.specs.Answers.{outcome_of, write_told}

largest : (n : ℕ) → 2 ^ 32 ≤ n → fitted Largest n ≡ 4294967295
unfolding fitted
largest n wide = min-eq_right (omega arith)

pub wide_offset : (offset length value : ℕ) (c : Coprocessor) → 2 ^ 32 ≤ offset
    → write_told (fitted Largest offset) length value c ≡ record { answer = Refused 1; coprocessor = c }
unfolding placed write_refusal write_answer outcome_of write_told
wide_offset offset length value c wide = simp (largest offset wide, and-false)

pub wide_length : (offset length value : ℕ) (c : Coprocessor) → 2 ^ 32 ≤ length
    → write_told offset (fitted Largest length) value c ≡ record { answer = Refused 1; coprocessor = c }
unfolding placed write_refusal write_answer outcome_of write_told
wide_length offset length value c wide = simp (largest length wide)
