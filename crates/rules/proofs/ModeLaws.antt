-- The drawing mode is below 4: it is a field of two bits, or 0 where it is ignored.
use Prim.Native.Nat.{ℕ, ◌<◌}
use native.Mathlib.Omega.{arith}
use Rattle.numbers.proofs.Choices.{choose_either}
use Rattle.rules.specs.Operations.{is_block, mode_of}

pub mode_lt : (operations : ℕ) → mode_of operations < 4
unfolding mode_of
mode_lt operations = choose_either (λ (n : ℕ). n < 4) (is_block operations) (omega arith) (omega arith)
