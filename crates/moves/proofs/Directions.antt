-- The eight directions of a code: a direction's turn in Y is a test of its number, and its turn in X is the turn in Y of two directions before.
use mathlib.Core.Path.{◌≡◌}
use Prim.Native.Nat.{ℕ, zero, suc, ◌+◌, ◌/◌, ◌%◌, ◌<◌}
use native.Mathlib.Omega.{arith}
use lib.Dec.{ltb, eqb}
use Rattle.numbers.specs.Choose.{choose}
use Rattle.moves.specs.declared.Turn.{Turn}
use Rattle.moves.specs.declared.Turn.TheVariants.{Stay, Forth, Back}
use Rattle.moves.specs.Steps.{code_step}

-- the turn in Y of a direction
abbrev pub down_of : ℕ → Turn
down_of direction = choose (eqb (direction % 4) 0) Stay (choose (ltb direction 4) Back Forth)

pub code_step_lem : (code direction : ℕ) → code / 32 ≡ direction → direction < 8
    → code_step code ≡ record { x = down_of ((direction + 6) % 8); y = down_of direction }
unfolding code_step
code_step_lem code zero e h = rw e
code_step_lem code (suc zero) e h = rw e
code_step_lem code (suc (suc zero)) e h = rw e
code_step_lem code (suc (suc (suc zero))) e h = rw e
code_step_lem code (suc (suc (suc (suc zero)))) e h = rw e
code_step_lem code (suc (suc (suc (suc (suc zero))))) e h = rw e
code_step_lem code (suc (suc (suc (suc (suc (suc zero)))))) e h = rw e
code_step_lem code (suc (suc (suc (suc (suc (suc (suc zero))))))) e h = rw e
code_step_lem code (suc (suc (suc (suc (suc (suc (suc (suc d)))))))) e h = absurd (omega arith)
