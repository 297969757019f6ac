-- The step codes of a draw and step: a code's parts, and the codes of a write.
use Rattle.std.specs.Prelude.{ℕ, zero, suc, ◌+◌, ◌-◌, ◌/◌, ◌%◌, ◌^◌, Bool, true, not, ◌&&◌, ◌||◌, eqb}
use Rattle.numbers.specs.Choose.{choose}
use Rattle.numbers.specs.Bytes.{byte_of}

-- ---- a code

-- 01, The functions, Codes: bits 7-5 direction
abbrev pub direction_of : ℕ → ℕ
direction_of code = code / 2 ^ 5

-- 01, The functions, Codes: bit 4 draw; a code without it only moves
abbrev pub only_moves : ℕ → Bool
only_moves code = eqb (code / 16 % 2) 0

-- 01, The functions, Codes: bits 3-0 steps n
abbrev pub steps_of : ℕ → ℕ
steps_of code = code % 16

-- 01, The functions, Codes: 00 stops
abbrev pub stops : ℕ → Bool
stops code = eqb code 0

-- ---- the codes of a write

-- 01, State image: codes number 1, 2 or 4
abbrev pub is_count : ℕ → Bool
is_count count = eqb count 1 || eqb count 2 || eqb count 4

-- 01, Registers: code i of the count codes in the starting write, lowest byte first; docs/DECISIONS.md, 15: they are the register's highest bytes
unfoldable pub code_at : (steps count i : ℕ) → ℕ
code_at steps count i = byte_of steps (4 - count + i)

-- 01, State image: none of the first n codes is 00
unfoldable pub none_stopped : (steps count n : ℕ) → Bool
none_stopped steps count zero = true
none_stopped steps count (suc n) = none_stopped steps count n && not (stops (code_at steps count n))

-- 01, The functions, Codes: each code has n + 1 positions; the sum over the next k codes from code i on, up to the first 00
unfoldable pub codes_from : (steps count i k : ℕ) → ℕ
codes_from steps count i zero = 0
codes_from steps count i (suc k) =
    choose (stops (code_at steps count i)) 0 (steps_of (code_at steps count i) + 1 + codes_from steps count (suc i) k)
