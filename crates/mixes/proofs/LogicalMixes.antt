-- The logical mixes: the truth table works bit by bit, and only the pixels' low bits count.
use mathlib.Core.Path.{◌≡◌, refl, sym, ◌∙◌}
use Prim.Native.Nat.{ℕ, zero, suc, ◌+◌, ◌*◌, ◌/◌, ◌%◌, ◌^◌, ◌<◌}
use native.Mathlib.Nat.{mod-lt, mod-mod}
use native.Mathlib.Omega.{arith}
use lib.Pow.{pow_pos}
use Rattle.mixes.specs.Mixes.{table_bit, logical}
use Rattle.mixes.proofs.Binary.{pair_lt, last_lt, low_last, low_half}
use Rattle.mixes.proofs.Bitwise.{Bitwise, agree_all, source}

pub table_bit_lt : (code s d : ℕ) → table_bit code s d < 2
unfolding table_bit
table_bit_lt code s d = last_lt _

pub logical_lt : (n code s d : ℕ) → logical n code s d < 2 ^ n
unfolding logical
logical_lt zero code s d = omega arith
logical_lt (suc n) code s d = pair_lt n (table_bit_lt code (s % 2) (d % 2)) (logical_lt n code (s / 2) (d / 2))

pub logical_low : (n code s d : ℕ) → logical n code (s % 2 ^ n) (d % 2 ^ n) ≡ logical n code s d
unfolding logical
logical_low zero code s d = refl
logical_low (suc n) code s d =
    rw (low_last n s, low_last n d, low_half n s, low_half n d, logical_low n code (s / 2) (d / 2))

logical_step : (n code s d : ℕ) → logical (suc n) code s d ≡ logical n code (s / 2) (d / 2) * 2 + logical 1 code (s % 2) (d % 2)
unfolding logical
logical_step n code s d = rw (mod-mod s 2, mod-mod d 2) (omega arith)

pub logical_bitwise : (code : ℕ) → Bitwise (λ n m s d. logical n code s d)
unfolding logical
logical_bitwise code =
    record {
      none = refl;
      single = λ m s d. logical_lt 1 code (s % 2) (d % 2);
      step = λ n m s d. logical_step n code s d;
    }

-- mix 3 is the source
pub logical_source : (n s d : ℕ) → logical n 3 s d ≡ s % 2 ^ n
unfolding table_bit logical
logical_source n s d =
    sym (agree_all source (logical_bitwise 3) tt n 0 _ _ (pow_pos n) (mod-lt s (pow_pos n)) (mod-lt d (pow_pos n)) ∙ logical_low n 3 s d)
