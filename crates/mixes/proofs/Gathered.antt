-- The enabled bits as one number, and back: bounds, low bits, no bits and the way round, each by induction on the pixel's bits.
use mathlib.Core.Bool.{Bool, true, false}
use mathlib.Core.Logic.{⊎_elim}
use mathlib.Core.Path.{◌≡◌, refl, sym, ◌∙◌}
use Prim.Native.Nat.{ℕ, zero, suc, ◌+◌, ◌*◌, ◌/◌, ◌%◌, ◌^◌, ◌<◌}
use native.Mathlib.Nat.{mod-one}
use native.Mathlib.Omega.{arith}
use lib.Bits.{bit_and, and_step, and_zero_r}
use lib.Dec.{eqb}
use Rattle.numbers.specs.Choose.{choose}
use Rattle.numbers.proofs.Choices.{choose_either}
use Rattle.mixes.specs.Mixes.{gathered, scattered}
use Rattle.mixes.proofs.Binary.{last_lt, last_cases, pair_lt, pair_last, pair_half, low_last, low_half}

-- ---- one bit of the mask

pub gathered_taken : (n m x : ℕ) → m % 2 ≡ 1 → gathered (suc n) m x ≡ x % 2 + 2 * gathered n (m / 2) (x / 2)
unfolding gathered
gathered_taken n m x h = rw h

pub gathered_passed : (n m x : ℕ) → m % 2 ≡ 0 → gathered (suc n) m x ≡ gathered n (m / 2) (x / 2)
unfolding gathered
gathered_passed n m x h = rw h

pub scattered_taken : (n m y : ℕ) → m % 2 ≡ 1 → scattered (suc n) m y ≡ y % 2 + 2 * scattered n (m / 2) (y / 2)
unfolding scattered
scattered_taken n m y h = rw h

pub scattered_passed : (n m y : ℕ) → m % 2 ≡ 0 → scattered (suc n) m y ≡ 2 * scattered n (m / 2) y
unfolding scattered
scattered_passed n m y h = rw h

-- what a mask leaves of x
pub and_taken : (m x : ℕ) → m % 2 ≡ 1 → bit_and x m ≡ x % 2 + 2 * bit_and (x / 2) (m / 2)
and_taken m x h = rw (and_step x m, h) (omega arith)

pub and_passed : (m x : ℕ) → m % 2 ≡ 0 → bit_and x m ≡ 2 * bit_and (x / 2) (m / 2)
and_passed m x h = rw (and_step x m, h) (omega arith)

-- ---- a bit and the rest

module _ (m b x : ℕ) (h : b < 2) where
  pub pair_taken : m % 2 ≡ 1 → bit_and (b + 2 * x) m ≡ b + 2 * bit_and x (m / 2)
  pair_taken taken = rw (and_taken m (b + 2 * x) taken, pair_last b x h, pair_half b x h)

  pub pair_passed : m % 2 ≡ 0 → bit_and (b + 2 * x) m ≡ 2 * bit_and x (m / 2)
  pair_passed passed = rw (and_passed m (b + 2 * x) passed, pair_half b x h)

  pub pair_scattered : (n : ℕ) → m % 2 ≡ 1 → scattered (suc n) m (b + 2 * x) ≡ b + 2 * scattered n (m / 2) x
  pair_scattered n taken = rw (scattered_taken n m (b + 2 * x) taken, pair_last b x h, pair_half b x h)

-- ---- bounds

pub scattered_lt : (n m y : ℕ) → scattered n m y < 2 ^ n
unfolding scattered
scattered_lt zero m y = omega arith
scattered_lt (suc n) m y = by_bit (eqb (m % 2) 1) (scattered_lt n (m / 2) (y / 2)) (scattered_lt n (m / 2) y)
  where
    by_bit : (t : Bool) {a b : ℕ} → a < 2 ^ n → b < 2 ^ n → choose t (y % 2 + 2 * a) (2 * b) < 2 ^ suc n
    by_bit true ha hb = pair_lt n (last_lt y) ha
    by_bit false ha hb = omega (arith, pair_lt n (last_lt y) hb)

-- ---- only the low bits count

pub gathered_low : (n m x : ℕ) → gathered n (m % 2 ^ n) (x % 2 ^ n) ≡ gathered n m x
unfolding gathered
gathered_low zero m x = refl
gathered_low (suc n) m x = rw (low_last n m, low_last n x, low_half n m, low_half n x, gathered_low n (m / 2) (x / 2))

pub scattered_low : (n m y : ℕ) → scattered n (m % 2 ^ n) y ≡ scattered n m y
unfolding scattered
scattered_low zero m y = refl
scattered_low (suc n) m y =
    rw (low_last n m, low_half n m, scattered_low n (m / 2) (y / 2), scattered_low n (m / 2) y)

-- ---- nothing

pub gathered_none : (n x : ℕ) → gathered n 0 x ≡ 0
unfolding gathered
gathered_none zero x = refl
gathered_none (suc n) x = gathered_none n (x / 2)

pub scattered_none : (n y : ℕ) → scattered n 0 y ≡ 0
unfolding scattered
scattered_none zero y = refl
scattered_none (suc n) y = rw (scattered_none n y)

pub scattered_zero : (n m : ℕ) → scattered n m 0 ≡ 0
unfolding scattered
scattered_zero zero m = refl
scattered_zero (suc n) m = choose_either (λ (x : ℕ). x ≡ 0) (eqb (m % 2) 1) (rw (scattered_zero n (m / 2))) (rw (scattered_zero n (m / 2)))

-- ---- the way round

-- what the mask leaves of x, by the mask's last bit
pub masked_taken : (n m x : ℕ) → m % 2 ≡ 1 → bit_and x (m % 2 ^ suc n) ≡ x % 2 + 2 * bit_and (x / 2) (m / 2 % 2 ^ n)
masked_taken n m x h = rw (← low_half n m) (and_taken (m % 2 ^ suc n) x (low_last n m ∙ h))

pub masked_passed : (n m x : ℕ) → m % 2 ≡ 0 → bit_and x (m % 2 ^ suc n) ≡ 2 * bit_and (x / 2) (m / 2 % 2 ^ n)
masked_passed n m x h = rw (← low_half n m) (and_passed (m % 2 ^ suc n) x (low_last n m ∙ h))

pub scattered_gathered : (n m x : ℕ) → scattered n m (gathered n m x) ≡ bit_and x (m % 2 ^ n)
unfolding gathered scattered
scattered_gathered zero m x = sym (rw mod-one (and_zero_r x))
scattered_gathered (suc n) m x =
    let g = gathered n (m / 2) (x / 2) in
    ⊎_elim
    (λ passed. rw (masked_passed n m x passed, passed, scattered_gathered n (m / 2) (x / 2)))
    (λ taken. rw (masked_taken n m x taken, taken, pair_last (x % 2) g (last_lt x), pair_half (x % 2) g (last_lt x), scattered_gathered n (m / 2) (x / 2)))
    (last_cases m)
