-- A number is its last bit and its half: what this makes of low bits, of all ones and of bit i, by linear arithmetic once 2 ^ suc n is 2 ^ n * 2.
use mathlib.Core.Logic.{◌⊎◌, inl, inr, ⊎_elim}
use mathlib.Core.Path.{◌≡◌, refl, ◌∙◌, sym, ap}
use Prim.Native.Nat.{ℕ, zero, suc, ◌+◌, ◌-◌, ◌*◌, ◌/◌, ◌%◌, ◌^◌, ◌≤◌, ◌<◌}
use native.Mathlib.Nat.{lt_of_lt_of_le, pow-suc, pow-succ', div-div-eq-div-mul}
use native.Mathlib.Numerals.{add-one}
use native.Mathlib.Omega.{arith}
use lib.Pow.{pow_pos, pow_mono, field, mod-mod-pow}

pub last_lt : (x : ℕ) → x % 2 < 2
last_lt x = omega arith

pub last_cases : (x : ℕ) → (x % 2 ≡ 0) ⊎ (x % 2 ≡ 1)
last_cases x = bit (x % 2) (last_lt x)
  where
    bit : (b : ℕ) → b < 2 → (b ≡ 0) ⊎ (b ≡ 1)
    bit zero h = inl refl
    bit (suc zero) h = inr refl
    bit (suc (suc b)) h = absurd (omega arith)

pub last_not : (x : ℕ) → (x % 2 ≡ 1 → ⊥) → x % 2 ≡ 0
last_not x unset = ⊎_elim (λ none. none) (λ one. absurd (unset one)) (last_cases x)

pub half_lt : (n : ℕ) {x : ℕ} → x < 2 ^ suc n → x / 2 < 2 ^ n
half_lt n h = omega (arith, pow-suc 2 n)

pub pair_lt : (n : ℕ) {b x : ℕ} → b < 2 → x < 2 ^ n → b + 2 * x < 2 ^ suc n
pair_lt n hb hx = omega (arith, pow-suc 2 n)

pub pair_last : (b x : ℕ) → b < 2 → (b + 2 * x) % 2 ≡ b
pair_last b x h = omega arith

pub pair_half : (b x : ℕ) → b < 2 → (b + 2 * x) / 2 ≡ x
pair_half b x h = omega arith

pub byte_lt : {n x : ℕ} → n ≤ 8 → x < 2 ^ n → x < 256
byte_lt h hx = lt_of_lt_of_le hx (pow_mono h)

-- ---- all ones

pub ones_suc : (n : ℕ) → 2 ^ suc n - 1 ≡ (2 ^ n - 1) * 2 + 1
ones_suc n = omega (arith, pow-suc 2 n, pow_pos n)

pub ones_last : (n : ℕ) → (2 ^ suc n - 1) % 2 ≡ 1
ones_last n = omega (arith, ones_suc n)

pub ones_half : (n : ℕ) → (2 ^ suc n - 1) / 2 ≡ 2 ^ n - 1
ones_half n = omega (arith, ones_suc n)

-- ---- the n low bits

pub low_last : (n x : ℕ) → x % 2 ^ suc n % 2 ≡ x % 2
low_last n x = rw (← add-one n) (mod-mod-pow x n 1)

pub low_half : (n x : ℕ) → x % 2 ^ suc n / 2 ≡ x / 2 % 2 ^ n
low_half n x = rw (← add-one n) (field x n 1)

pub low_suc : (n x : ℕ) → x % 2 ^ suc n ≡ x % 2 + 2 * (x / 2 % 2 ^ n)
low_suc n x = omega (arith, low_last n x, low_half n x)

-- ---- bit i

pub bit_suc : (i x : ℕ) → x / 2 ^ suc i ≡ x / 2 / 2 ^ i
bit_suc i x = ap (λ (k : ℕ). x / k) (pow-succ' 2 i) ∙ sym (div-div-eq-div-mul x 2 (2 ^ i))
