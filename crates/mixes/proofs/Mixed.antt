-- The mix under the plane mask: its bound, its low bits, and its bits outside the mask, from those of the merge by induction on the pixel's bits.
use mathlib.Core.Bool.{Bool}
use mathlib.Core.Path.{◌≡◌, refl, sym, ◌∙◌}
use Prim.Native.Nat.{ℕ, zero, suc, ◌+◌, ◌-◌, ◌*◌, ◌/◌, ◌%◌, ◌^◌, ◌≤◌, ◌<◌}
use native.Mathlib.Nat.{mod-mod, div-one, mod-one, not-suc-le-zero, le_of_suc-le-suc}
use native.Mathlib.Omega.{arith}
use lib.Bits.{bit_and, bit_xor}
use lib.Dec.{eqb}
use borrow.Author.Tests.{lt-ltb, le-ltb}
use Rattle.numbers.specs.Choose.{choose}
use Rattle.numbers.proofs.Choices.{choose_either}
use Rattle.mixes.specs.Mixes.{merged, mixed, logical, arithmetic}
use Rattle.mixes.proofs.Binary.{last_lt, pair_lt, pair_last, pair_half, ones_last, ones_half, low_last, low_half, low_suc, bit_suc}
use Rattle.mixes.proofs.Bitwise.{Bitwise, agree_all, mask, source, destination, and, xor}
use Rattle.mixes.proofs.LogicalMixes.{logical_low, logical_source}
use Rattle.mixes.proofs.ArithmeticMixes.{arithmetic_low}

-- ---- the merge

picked_lt : (t : Bool) (r d : ℕ) → choose t (r % 2) (d % 2) < 2
picked_lt t r d = choose_either (λ (x : ℕ). x < 2) t (last_lt r) (last_lt d)

pub merged_lt : (n m r d : ℕ) → merged n m r d < 2 ^ n
unfolding merged
merged_lt zero m r d = omega arith
merged_lt (suc n) m r d = pair_lt n (picked_lt (eqb (m % 2) 1) r d) (merged_lt n (m / 2) (r / 2) (d / 2))

pub merged_low : (n m r d : ℕ) → merged n (m % 2 ^ n) r (d % 2 ^ n) ≡ merged n m r d
unfolding merged
merged_low zero m r d = refl
merged_low (suc n) m r d =
    rw (low_last n m, low_last n d, low_half n m, low_half n d, merged_low n (m / 2) (r / 2) (d / 2))

-- so cutting the destination changes nothing
pub merged_pixel : (n m r d : ℕ) → merged n m r (d % 2 ^ n) ≡ merged n m r d
merged_pixel n m r d = sym (merged_low n m r (d % 2 ^ n)) ∙ rw (mod-mod d (2 ^ n)) (merged_low n m r d)

pub merged_none : (n r d : ℕ) → merged n 0 r d ≡ d % 2 ^ n
unfolding merged
merged_none zero r d = rw (mod-one d)
merged_none (suc n) r d = rw (merged_none n (r / 2) (d / 2), low_suc n d)

pub merged_full : (n r d : ℕ) → merged n (2 ^ n - 1) r d ≡ r % 2 ^ n
unfolding merged
merged_full zero r d = rw (mod-one r)
merged_full (suc n) r d = rw (ones_last n, ones_half n, merged_full n (r / 2) (d / 2), low_suc n r)

pub merged_bit : (n i m r d : ℕ) → i < n → merged n m r d / 2 ^ i % 2 ≡ choose (eqb (m / 2 ^ i % 2) 1) (r / 2 ^ i % 2) (d / 2 ^ i % 2)
unfolding merged
merged_bit zero i m r d h = absurd (not-suc-le-zero h)
merged_bit (suc n) zero m r d h =
    rw (div-one (merged (suc n) m r d), div-one m, div-one r, div-one d) (pair_last _ (merged n (m / 2) (r / 2) (d / 2)) (picked_lt (eqb (m % 2) 1) r d))
merged_bit (suc n) (suc i) m r d h =
    rw (bit_suc i (merged (suc n) m r d), bit_suc i m, bit_suc i r, bit_suc i d, pair_half _ (merged n (m / 2) (r / 2) (d / 2)) (picked_lt (eqb (m % 2) 1) r d))
    (merged_bit n i (m / 2) (r / 2) (d / 2) (le_of_suc-le-suc h))

merged_step : (n m r d : ℕ) → merged (suc n) m r d ≡ merged n (m / 2) (r / 2) (d / 2) * 2 + merged 1 (m % 2) (r % 2) (d % 2)
unfolding merged
merged_step n m r d = rw (mod-mod m 2, mod-mod r 2, mod-mod d 2) (omega arith)

pub merged_bitwise : Bitwise merged
unfolding merged
merged_bitwise = record { none = refl; single = λ m r d. merged_lt 1 (m % 2) (r % 2) (d % 2); step = merged_step }

pub is_merged : (n : ℕ) {m r d : ℕ} → m < 2 ^ n → r < 2 ^ n → d < 2 ^ n
    → bit_xor d (bit_and (bit_xor r d) m) ≡ merged n m r d
unfolding merged
is_merged n hm hr hd = agree_all (xor destination (and (xor source destination) mask)) merged_bitwise tt n _ _ _ hm hr hd

-- ---- the mix

pub mixed_lt : (n code m s d : ℕ) → mixed n code m s d < 2 ^ n
unfolding mixed
mixed_lt n code m s d = merged_lt n m _ d

pub mixed_low : (n code m s d : ℕ) → mixed n code (m % 2 ^ n) (s % 2 ^ n) (d % 2 ^ n) ≡ mixed n code m s d
unfolding mixed
mixed_low n code m s d = rw (logical_low n code s d, arithmetic_low n code m s d) (merged_low n m _ d)

-- so cutting the plane mask changes nothing, and nor does cutting the pixels
pub mixed_planes : (n code m s d : ℕ) → mixed n code (m % 2 ^ n) s d ≡ mixed n code m s d
mixed_planes n code m s d = sym (mixed_low n code (m % 2 ^ n) s d) ∙ rw (mod-mod m (2 ^ n)) (mixed_low n code m s d)

pub mixed_pixels : (n code m s d : ℕ) → mixed n code m (s % 2 ^ n) (d % 2 ^ n) ≡ mixed n code m s d
mixed_pixels n code m s d = sym (mixed_planes n code m (s % 2 ^ n) (d % 2 ^ n)) ∙ mixed_low n code m s d

pub mixed_logical : (n code m s d : ℕ) → code < 16 → mixed n code m s d ≡ merged n m (logical n code s d) d
unfolding mixed
mixed_logical n code m s d h = rw (lt-ltb code 16 h)

pub mixed_arithmetic : (n code m s d : ℕ) → 16 ≤ code → mixed n code m s d ≡ merged n m (arithmetic n code m s d) d
unfolding mixed
mixed_arithmetic n code m s d h = rw (le-ltb code 16 h)

-- planes 0 keep the destination
pub mixed_none : (n code s d : ℕ) → mixed n code 0 s d ≡ d % 2 ^ n
unfolding mixed
mixed_none n code s d = merged_none n _ d

-- a bit that the plane mask does not enable is the destination's
pub mixed_outside : (n code m s d i : ℕ) → i < n → m / 2 ^ i % 2 ≡ 0 → mixed n code m s d / 2 ^ i % 2 ≡ d / 2 ^ i % 2
unfolding mixed
mixed_outside n code m s d i h off = merged_bit n i m _ d h ∙ rw off

-- mix S under all planes is S
pub mixed_source : (n s d : ℕ) → mixed n 3 (2 ^ n - 1) s d ≡ s % 2 ^ n
mixed_source n s d =
    mixed_logical n 3 (2 ^ n - 1) s d (omega arith) ∙ merged_full n (logical n 3 s d) d ∙ rw (logical_source n s d) (mod-mod s (2 ^ n))
