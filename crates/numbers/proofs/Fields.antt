-- A field is what was put into it and no other field sees that: a number is its digits above, in and below the field.
use mathlib.Core.Path.{◌≡◌, refl, sym, ap, ap₂, ◌∙◌}
use mathlib.Core.Logic.{◌⊎◌, inl, inr}
use Prim.Native.Nat.{ℕ, zero, suc, ◌+◌, ◌-◌, ◌*◌, ◌/◌, ◌%◌, ◌^◌, ◌≤◌, ◌<◌}
use native.Mathlib.Nat.{le_trans, lt_of_lt_of_le, zero-mul, suc-mul, zero-add, add-zero, mul_comm, mul_assoc, add-mul, mul-le-mul_right}
use native.Mathlib.Nat.{mod-lt, mod-le, mod-mod, mod-eq_of_lt, zero-mod, zero-div, div-one, div-mul-le_self, div-lt_iff_lt-mul}
use native.Mathlib.Omega.{arith}
use lib.Arith.{bin_ind}
use lib.Bits.{bit_xor, differ, xor_zero_r, xor_lt, xor_step, xor_block}
use lib.Pow as pow
use lib.Pow.{pow_pos, pow_mono, pow-add, shl_lt, shl_exact, shr_lt, shr-shr, split, high, low, mod-mod-pow}
pub use Rattle.std.proofs.lemmas.Nat.{one_shl}
use Rattle.numbers.specs.Fields.{field, with_field}

-- ---- shifts

pub low_shl_lt : (s n k v : ℕ) → s + n ≤ k → v % 2 ^ n * 2 ^ s < 2 ^ k
low_shl_lt s n k v h = lt_of_lt_of_le (shl_lt n s (mod-lt v (pow_pos n))) (pow_mono (omega arith))

pub lt_of_shr : {x : ℕ} (j k : ℕ) → x / 2 ^ k < 2 ^ j → x < 2 ^ (j + k)
lt_of_shr j k h = rw pow-add ((div-lt_iff_lt-mul (pow_pos k)).0 h)

-- ---- a field

pub field_lt : (s n x : ℕ) → field s n x < 2 ^ n
unfolding field
field_lt s n x = mod-lt (x / 2 ^ s) (pow_pos n)

pub field_zero : (s n : ℕ) → field s n zero ≡ zero
unfolding field
field_zero s n = rw (zero-div (2 ^ s), zero-mod (2 ^ n))

pub field_le : (s n x : ℕ) → field s n x * 2 ^ s ≤ x
unfolding field
field_le s n x = le_trans (mul-le-mul_right (2 ^ s) (mod-le (x / 2 ^ s) (2 ^ n))) (div-mul-le_self x (2 ^ s))

-- a field is within the digits below its end
pub field_mod : (s n k x : ℕ) → s + n ≤ k → field s n (x % 2 ^ k) ≡ field s n x
unfolding field
field_mod s n k x h =
    let e : k - (n + s) + (n + s) ≡ k = omega arith in
    sym (pow.field (x % 2 ^ k) n s)
    ∙ ap (λ (y : ℕ). y / 2 ^ s) (rw e at (mod-mod-pow x (k - (n + s)) (n + s)))
    ∙ pow.field x n s

-- a field is within the digits above any place below it
pub field_shr : (s n k x : ℕ) → k ≤ s → field (s - k) n (x / 2 ^ k) ≡ field s n x
unfolding field
field_shr s n k x h =
    let e : k + (s - k) ≡ s = omega arith in
    ap (λ (y : ℕ). y % 2 ^ n) (rw e at (shr-shr x k (s - k)))

-- a number of so many fields of n bits is told by them
pub fields_told : (n count x y : ℕ) → x < 2 ^ (count * n) → y < 2 ^ (count * n)
    → ((i : ℕ) → i < count → field (i * n) n x ≡ field (i * n) n y) → x ≡ y
unfolding field
fields_told n zero x y h h' same = let none = rw (zero-mul n) at h in let none' = rw (zero-mul n) at h' in omega arith
fields_told n (suc count) x y h h' same =
    let more : suc count * n ≡ count * n + n = suc-mul count n in
    let first : x % 2 ^ n ≡ y % 2 ^ n = rw (zero-mul n, div-one x, div-one y) at (same 0 (omega arith)) in
    let above : x / 2 ^ n ≡ y / 2 ^ n =
    fields_told n count (x / 2 ^ n) (y / 2 ^ n) (shr_lt (count * n) n (rw more at h)) (shr_lt (count * n) n (rw more at h'))
    (λ i less. shifted x i ∙ same (suc i) (omega arith) ∙ sym (shifted y i)) in
    sym (split x n) ∙ ap₂ (λ a b. a * 2 ^ n + b) above first ∙ split y n
  where
    shifted : (z i : ℕ) → z / 2 ^ n / 2 ^ (i * n) % 2 ^ n ≡ z / 2 ^ (suc i * n) % 2 ^ n
    shifted z i = ap (λ (w : ℕ). w % 2 ^ n) (shr-shr z n (i * n) ∙ ap (λ (k : ℕ). z / 2 ^ k) (omega (arith, suc-mul i n)))

-- ---- a number with another field

module _ (s n v x : ℕ) where
  -- as a number of the digits from the field on, and those below it
  with_split : with_field s n v x ≡ (x / 2 ^ (s + n) * 2 ^ n + v % 2 ^ n) * 2 ^ s + x % 2 ^ s
  unfolding with_field
  with_split =
      ap (λ (y : ℕ). y + x % 2 ^ s)
      (ap (λ (y : ℕ). x / 2 ^ (s + n) * y + v % 2 ^ n * 2 ^ s) (pow-add 2 s n ∙ mul_comm (2 ^ s) (2 ^ n))
      ∙ rw (add-mul, mul_assoc))

  with_field_shr : with_field s n v x / 2 ^ s ≡ x / 2 ^ (s + n) * 2 ^ n + v % 2 ^ n
  with_field_shr = rw with_split (high _ s (mod-lt x (pow_pos s)))

  -- what lies below the field stays
  pub with_field_below : with_field s n v x % 2 ^ s ≡ x % 2 ^ s
  with_field_below = rw with_split (low _ s (mod-lt x (pow_pos s)))

  -- what lies above the field stays
  pub with_field_above : with_field s n v x / 2 ^ (s + n) ≡ x / 2 ^ (s + n)
  with_field_above =
      sym (shr-shr (with_field s n v x) s n) ∙ ap (λ (y : ℕ). y / 2 ^ n) with_field_shr
      ∙ high (x / 2 ^ (s + n)) n (mod-lt v (pow_pos n))

  pub field_with_same : field s n (with_field s n v x) ≡ v % 2 ^ n
  unfolding field
  field_with_same = rw with_field_shr (low (x / 2 ^ (s + n)) n (mod-lt v (pow_pos n)))

  pub field_with_other : (t m : ℕ) → (t + m ≤ s) ⊎ (s + n ≤ t) → field t m (with_field s n v x) ≡ field t m x
  field_with_other t m (inl h) =
      sym (field_mod t m s (with_field s n v x) h) ∙ ap (field t m) with_field_below ∙ field_mod t m s x h
  field_with_other t m (inr h) =
      sym (field_shr t m (s + n) (with_field s n v x) h) ∙ ap (field (t - (s + n)) m) with_field_above
      ∙ field_shr t m (s + n) x h

  -- a field within the one that is put
  field_with_within : (t m : ℕ) → s ≤ t → t + m ≤ s + n → field t m (with_field s n v x) ≡ field (t - s) m (v % 2 ^ n)
  field_with_within t m h h' =
      sym (field_shr t m s (with_field s n v x) h)
      ∙ ap (field (t - s) m) with_field_shr
      ∙ sym (field_mod (t - s) m n _ (omega arith))
      ∙ ap (field (t - s) m) (low (x / 2 ^ (s + n)) n (mod-lt v (pow_pos n)))

  -- a number of k digits stays one
  pub with_field_lt : (k : ℕ) → s + n ≤ k → x < 2 ^ k → with_field s n v x < 2 ^ k
  with_field_lt k h l =
      let e : k - (s + n) + (s + n) ≡ k = omega arith in
      let top : x / 2 ^ (s + n) < 2 ^ (k - (s + n)) = shr_lt (k - (s + n)) (s + n) (rw e l) in
      rw e at (lt_of_shr {x = with_field s n v x} (k - (s + n)) (s + n) (rw with_field_above top))

-- a field within a field of another number that is put
pub field_with_field : (s n x y t m : ℕ) → s ≤ t → t + m ≤ s + n → field t m (with_field s n (field s n y) x) ≡ field t m y
unfolding field
field_with_field s n x y t m h h' =
    field_with_within s n (field s n y) x t m h h'
    ∙ ap (field (t - s) m) (mod-eq_of_lt (field_lt s n y))
    ∙ field_mod (t - s) m n (y / 2 ^ s) (omega arith)
    ∙ field_shr t m s y h

-- putting a field's own digits into it changes nothing
pub with_field_self : (s n x : ℕ) → with_field s n (field s n x) x ≡ x
unfolding field
with_field_self s n x =
    with_split s n (x / 2 ^ s % 2 ^ n) x ∙ rw (mod-mod, ← shr-shr, split (x / 2 ^ s) n, split x s)

-- ---- what is xored twice stays

differ_lt : (x y : ℕ) → x < 2 → y < 2 → differ x y < 2
differ_lt zero y hx hy = hy
differ_lt (suc zero) zero hx hy = hx
differ_lt (suc zero) (suc y) hx hy = omega (arith, hy)
differ_lt (suc (suc x)) y hx hy = absurd (omega (arith, hx))

differ_twice : (x y : ℕ) → x < 2 → y < 2 → differ x (differ x y) ≡ y
differ_twice zero y hx hy = refl
differ_twice (suc zero) zero hx hy = refl
differ_twice (suc zero) (suc zero) hx hy = refl
differ_twice (suc zero) (suc (suc y)) hx hy = absurd (omega (arith, hy))
differ_twice (suc (suc x)) y hx hy = absurd (omega (arith, hx))

pub xor_twice : (a b : ℕ) → bit_xor a (bit_xor a b) ≡ b
xor_twice = bin_ind (λ (n : ℕ). (b : ℕ) → bit_xor n (bit_xor n b) ≡ b) (λ b. refl) step
  where
    step : (n : ℕ) → ((b : ℕ) → bit_xor (n / 2) (bit_xor (n / 2) b) ≡ b) → (b : ℕ) → bit_xor n (bit_xor n b) ≡ b
    step n ih b =
        let below = differ_lt (n % 2) (b % 2) (omega arith) (omega arith) in
        let halves : bit_xor n b / 2 ≡ bit_xor (n / 2) (b / 2) = omega (arith, xor_step n b, below) in
        let lasts : bit_xor n b % 2 ≡ differ (n % 2) (b % 2) = omega (arith, xor_step n b, below) in
        xor_step n (bit_xor n b) ∙ rw (halves, lasts, ih (b / 2), differ_twice (n % 2) (b % 2) (omega arith) (omega arith)) (omega arith)

-- the digits of a field change in which it and what is put into it differ
pub with_field_xor : (s n v x : ℕ) → bit_xor x (bit_xor (field s n x) (v % 2 ^ n) * 2 ^ s) ≡ with_field s n v x
with_field_xor s n v x =
    let h = x / 2 ^ (s + n) in
    let f = field s n x in
    let w = v % 2 ^ n in
    let whole : (h * 2 ^ n + f) * 2 ^ s + x % 2 ^ s ≡ x =
    rw (mod-eq_of_lt (field_lt s n x)) at (sym (with_split s n f x) ∙ with_field_self s n x) in
    let inner : bit_xor (h * 2 ^ n + f) (bit_xor f w) ≡ h * 2 ^ n + w =
    rw (zero-mul (2 ^ n), zero-add (bit_xor f w), xor_zero_r h, xor_twice f w) at
    (xor_block n h 0 f (bit_xor f w) (field_lt s n x) (xor_lt n f w (field_lt s n x) (mod-lt v (pow_pos n)))) in
    ap (λ (y : ℕ). bit_xor y (bit_xor f w * 2 ^ s)) (sym whole)
    ∙ rw (add-zero (bit_xor f w * 2 ^ s), inner, xor_zero_r (x % 2 ^ s)) at
    (xor_block s (h * 2 ^ n + f) (bit_xor f w) (x % 2 ^ s) 0 (mod-lt x (pow_pos s)) (pow_pos s))
    ∙ sym (with_split s n v x)
