-- Where the pixels of a lane lie: those of one byte one after another from its end, and steps add up.
use Rattle.std.proofs.Common.{◌≡◌, ℕ, ◌+◌, ◌-◌, ◌*◌, ◌/◌, ◌%◌, ◌^◌, ◌<◌, ◌≤◌, Bool, true, false, not, refl, ap, ◌∙◌, mul-le-mul_right, mul_assoc, mul_comm, add-mul, zero-mul, arith}
use native.Mathlib.Nat.{mul-sub}
use Rattle.numbers.specs.Choose.{choose}
use Rattle.numbers.proofs.Choices.{choose_either}
use Rattle.pixels.specs.Maps.{bits_of, is_motorola}
use Rattle.pixels.proofs.Maps.{by_size_lem}
use Rattle.pixels.proofs.Bytes.{full}
use Rattle.pixels.specs.Inner.{shift_at}
use Rattle.rows.specs.Inner.{along, gone_at, First, Passed, from_top}

pub along_along : (back : Bool) (n i j : ℕ) → along back (along back n i) j ≡ along back n (i + j)
along_along true n i j = omega arith
along_along false n i j = omega arith

pub along_none : (back : Bool) (n : ℕ) → along back n 0 ≡ n
along_none true n = omega arith
along_none false n = omega arith

-- as many pixels as a byte has are a power of two
pub per_pow : (format : ℕ) → 2 ^ (3 - format % 4) ≡ 8 / bits_of format
unfolding bits_of
per_pow = by_size_lem (λ (k : ℕ). 2 ^ (3 - k) ≡ 8 / 2 ^ k) (omega arith) (omega arith) (omega arith) (omega arith)

-- so many bytes' pixels have as many times eight bits
pub eight_bits : (format c : ℕ) → c * (8 / bits_of format) * bits_of format ≡ c * 8
eight_bits format c = mul_assoc c (8 / bits_of format) (bits_of format) ∙ ap (λ (x : ℕ). c * x) (full format)

-- no more pixels than a byte has are in it
pub per_bits : (format n : ℕ) → n ≤ 8 / bits_of format → n * bits_of format ≤ 8
per_bits format n few = omega (arith, mul-le-mul_right (bits_of format) few, full format)

pub twice : (n : ℕ) → n * 2 % 8 ≡ n % 4 * 2
twice n = omega arith

pub fourfold : (n : ℕ) → n * 4 % 8 ≡ n % 2 * 4
fourfold n = omega arith

-- how far up the i-th pixel of a byte lies, counted from the top or from the bottom
abbrev pub shift_from : Bool → (bits i : ℕ) → ℕ
shift_from t bits i = choose t (8 - bits - i * bits) (i * bits)

-- a pixel of a byte ends in it
pub ends_within : (format i : ℕ) → i * bits_of format < 8 → i * bits_of format + bits_of format ≤ 8
unfolding bits_of
ends_within format i =
    by_size_lem (λ (k : ℕ). i * 2 ^ k < 8 → i * 2 ^ k + 2 ^ k ≤ 8) (λ few. omega arith) (λ few. omega arith) (λ few. omega arith) (λ few. omega arith) format

pub less_mul : (n i k : ℕ) → (n - i) * k ≡ n * k - i * k
less_mul n i k = mul_comm (n - i) k ∙ mul-sub k n i ∙ rw (mul_comm k n, mul_comm k i)

bits_back : (p q r n : ℕ) → p % 8 ≡ 8 - n - q → q + r + n ≤ 8 → ((p - r) / 8 ≡ p / 8) × ((p - r) % 8 ≡ 8 - n - (q + r))
bits_back p q r n first within = (omega arith, omega arith)

bits_forth : (p q r : ℕ) → p % 8 ≡ q → q + r < 8 → ((p + r) / 8 ≡ p / 8) × ((p + r) % 8 ≡ q + r)
bits_forth p q r first within = (omega arith, omega arith)

module _ (format n g i : ℕ) (few : (g + i) * bits_of format < 8) where
  -- the pixels of the byte
  pub in_byte_of : (back : Bool) → Passed back format n g
      → (along back n i * bits_of format / 8 ≡ n * bits_of format / 8)
      × (along back n i * bits_of format % 8 ≡ choose back (8 - bits_of format - (g + i) * bits_of format) ((g + i) * bits_of format))
  in_byte_of true passed =
      let ends = ends_within format (g + i) few in
      rw (less_mul n i (bits_of format), add-mul g i (bits_of format))
      (bits_back (n * bits_of format) (g * bits_of format) (i * bits_of format) (bits_of format) passed (rw (add-mul g i (bits_of format)) at ends))
  in_byte_of false passed =
      rw (add-mul n i (bits_of format), add-mul g i (bits_of format))
      (bits_forth (n * bits_of format) (g * bits_of format) (i * bits_of format) passed (rw (add-mul g i (bits_of format)) at few))

  pub shift_of_lem : (back : Bool) → Passed back format n g → shift_at format (along back n i) ≡ shift_from (from_top back format) (bits_of format) (g + i)
  shift_of_lem back passed = by back (is_motorola format) (along back n i * bits_of format % 8) (in_byte_of back passed).1
    where
      by : (b m : Bool) (x : ℕ) → x ≡ choose b (8 - bits_of format - (g + i) * bits_of format) ((g + i) * bits_of format)
          → choose m (8 - bits_of format - x) x ≡ shift_from (choose b (not m) m) (bits_of format) (g + i)
      by true true x e = omega (arith, ends_within format (g + i) few)
      by true false x e = e
      by false true x e = omega arith
      by false false x e = e

-- at the first of a byte none is passed
pub first_passed : (back : Bool) (format n : ℕ) → First back format n → Passed back format n 0
first_passed true format n first = rw (zero-mul (bits_of format)) (omega (arith, first))
first_passed false format n first = rw (zero-mul (bits_of format)) first

pub gone_passed : (back : Bool) (format n g : ℕ) → g ≡ gone_at back format n → Passed back format n g
unfolding bits_of
gone_passed back format n g =
    by_size_lem (λ (k : ℕ). g ≡ choose back (8 / 2 ^ k - 1 - n % (8 / 2 ^ k)) (n % (8 / 2 ^ k)) → n * 2 ^ k % 8 ≡ choose back (8 - 2 ^ k - g * 2 ^ k) (g * 2 ^ k))
    (one back) (two back) (four back) (eight back) format
  where
    one : (back : Bool) → g ≡ choose back (7 - n % 8) (n % 8) → n * 1 % 8 ≡ choose back (7 - g * 1) (g * 1)
    one true e = omega arith
    one false e = omega arith

    two : (back : Bool) → g ≡ choose back (3 - n % 4) (n % 4) → n * 2 % 8 ≡ choose back (6 - g * 2) (g * 2)
    two true e = omega (arith, twice n)
    two false e = omega (arith, twice n)

    four : (back : Bool) → g ≡ choose back (1 - n % 2) (n % 2) → n * 4 % 8 ≡ choose back (4 - g * 4) (g * 4)
    four true e = omega (arith, fourfold n)
    four false e = omega (arith, fourfold n)

    eight : (back : Bool) → g ≡ choose back (0 - n % 1) (n % 1) → n * 8 % 8 ≡ choose back (0 - g * 8) (g * 8)
    eight true e = omega arith
    eight false e = omega arith

-- ---- the first pixel of a byte

-- a lane that has passed none of its byte is at its first
pub none_gone : (back : Bool) (format n : ℕ) → gone_at back format n ≡ 0 → First back format n
unfolding bits_of
none_gone back format n =
    by_size_lem (λ (k : ℕ). choose back (8 / 2 ^ k - 1 - n % (8 / 2 ^ k)) (n % (8 / 2 ^ k)) ≡ 0 → n * 2 ^ k % 8 ≡ choose back (8 - 2 ^ k) 0)
    (one back) (two back) (four back) (eight back) format
  where
    one : (back : Bool) → choose back (7 - n % 8) (n % 8) ≡ 0 → n * 1 % 8 ≡ choose back 7 0
    one true none = omega arith
    one false none = omega arith

    two : (back : Bool) → choose back (3 - n % 4) (n % 4) ≡ 0 → n * 2 % 8 ≡ choose back 6 0
    two true none = omega (arith, twice n)
    two false none = omega (arith, twice n)

    four : (back : Bool) → choose back (1 - n % 2) (n % 2) ≡ 0 → n * 4 % 8 ≡ choose back 4 0
    four true none = omega (arith, fourfold n)
    four false none = omega (arith, fourfold n)

    eight : (back : Bool) → choose back (0 - n % 1) (n % 1) ≡ 0 → n * 8 % 8 ≡ choose back 0 0
    eight true none = omega arith
    eight false none = omega arith

-- what is left of it and what is gone are as many as a byte has
pub gone_on : (back : Bool) (format n r : ℕ) → gone_at back format n + r ≡ 8 / bits_of format → (back ≡ true → r ≤ n) → gone_at back format (along back n r) ≡ 0
unfolding bits_of
gone_on back format n r =
    by_size_lem (λ (k : ℕ). choose back (8 / 2 ^ k - 1 - n % (8 / 2 ^ k)) (n % (8 / 2 ^ k)) + r ≡ 8 / 2 ^ k → (back ≡ true → r ≤ n)
    → choose back (8 / 2 ^ k - 1 - along back n r % (8 / 2 ^ k)) (along back n r % (8 / 2 ^ k)) ≡ 0)
    (one back) (two back) (four back) (eight back) format
  where
    one : (back : Bool) → choose back (7 - n % 8) (n % 8) + r ≡ 8 → (back ≡ true → r ≤ n) → choose back (7 - along back n r % 8) (along back n r % 8) ≡ 0
    one true all h = let less = h refl in omega arith
    one false all h = omega arith

    two : (back : Bool) → choose back (3 - n % 4) (n % 4) + r ≡ 4 → (back ≡ true → r ≤ n) → choose back (3 - along back n r % 4) (along back n r % 4) ≡ 0
    two true all h = let less = h refl in omega arith
    two false all h = omega arith

    four : (back : Bool) → choose back (1 - n % 2) (n % 2) + r ≡ 2 → (back ≡ true → r ≤ n) → choose back (1 - along back n r % 2) (along back n r % 2) ≡ 0
    four true all h = let less = h refl in omega arith
    four false all h = omega arith

    eight : (back : Bool) → choose back (0 - n % 1) (n % 1) + r ≡ 1 → (back ≡ true → r ≤ n) → choose back (0 - along back n r % 1) (along back n r % 1) ≡ 0
    eight true all h = omega arith
    eight false all h = omega arith

-- fewer are gone than a byte has
pub gone_lt : (back : Bool) (format n : ℕ) → gone_at back format n < 8 / bits_of format
unfolding bits_of
gone_lt back format n =
    by_size_lem (λ (k : ℕ). choose back (8 / 2 ^ k - 1 - n % (8 / 2 ^ k)) (n % (8 / 2 ^ k)) < 8 / 2 ^ k)
    (choose_either (λ (x : ℕ). x < 8) back (omega arith) (omega arith)) (choose_either (λ (x : ℕ). x < 4) back (omega arith) (omega arith))
    (choose_either (λ (x : ℕ). x < 2) back (omega arith) (omega arith)) (choose_either (λ (x : ℕ). x < 1) back (omega arith) (omega arith)) format
