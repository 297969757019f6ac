-- Where pixels lie: by the four sizes, a pixel lies within one byte; by its row and column, no two share a bit.
use mathlib.Core.Path.{◌≡◌, sym, ap, ◌∙◌}
use mathlib.Core.Bool.{Bool, true, false}
use mathlib.Core.Logic.{◌⊎◌, inl, inr, ⊎_elim}
use Prim.Native.Nat.{ℕ, zero, suc, ◌+◌, ◌-◌, ◌*◌, ◌/◌, ◌%◌, ◌^◌, ◌≤◌, ◌<◌}
use native.Mathlib.Nat.{mul_comm, mul-le-mul_right, mod-eq_of_lt}
use native.Mathlib.Omega.{arith}
use lib.Arith.{digits_lt, digits_div, digits_mod}
use lib.Bits.{bit_and, bit_xor, and_mask, xor_zero_r, xor_add_and}
use lib.Pow.{pow_pos}
use Rattle.numbers.specs.Choose.{choose}
use Rattle.numbers.proofs.Choices.{choose_either}
use Rattle.numbers.proofs.Order.{lt_or_le}
use Rattle.pixels.specs.declared.Map.{Map}
use Rattle.pixels.specs.Maps.{bits_of, start_of, place_of, is_motorola, shift_of, needed_of}
use Rattle.pixels.specs.Inner.{shift_at}

-- ---- the four sizes

-- what holds of the numbers below 4, the codes of the four sizes, holds of each format's
pub by_size_lem : (P : ℕ → Type 0) → P 0 → P 1 → P 2 → P 3 → (format : ℕ) → P (format % 4)
by_size_lem P p q r s format = by (format % 4) (omega arith)
  where
    by : (k : ℕ) → k < 4 → P k
    by zero h = p
    by (suc zero) h = q
    by (suc (suc zero)) h = r
    by (suc (suc (suc zero))) h = s
    by (suc (suc (suc (suc k)))) h = absurd (omega arith)

pub bits_le : (format : ℕ) → bits_of format ≤ 8
unfolding bits_of
bits_le = by_size_lem (λ (k : ℕ). 2 ^ k ≤ 8) (omega arith) (omega arith) (omega arith) (omega arith)

-- a pixel's byte is found by a shift
pub start_shr : (format n : ℕ) → n * bits_of format / 8 ≡ n / 2 ^ (3 - format % 4)
unfolding bits_of
start_shr format n =
    by_size_lem (λ (k : ℕ). n * 2 ^ k / 8 ≡ n / 2 ^ (3 - k)) (omega arith) (omega arith) (omega arith) (omega arith) format

-- ---- rows and columns

-- how many pixels of the map come before this one
abbrev index : Map → ℕ → ℕ → ℕ
index map x y = y * (map.width + 1) + x

-- a position within the map is one of its pixels
index_lt : (map : Map) (x y : ℕ) → x ≤ map.width → y ≤ map.height → index map x y < (map.width + 1) * (map.height + 1)
index_lt map x y h v = rw (mul_comm (map.width + 1) (map.height + 1)) (digits_lt (omega arith) (omega arith))

-- no two positions of a map are one pixel
index_apart : (map : Map) (x y x' y' : ℕ) → x ≤ map.width → x' ≤ map.width → ((x ≡ x') × (y ≡ y') → ⊥)
    → index map x y ≡ index map x' y' → ⊥
index_apart map x y x' y' h h' ne e =
    let i : x < map.width + 1 = omega arith in
    let i' : x' < map.width + 1 = omega arith in
    ne (
      sym (digits_mod y i) ∙ ap (λ (n : ℕ). n % (map.width + 1)) e ∙ digits_mod y' i',
      sym (digits_div y i) ∙ ap (λ (n : ℕ). n / (map.width + 1)) e ∙ digits_div y' i',
    )

-- ---- bits and bytes

-- a pixel within the map lies within the bytes that the map takes
pub place_lt : (map : Map) (x y : ℕ) → x ≤ map.width → y ≤ map.height → place_of map x y < map.base + needed_of map
unfolding bits_of start_of place_of needed_of
place_lt map x y h v =
    omega (arith, mul-le-mul_right (bits_of map.format) (index_lt map x y h v), pow_pos (map.format % 4))

-- a pixel ends within the byte in which it starts
pub number_ends : (format n : ℕ) → n * bits_of format % 8 + bits_of format ≤ 8
unfolding bits_of
number_ends format n =
    by_size_lem (λ (k : ℕ). n * 2 ^ k % 8 + 2 ^ k ≤ 8) (omega arith) (omega arith) (omega arith) (omega arith) format

pub ends_in_byte : (map : Map) (x y : ℕ) → start_of map x y % 8 + bits_of map.format ≤ 8
unfolding start_of
ends_in_byte map x y = number_ends map.format (index map x y)

-- so it lies within one byte, in either order
pub shift_in_byte : (format n : ℕ) → shift_at format n + bits_of format ≤ 8
shift_in_byte format n =
    let ends = number_ends format n in
    choose_either (λ (shift : ℕ). shift + bits_of format ≤ 8) (is_motorola format) (omega arith) (omega arith)

pub in_byte : (map : Map) (x y : ℕ) → shift_of map x y + bits_of map.format ≤ 8
unfolding start_of shift_of
in_byte map x y = shift_in_byte map.format (index map x y)

-- turned over, a pixel's number counts from its byte's other end
turned_over : (format n : ℕ) → n < 2 ^ 32 → bit_xor n (2 ^ 32 - 1) * bits_of format % 8 ≡ 8 - bits_of format - n * bits_of format % 8
unfolding bits_of
turned_over format n fits =
    let within : bit_and n (2 ^ 32 - 1) ≡ n = and_mask n 32 ∙ mod-eq_of_lt fits in
    by (bit_xor n (2 ^ 32 - 1)) (omega (arith, xor_add_and n (2 ^ 32 - 1)))
  where
    twice : (a : ℕ) → a * 2 % 8 ≡ a % 4 * 2
    twice a = omega arith

    fourfold : (a : ℕ) → a * 4 % 8 ≡ a % 2 * 4
    fourfold a = omega arith

    four : (a : ℕ) → a + n ≡ 2 ^ 32 - 1 → a % 4 ≡ 3 - n % 4
    four a sum = omega arith

    two : (a : ℕ) → a + n ≡ 2 ^ 32 - 1 → a % 2 ≡ 1 - n % 2
    two a sum = omega arith

    by : (a : ℕ) → a + n ≡ 2 ^ 32 - 1 → a * 2 ^ (format % 4) % 8 ≡ 8 - 2 ^ (format % 4) - n * 2 ^ (format % 4) % 8
    by a sum =
        by_size_lem (λ (k : ℕ). a * 2 ^ k % 8 ≡ 8 - 2 ^ k - n * 2 ^ k % 8)
        (omega arith)
        (omega (arith, twice a, twice n, four a sum))
        (omega (arith, fourfold a, fourfold n, two a sum))
        (omega arith)
        format

-- so its shift is told by its number, or by that turned over
pub number_turned : (format n : ℕ) → n < 2 ^ 32
    → bit_xor n (choose (is_motorola format) (2 ^ 32 - 1) 0) * bits_of format % 8 ≡ shift_at format n
number_turned format n fits = by (is_motorola format)
  where
    by : (t : Bool) → bit_xor n (choose t (2 ^ 32 - 1) 0) * bits_of format % 8 ≡ choose t (8 - bits_of format - n * bits_of format % 8) (n * bits_of format % 8)
    by true = turned_over format n fits
    by false = rw (xor_zero_r n)

-- a pixel ends at the start of any later one, or before it
start_before : (map : Map) (x y x' y' : ℕ) → index map x y < index map x' y'
    → start_of map x y + bits_of map.format ≤ start_of map x' y'
unfolding start_of
start_before map x y x' y' h = omega (arith, mul-le-mul_right (bits_of map.format) h)

-- two spans of a byte, neither reaching the other
abbrev Beside : (bits a b : ℕ) → Type 0
Beside bits a b = (a + bits ≤ b) ⊎ (b + bits ≤ a)

-- two pixels of one byte start apart
starts_apart : (map : Map) (x y x' y' : ℕ) → x ≤ map.width → x' ≤ map.width → ((x ≡ x') × (y ≡ y') → ⊥)
    → place_of map x' y' ≡ place_of map x y
    → Beside (bits_of map.format) (start_of map x' y' % 8) (start_of map x y % 8)
unfolding place_of
starts_apart map x y x' y' h h' ne e =
    ⊎_elim (λ lt. inr (omega (arith, start_before map x y x' y' lt)))
    (λ ge.
    let gt : index map x' y' < index map x y = omega (arith, index_apart map x y x' y' h h' ne) in
    inl (omega (arith, start_before map x' y' x y gt)))
    (lt_or_le (index map x y) (index map x' y'))

-- counted from the top they are as far apart
order_apart : (t : Bool) (bits a b : ℕ) → a + bits ≤ 8 → b + bits ≤ 8 → Beside bits a b → Beside bits (choose t (8 - bits - a) a) (choose t (8 - bits - b) b)
order_apart true bits a b within within' apart = ⊎_elim (λ less. inr (omega arith)) (λ more. inl (omega arith)) apart
order_apart false bits a b within within' apart = apart

-- so they share no bit of it, in either order
pub shifts_apart : (map : Map) (x y x' y' : ℕ) → x ≤ map.width → x' ≤ map.width → ((x ≡ x') × (y ≡ y') → ⊥)
    → place_of map x' y' ≡ place_of map x y
    → (shift_of map x' y' + bits_of map.format ≤ shift_of map x y) ⊎ (shift_of map x y + bits_of map.format ≤ shift_of map x' y')
unfolding shift_of
shifts_apart map x y x' y' h h' ne e =
    order_apart (is_motorola map.format) (bits_of map.format) _ _ (ends_in_byte map x' y') (ends_in_byte map x y) (starts_apart map x y x' y' h h' ne e)
