-- A byte that is full of pixels is told by them: its fields of one size, from whichever end they are counted, leave no bit out.
use mathlib.Core.Path.{◌≡◌, sym, ap, ◌∙◌}
use mathlib.Core.Bool.{Bool, true, false}
use mathlib.Core.List.{List}
use mathlib.Core.Logic.{⊎_elim}
use Prim.Native.Nat.{ℕ, ◌+◌, ◌-◌, ◌*◌, ◌/◌, ◌%◌, ◌^◌, ◌≤◌, ◌<◌}
use native.Mathlib.Nat.{mul_comm, mul_assoc, add-mul, mul-le-mul_right, mod-lt, div-add-mod', div-lt_iff_lt-mul}
use native.Mathlib.Omega.{arith}
use lib.ListN.{get_or}
use Rattle.numbers.specs.Choose.{choose}
use Rattle.numbers.specs.Fields.{field}
use Rattle.numbers.proofs.Fields.{fields_told}
use Rattle.numbers.proofs.Order.{lt_or_le}
use Rattle.pixels.specs.declared.Map.{Map}
use Rattle.pixels.specs.Maps.{bits_of, start_of, place_of, is_motorola, shift_of}
use Rattle.pixels.specs.Pixels.{byte_at, pixel_at}
use Rattle.pixels.proofs.Maps.{by_size_lem}

-- the field of a byte at this many bits from its lowest or its highest bit
abbrev pub field_from : Bool → (bits before b : ℕ) → ℕ
field_from t bits before b = field (choose t (8 - bits - before) before) bits b

-- what holds of the fields of two bytes at all multiples of the size
abbrev pub Alike : Bool → (bits b b' : ℕ) → Type 0
Alike t bits b b' = (i : ℕ) → i * bits < 8 → field_from t bits (i * bits) b ≡ field_from t bits (i * bits) b'

-- counted from the other end they are the same fields, the last first
module _ (b b' bits count : ℕ) (full : count * bits ≡ 8) (inside : (i : ℕ) → i < count → i * bits < 8)
    (turned : (i : ℕ) → i < count → 8 - bits - (count - 1 - i) * bits ≡ i * bits) where
  same_fields : (t : Bool) → Alike t bits b b' → (i : ℕ) → i < count → field (i * bits) bits b ≡ field (i * bits) bits b'
  same_fields true same i less = rw (turned i less) at (same (count - 1 - i) (inside (count - 1 - i) (omega arith)))
  same_fields false same i less = same i (inside i less)

  byte_of_fields : b < 256 → b' < 256 → (t : Bool) → Alike t bits b b' → b ≡ b'
  byte_of_fields h h' t same = fields_told bits count b b' (rw full h) (rw full h') (same_fields t same)

pub byte_told : (t : Bool) (b b' : ℕ) → b < 256 → b' < 256 → (format : ℕ) → Alike t (bits_of format) b b' → b ≡ b'
unfolding bits_of
byte_told t b b' h h' =
    by_size_lem (λ (k : ℕ). Alike t (2 ^ k) b b' → b ≡ b')
    (byte_of_fields b b' 1 8 (omega arith) (λ i less. omega arith) (λ i less. omega arith) h h' t)
    (byte_of_fields b b' 2 4 (omega arith) (λ i less. omega arith) (λ i less. omega arith) h h' t)
    (byte_of_fields b b' 4 2 (omega arith) (λ i less. omega arith) (λ i less. omega arith) h h' t)
    (byte_of_fields b b' 8 1 (omega arith) (λ i less. omega arith) (λ i less. omega arith) h h' t)

-- ---- the bytes of a map

-- pixel number n of a map, by its byte
numbered : (m : List ℕ) (a : Map) (n : ℕ)
    → pixel_at m a (n % (a.width + 1)) (n / (a.width + 1))
    ≡ field_from (is_motorola a.format) (bits_of a.format) (n * bits_of a.format % 8) (get_or m (a.base + n * bits_of a.format / 8) 0)
unfolding start_of place_of shift_of byte_at pixel_at
numbered m a n =
    let bits : ℕ = bits_of a.format in
    ap (λ (k : ℕ). field_from (is_motorola a.format) bits (k * bits % 8) (get_or m (a.base + k * bits / 8) 0)) (div-add-mod' n (a.width + 1))

-- a byte is full of pixels
pub full : (format : ℕ) → 8 / bits_of format * bits_of format ≡ 8
unfolding bits_of
full = by_size_lem (λ (k : ℕ). 8 / 2 ^ k * 2 ^ k ≡ 8) (omega arith) (omega arith) (omega arith) (omega arith)

-- two maps of one format and as many columns, in two memories of bytes, whose pixels are the same
module _ (m m' : List ℕ) (a a' : Map) (bytes : (j : ℕ) → get_or m j 0 < 256) (bytes' : (j : ℕ) → get_or m' j 0 < 256)
    (columns : a'.width ≡ a.width) (format : a'.format ≡ a.format)
    (same : (x y : ℕ) → x ≤ a.width → y ≤ a.height → pixel_at m a x y ≡ pixel_at m' a' x y) where
  abbrev size : ℕ
  size = bits_of a.format

  abbrev pixels : ℕ
  pixels = (a.width + 1) * (a.height + 1)

  fields_same : (n : ℕ) → n < pixels
      → field_from (is_motorola a.format) size (n * size % 8) (get_or m (a.base + n * size / 8) 0)
      ≡ field_from (is_motorola a.format) size (n * size % 8) (get_or m' (a'.base + n * size / 8) 0)
  fields_same n less =
      let across : n % (a.width + 1) < a.width + 1 = mod-lt n (omega arith) in
      let down : n / (a.width + 1) < a.height + 1 =
      (div-lt_iff_lt-mul {k = a.width + 1} {x = n} {y = a.height + 1} (omega arith)).1 (rw (mul_comm (a.height + 1) (a.width + 1)) less) in
      sym (numbered m a n)
      ∙ same (n % (a.width + 1)) (n / (a.width + 1)) (omega arith) (omega arith)
      ∙ ap (λ (w : ℕ). pixel_at m' a' (n % (w + 1)) (n / (w + 1))) (sym columns)
      ∙ numbered m' a' n
      ∙ ap (λ (f : ℕ). field_from (is_motorola f) (bits_of f) (n * bits_of f % 8) (get_or m' (a'.base + n * bits_of f / 8) 0)) format

  -- every byte that their pixels fill is the same
  pub bytes_same : (j : ℕ) → j * 8 + 8 ≤ pixels * size → get_or m (a.base + j) 0 ≡ get_or m' (a'.base + j) 0
  bytes_same j whole = byte_told (is_motorola a.format) _ _ (bytes (a.base + j)) (bytes' (a'.base + j)) a.format there
    where
      there : Alike (is_motorola a.format) size (get_or m (a.base + j) 0) (get_or m' (a'.base + j) 0)
      there i less =
          let n : ℕ = j * (8 / size) + i in
          let bits : n * size ≡ j * 8 + i * size = add-mul (j * (8 / size)) i size ∙ rw (mul_assoc j (8 / size) size, full a.format) in
          let place : n * size / 8 ≡ j = omega arith in
          let before : n * size % 8 ≡ i * size = omega arith in
          let within : n < pixels =
          ⊎_elim (λ (inside : n < pixels). inside) (λ (beyond : pixels ≤ n). absurd (omega (arith, mul-le-mul_right size beyond))) (lt_or_le n pixels) in
          rw (place, before) at (fields_same n within)
