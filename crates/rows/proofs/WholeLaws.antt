-- An operation of bytes by and, xor does the same to each pixel in them: a field of an and, xor is that of the fields.
use Rattle.std.proofs.Common.{◌≡◌, ℕ, ◌+◌, ◌-◌, ◌*◌, ◌/◌, ◌%◌, ◌^◌, ◌<◌, Bool, T, eqb, sym, ap, ◌∙◌, ap₂, mod-eq_of_lt, arith, eqb→eq}
use native.Mathlib.Nat.{mod-mod}
use lib.Bits.{bit_and, bit_xor, and_shr, xor_shr, and_mod, xor_mod, and_high, xor_comm}
use Rattle.numbers.specs.Fields.{field, with_field}
use Rattle.numbers.proofs.Fields.{field_lt, with_field_xor}
use Rattle.mixes.specs.declared.logical.Blend.{Blend}
use Rattle.mixes.specs.Inner.{blended}
use Rattle.mixes.proofs.Bitwise.{all_below, below}
use Rattle.pixels.specs.Maps.{bits_of}
use Rattle.pixels.proofs.Maps.{by_size_lem}
use Rattle.rows.specs.Inner.{repeated_in, wholly, Alike}

-- ---- fields

pub field_xor : (s n a b : ℕ) → field s n (bit_xor a b) ≡ bit_xor (field s n a) (field s n b)
unfolding field
field_xor s n a b = ap (λ (x : ℕ). x % 2 ^ n) (xor_shr a b s) ∙ xor_mod (a / 2 ^ s) (b / 2 ^ s) n

pub field_and : (s n a b : ℕ) → field s n (bit_and a b) ≡ bit_and (field s n a) (field s n b)
unfolding field
field_and s n a b = ap (λ (x : ℕ). x % 2 ^ n) (and_shr a b s) ∙ and_mod (a / 2 ^ s) (b / 2 ^ s) n

-- the bits of a field
pub masked : (s n x : ℕ) → bit_and x (2 ^ (n + s) - 2 ^ s) ≡ field s n x * 2 ^ s
unfolding field
masked s n x = and_high x n s

-- a number with one field of another
pub with_field_of : (s n x y : ℕ) → bit_xor x (bit_and (bit_xor y x) (2 ^ (n + s) - 2 ^ s)) ≡ with_field s n (field s n y) x
with_field_of s n x y =
    let f = field s n x in
    let g = field s n y in
    ap (bit_xor x) (masked s n (bit_xor y x) ∙ ap (λ (z : ℕ). z * 2 ^ s) (field_xor s n y x ∙ xor_comm g f ∙ ap (bit_xor f) (sym (mod-eq_of_lt (field_lt s n y)))))
    ∙ with_field_xor s n g x

-- ---- a mask of one pixel, repeated

-- so many fields of a number below a power of two, repeated, are that number
abbrev repeats : (bits count times : ℕ) → Bool
repeats bits count times = all_below count (λ i. all_below (2 ^ bits) (λ v. eqb (field (i * bits) bits (v * times)) v))

told : (bits count times : ℕ) → T (repeats bits count times) → (i v : ℕ) → i < count → v < 2 ^ bits → field (i * bits) bits (v * times) ≡ v
told bits count times t i v few small =
    eqb→eq _ _ (below (2 ^ bits) (λ v. eqb (field (i * bits) bits (v * times)) v) v small
    (below count (λ i. all_below (2 ^ bits) (λ v. eqb (field (i * bits) bits (v * times)) v)) i few t))

ones : T (repeats 1 8 255)
unfolding field
ones = tt

twos : T (repeats 2 4 85)
unfolding field
twos = tt

fours : T (repeats 4 2 17)
unfolding field
fours = tt

eights : T (repeats 8 1 1)
unfolding field
eights = tt

pub repeated_field : (format mask i : ℕ) → i * bits_of format < 8
    → field (i * bits_of format) (bits_of format) (repeated_in format mask) ≡ mask % 2 ^ bits_of format
unfolding bits_of repeated_in
repeated_field format mask i =
    by_size_lem (λ (k : ℕ). i * 2 ^ k < 8 → field (i * 2 ^ k) (2 ^ k) (mask % 2 ^ 2 ^ k * (255 / (2 ^ 2 ^ k - 1))) ≡ mask % 2 ^ 2 ^ k)
    (λ few. told 1 8 255 ones i (mask % 2) (omega arith) (omega arith))
    (λ few. told 2 4 85 twos i (mask % 4) (omega arith) (omega arith))
    (λ few. told 4 2 17 fours i (mask % 16) (omega arith) (omega arith))
    (λ few. told 8 1 1 eights i (mask % 256) (omega arith) (omega arith))
    format

-- ---- a blend of bytes

-- a mask of one pixel in each byte of a whole blend
pub record Repeated (format : ℕ) (b w : Blend ℕ) : Type 0 where
  pub always : w.always ≡ repeated_in format b.always
  pub source : w.source ≡ repeated_in format b.source
  pub destination : w.destination ≡ repeated_in format b.destination
  pub both : w.both ≡ repeated_in format b.both

-- the byte that four masks make of two
abbrev made : (a b c e s d : ℕ) → ℕ
made a b c e s d = bit_xor d (bit_xor (bit_xor a (bit_and b s)) (bit_and (bit_xor c (bit_and e s)) d))

-- what takes a part of an and, xor takes that of what it is made of
module _ (h : ℕ → ℕ) (xored : (x y : ℕ) → h (bit_xor x y) ≡ bit_xor (h x) (h y)) (anded : (x y : ℕ) → h (bit_and x y) ≡ bit_and (h x) (h y)) where
  part_made : (a b c e s d : ℕ) → h (made a b c e s d) ≡ made (h a) (h b) (h c) (h e) (h s) (h d)
  part_made a b c e s d =
      xored d _
      ∙ ap (bit_xor (h d))
      (xored (bit_xor a (bit_and b s)) _
      ∙ ap₂ bit_xor (xored a _ ∙ ap (bit_xor (h a)) (anded b s))
      (anded _ d ∙ ap (λ (x : ℕ). bit_and x (h d)) (xored c _ ∙ ap (bit_xor (h c)) (anded e s))))

module _ (format : ℕ) (b w : Blend ℕ) (h : Repeated format b w) where
  pub whole_alike : Alike format (blended (bits_of format) b) (wholly w)
  unfolding blended
  whole_alike i s d few =
      let n = bits_of format in
      let k = i * bits_of format in
      let low : ℕ → ℕ = λ x. x % 2 ^ n in
      let S : ℕ = field k n s in
      let D : ℕ = field k n d in
      let D' : ℕ = D % 2 ^ n in
      part_made (field k n) (field_xor k n) (field_and k n) w.always w.source w.destination w.both s d
      ∙ (λ j. made (part _ h.always j) (part _ h.source j) (part _ h.destination j) (part _ h.both j) S D)
      ∙ (λ j. made (low b.always) (low b.source) (low b.destination) (low b.both) (sym (mod-eq_of_lt (field_lt k n s)) j) (twice j))
      ∙ sym (part_made low (λ x y. xor_mod x y n) (λ x y. and_mod x y n) b.always b.source b.destination b.both S D')
    where
      part : (m : ℕ) {v : ℕ} → v ≡ repeated_in format m → field (i * bits_of format) (bits_of format) v ≡ m % 2 ^ bits_of format
      part m e = ap (field (i * bits_of format) (bits_of format)) e ∙ repeated_field format m i few

      twice : field (i * bits_of format) (bits_of format) d ≡ field (i * bits_of format) (bits_of format) d % 2 ^ bits_of format % 2 ^ bits_of format
      twice = sym (mod-mod _ _ ∙ mod-eq_of_lt (field_lt (i * bits_of format) (bits_of format) d))
