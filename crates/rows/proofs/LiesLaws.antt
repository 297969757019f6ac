-- What a lane that lies in a memory has: each pixel in the phase of the one that it comes from, and the same for a part of it.
use Rattle.std.proofs.Common.{◌≡◌, ℕ, zero, suc, ◌+◌, ◌-◌, ◌*◌, ◌/◌, ◌%◌, ◌^◌, ◌<◌, ◌≤◌, Bool, true, false, List, length, sym, refl, ap, ◌∙◌, subst, zero-le, mul-le-mul_right, mod-lt, suc-mul, add-mul, one-mul, div-add-mod', arith}
use mathlib.Core.Bool.{false≢true}
use Rattle.numbers.specs.Choose.{choose}
use Rattle.pixels.specs.Maps.{bits_of, is_motorola}
use Rattle.pixels.specs.Inner.{place_at, shift_at}
use Rattle.pixels.proofs.Maps.{number_ends}
use Rattle.rows.specs.declared.Lane.{Lane}
use Rattle.rows.specs.Inner.{Alike, along, Reach, First, carried, swept, onward, Lies}
use Rattle.rows.proofs.LaneLaws.{along_along, along_none, less_mul, eight_bits, per_bits}
use Rattle.rows.proofs.SweepLaws.{bytes_on, swept_bytes}
use Rattle.rows.proofs.ByteLaws.{Bytes, per_some}

-- ---- phases

pub sum_forth : (p q r : ℕ) → p % 8 ≡ q % 8 → (p + r) % 8 ≡ (q + r) % 8
sum_forth p q r e = omega arith

pub sum_back : (p q r : ℕ) → r ≤ p → r ≤ q → p % 8 ≡ q % 8 → (p - r) % 8 ≡ (q - r) % 8
sum_back p q r h h' e = omega arith

same_phase : (back : Bool) (format m n i : ℕ) → Reach back m (i + 1) (2 ^ 32) → Reach back n (i + 1) (2 ^ 32)
    → m * bits_of format % 8 ≡ n * bits_of format % 8 → along back m i * bits_of format % 8 ≡ along back n i * bits_of format % 8
same_phase true format m n i h h' e =
    let less : i * bits_of format ≤ m * bits_of format = mul-le-mul_right (bits_of format) (omega (arith, h.0)) in
    let less' : i * bits_of format ≤ n * bits_of format = mul-le-mul_right (bits_of format) (omega (arith, h'.0)) in
    rw (less_mul m i (bits_of format), less_mul n i (bits_of format)) (sum_back (m * bits_of format) (n * bits_of format) (i * bits_of format) less less' e)
same_phase false format m n i h h' e =
    rw (add-mul m i (bits_of format), add-mul n i (bits_of format)) (sum_forth (m * bits_of format) (n * bits_of format) (i * bits_of format) e)

pub reach_fewer : (back : Bool) (from k n end : ℕ) → k ≤ n → Reach back from n end → Reach back from k end
reach_fewer true from k n end less h = (omega (arith, h.0), h.1)
reach_fewer false from k n end less h = omega (arith, h)

-- what it says of one that goes back
pub reach_back : (back : Bool) (from n end : ℕ) → Reach back from n end → back ≡ true → (n ≤ from + 1) × (from < end)
reach_back true from n end h e = h
reach_back false from n end h e = absurd (false≢true e)

-- so many from the lowest on
pub reach_lowest : (back : Bool) (from n end : ℕ) → Reach back from n end → choose back (from + 1 - n) from + n ≤ end
reach_lowest true from n end h = omega (arith, h)
reach_lowest false from n end h = h

pub reach_onward : (back : Bool) (from j k end : ℕ) → 0 < k → Reach back from (j + k) end → Reach back (along back from j) k end
reach_onward true from j k end some h = (omega (arith, h.0), omega (arith, h.1))
reach_onward false from j k end some h = omega (arith, h)

module _ (l : Lane) (size : ℕ) where
  pub lies_fewer : (k n : ℕ) → k ≤ n → Lies l n size → Lies l k size
  lies_fewer k n less h =
      record {
        from = reach_fewer l.back l.from k n (2 ^ 32) less h.from;
        to = reach_fewer l.back l.to k n (2 ^ 32) less h.to;
        phase = h.phase;
        source = λ i few. h.source i (omega arith);
        destination = λ i few. h.destination i (omega arith);
      }

  -- the i-th pixel is in the phase of the one that it comes from
  pub phase_at : (i n : ℕ) → i < n → Lies l n size
      → along l.back l.from i * bits_of l.format % 8 ≡ along l.back l.to i * bits_of l.format % 8
  phase_at i n few h =
      same_phase l.back l.format l.from l.to i (reach_fewer l.back l.from (i + 1) n (2 ^ 32) (omega arith) h.from)
      (reach_fewer l.back l.to (i + 1) n (2 ^ 32) (omega arith) h.to) h.phase

  pub lies_onward : (j k n : ℕ) → 0 < k → j + k ≤ n → Lies l n size → Lies (onward l j) k size
  lies_onward j k n some within h =
      let part = lies_fewer (j + k) n within h in
      record {
        from = reach_onward l.back l.from j k (2 ^ 32) some part.from;
        to = reach_onward l.back l.to j k (2 ^ 32) some part.to;
        phase = phase_at j n (omega arith) h;
        source =
            λ i few. rw (along_along l.back l.from j i) (h.source (j + i) (omega arith));
        destination =
            λ i few. rw (along_along l.back l.to j i) (h.destination (j + i) (omega arith));
      }

-- pixels that lie as far up are in one phase
pub shift_phase : (format m n : ℕ) → shift_at format m ≡ shift_at format n → m * bits_of format % 8 ≡ n * bits_of format % 8
shift_phase format m n = by (is_motorola format) (m * bits_of format % 8) (n * bits_of format % 8) (number_ends format m) (number_ends format n)
  where
    by : (t : Bool) (p q : ℕ) → p + bits_of format ≤ 8 → q + bits_of format ≤ 8
        → choose t (8 - bits_of format - p) p ≡ choose t (8 - bits_of format - q) q → p ≡ q
    by true p q h h' e = omega arith
    by false p q h h' e = e

-- ---- whole bytes

-- pixels of so many bytes, before the end of pixel number n
whole_bytes : (format n c : ℕ) → c * (8 / bits_of format) ≤ n + 1 → c * 8 ≤ n * bits_of format + bits_of format
whole_bytes format n c few =
    let eight = eight_bits format c in
    let one : (n + 1) * bits_of format ≡ n * bits_of format + bits_of format = add-mul n 1 (bits_of format) ∙ ap (λ (x : ℕ). n * bits_of format + x) (one-mul (bits_of format)) in
    omega (arith, eight, one, mul-le-mul_right (bits_of format) few)

-- pixels of a byte lie before the end of so many bytes
pub before_end : (format i q c count : ℕ) → i < c → q < 8 / bits_of format → c * (8 / bits_of format) ≤ count → i * (8 / bits_of format) + q < count
before_end format i q c count less small few =
    omega (arith, mul-le-mul_right (8 / bits_of format) less, suc-mul i (8 / bits_of format))

-- going back there is room for so many bytes
pub room : (back : Bool) (format n q c count : ℕ) → Reach back n count (2 ^ 32) → c * (8 / bits_of format) + q < count → back ≡ true
    → c * 8 ≤ along back n q * bits_of format
room true format n q c count reach less e =
    let few : c * (8 / bits_of format) ≤ n - q = omega (arith, reach.0) in
    omega (arith, eight_bits format c, mul-le-mul_right (bits_of format) few)
room false format n q c count reach less e = absurd (false≢true e)

-- a place so many bytes of pixels further
pub place_further : (back : Bool) (format base n c : ℕ) → (back ≡ true → c * 8 ≤ n * bits_of format)
    → place_at format base (along back n (c * (8 / bits_of format))) ≡ along back (place_at format base n) c
place_further true format base n c enough =
    let h = enough refl in
    rw (less_mul n (c * (8 / bits_of format)) (bits_of format), eight_bits format c) (omega arith)
place_further false format base n c enough =
    rw (add-mul n (c * (8 / bits_of format)) (bits_of format), eight_bits format c) (omega arith)

module _ (back : Bool) (format base n count : ℕ) (reach : Reach back n count (2 ^ 32)) where
  abbrev per : ℕ
  per = 8 / bits_of format

  -- and q pixels further
  pub place_along : (q c : ℕ) → c * per + q < count → place_at format base (along back n (c * per + q)) ≡ along back (place_at format base (along back n q)) c
  place_along q c less =
      let turn : c * per + q ≡ q + c * per = omega arith in
      ap (λ (k : ℕ). place_at format base (along back n k)) turn
      ∙ ap (place_at format base) (sym (along_along back n q (c * per)))
      ∙ place_further back format base (along back n q) c (room back format n q c count reach less)

  -- so many bytes lie where a pixel of each does
  pub place_reach : (size : ℕ) → ((i : ℕ) → i < count → place_at format base (along back n i) < size)
      → (q c : ℕ) → q < count → ((i : ℕ) → i < c → i * per + q < count) → Reach back (place_at format base (along back n q)) c size
  place_reach size held q zero some inside = none back _ (held q some)
    where
      none : (back : Bool) (p : ℕ) → p < size → Reach back p 0 size
      none true p h = (zero-le, h)
      none false p h = omega arith
  place_reach size held q (suc c) some inside =
      let less = inside c (omega arith) in
      more back (along back n q) (room back format n q c count reach less) (held q some)
      (subst (λ (p : ℕ). p < size) (place_along q c less) (held (c * per + q) less))
    where
      more : (back : Bool) (k : ℕ) → (back ≡ true → c * 8 ≤ k * bits_of format) → place_at format base k < size
          → along back (place_at format base k) c < size → Reach back (place_at format base k) (suc c) size
      more true k enough first last = let h = enough refl in (omega arith, first)
      more false k enough first last = omega arith

module _ (l : Lane) (size count : ℕ) (h : Lies l count size) (some : 0 < count) (first : First l.back l.format l.to) where
  pub first_from : First l.back l.format l.from
  first_from = h.phase ∙ first

  module _ (c : ℕ) (few : c * (8 / bits_of l.format) ≤ count) where
    inside : (i : ℕ) → i < c → i * (8 / bits_of l.format) + 0 < count
    inside i less = before_end l.format i 0 c count less (per_some l.format) few

    pub source_reach : Reach l.back (place_at l.format l.source l.from) c size
    source_reach =
        rw (along_none l.back l.from) at (place_reach l.back l.format l.source l.from count h.from size h.source 0 c some inside)

    pub destination_reach : Reach l.back (place_at l.format l.destination l.to) c size
    destination_reach =
        rw (along_none l.back l.to) at (place_reach l.back l.format l.destination l.to count h.to size h.destination 0 c some inside)

    -- so they are made at once
    pub swept_whole : (op whole : ℕ → ℕ → ℕ) → Alike l.format op whole → ((s d : ℕ) → s < 256 → d < 256 → whole s d < 256)
        → (m : List ℕ) → Bytes m → length m ≡ size
        → carried whole l.back (place_at l.format l.source l.from) (place_at l.format l.destination l.to) c m
        ≡ swept op l (c * (8 / bits_of l.format)) m
    swept_whole op whole alike fits m bytes long =
        sym
        (swept_bytes op whole l alike fits first_from first m bytes c
        (λ back. (enough l.from (reach_back _ _ count _ h.from back).0, enough l.to (reach_back _ _ count _ h.to back).0))
        (λ i less. rw long (within l.back _ i less destination_reach)))
      where
        enough : (n : ℕ) → count ≤ n + 1 → c * 8 ≤ n * bits_of l.format + bits_of l.format
        enough n room = whole_bytes l.format n c (omega (arith, few, room))

        within : (back : Bool) (p i : ℕ) → i < c → Reach back p c size → along back p i < size
        within true p i less reach = omega (arith, reach.1)
        within false p i less reach = omega (arith, reach)

-- ---- behind whole bytes

-- the pixel behind so many whole bytes of a lane is the first of its byte
pub first_onward : (l : Lane) (count : ℕ) → Reach l.back l.to count (2 ^ 32) → First l.back l.format l.to
    → (c done : ℕ) → done ≡ c * (8 / bits_of l.format) → done < count → First l.back l.format (along l.back l.to done)
first_onward l count h first c done all less =
    subst (λ (n : ℕ). First l.back l.format (along l.back l.to n)) (sym all)
    (bytes_on l.back l.format l.to c first
    (λ back. rw (along_none l.back l.to) at (room l.back l.format l.to 0 c count h (omega arith) back))).1

-- and fewer are left than a byte has
pub left_in_byte : (format count done : ℕ) → done ≡ count / (8 / bits_of format) * (8 / bits_of format) → (0 + (count - done)) * bits_of format ≤ 8
left_in_byte format count done all =
    let some = per_some format in
    let rest : count % (8 / bits_of format) < 8 / bits_of format = mod-lt count some in
    let split : count / (8 / bits_of format) * (8 / bits_of format) + count % (8 / bits_of format) ≡ count = div-add-mod' count (8 / bits_of format) in
    per_bits format (0 + (count - done)) (omega arith)
