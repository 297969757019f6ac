-- The pixels of a lane in parts: some, and then the others; and those that fill whole bytes are the bytes.
use Rattle.std.proofs.Common.{◌≡◌, ℕ, zero, suc, ◌+◌, ◌*◌, ◌/◌, ◌<◌, ◌≤◌, Bool, true, false, List, length, get_or, set, sym, refl, ap, ◌∙◌, add-zero, add-suc, suc-mul, add-mul, zero-mul, arith}
use Rattle.pixels.specs.Maps.{bits_of}
use Rattle.pixels.proofs.Maps.{bits_le}
use Rattle.pixels.specs.Inner.{place_at}
use Rattle.rows.specs.declared.Lane.{Lane}
use Rattle.rows.specs.Inner.{Alike, along, carried, with_pixel_no, pixel_no, swept, swept_from, onward, First}
use Rattle.rows.proofs.LaneLaws.{along_along, less_mul, eight_bits}
use Rattle.rows.proofs.ByteLaws.{Bytes}
use Rattle.rows.proofs.EdgeLaws.{swept_byte}
use Rattle.rows.proofs.CarryLaws.{length_carried, carried_bytes}

-- ---- some, and then the others

pub swept_add : (op : ℕ → ℕ → ℕ) (l : Lane) (j k : ℕ) (m : List ℕ) → swept op l (j + k) m ≡ swept op (onward l j) k (swept op l j m)
unfolding swept_from
swept_add op l j zero m = rw (add-zero j)
swept_add op l j (suc k) m =
    let before = swept_add op l j k m in
    let to = sym (along_along l.back l.to j k) in
    let from = sym (along_along l.back l.from j k) in
    rw (add-suc j k)
    (λ i.
    with_pixel_no l.format l.destination (to i)
    (op (pixel_no l.format l.source (from i) (before i)) (pixel_no l.format l.destination (to i) (before i))) (before i))

pub swept_two : (op : ℕ → ℕ → ℕ) (l : Lane) (j k n : ℕ) (m : List ℕ) → j + k ≡ n → swept op (onward l j) k (swept op l j m) ≡ swept op l n m
swept_two op l j k n m all = sym (swept_add op l j k m) ∙ ap (λ (i : ℕ). swept op l i m) all

-- ---- whole bytes

-- so many bytes of pixels further
pub bytes_on : (back : Bool) (format n c : ℕ) → First back format n → (back ≡ true → c * 8 ≤ n * bits_of format)
    → (along back n (c * (8 / bits_of format)) * bits_of format / 8 ≡ along back (n * bits_of format / 8) c)
    × First back format (along back n (c * (8 / bits_of format)))
bytes_on true format n c first held =
    let eight = eight_bits format c in
    let enough = held refl in
    rw (less_mul n (c * (8 / bits_of format)) (bits_of format), eight) (omega arith, omega arith)
bytes_on false format n c first held =
    let eight = eight_bits format c in
    rw (add-mul n (c * (8 / bits_of format)) (bits_of format), eight) (omega arith, omega arith)

-- a place so many bytes further
place_on : (back : Bool) (base q c p : ℕ) → p ≡ along back q c → (back ≡ true → c ≤ q) → base + p ≡ along back (base + q) c
place_on true base q c p e held = let enough = held refl in omega arith
place_on false base q c p e held = omega arith

module _ (op whole : ℕ → ℕ → ℕ) (l : Lane) (alike : Alike l.format op whole)
    (fits : (s d : ℕ) → s < 256 → d < 256 → whole s d < 256)
    (from : First l.back l.format l.from) (to : First l.back l.format l.to) (m : List ℕ) (bytes : Bytes m) where
  abbrev bits : ℕ
  bits = bits_of l.format

  abbrev P : ℕ
  P = place_at l.format l.destination l.to

  abbrev P' : ℕ
  P' = place_at l.format l.source l.from

  pub swept_bytes : (c : ℕ) → (l.back ≡ true → (c * 8 ≤ l.from * bits + bits) × (c * 8 ≤ l.to * bits + bits))
      → ((i : ℕ) → i < c → along l.back P i < length m)
      → swept op l (c * (8 / bits)) m ≡ carried whole l.back P' P c m
  unfolding swept_from carried
  swept_bytes zero enough held = rw (zero-mul (8 / bits))
  swept_bytes (suc c) enough held =
      let before = swept_bytes c (λ back. let h = enough back in (omega arith, omega arith)) (λ i h. held i (omega arith)) in
      let M : List ℕ = carried whole l.back P' P c m in
      let here = bytes_on l.back l.format l.to c to (λ back. few l.to back (enough back).1) in
      let there = bytes_on l.back l.format l.from c from (λ back. few l.from back (enough back).0) in
      let J = place_on l.back l.destination _ c _ here.0 (λ back. low l.to (few l.to back (enough back).1)) in
      let J' = place_on l.back l.source _ c _ there.0 (λ back. low l.from (few l.from back (enough back).0)) in
      let held-now : along l.back P c < length M = rw (length_carried whole l.back P' P c m) (held c (omega arith)) in
      let B = carried_bytes whole fits l.back P' P c m bytes in
      ap (λ (k : ℕ). swept op l k m) (suc-mul c (8 / bits))
      ∙ swept_add op l (c * (8 / bits)) (8 / bits) m
      ∙ ap (swept op (onward l (c * (8 / bits))) (8 / bits)) before
      ∙ swept_byte op whole (onward l (c * (8 / bits))) alike M B there.1 here.1 (rw J held-now) (fits _ _ (B _) (B _))
      ∙ (λ j. set M (J j) (whole (get_or M (J' j) 0) (get_or M (J j) 0)))
    where
      few : (n : ℕ) → l.back ≡ true → suc c * 8 ≤ n * bits + bits → c * 8 ≤ n * bits
      few n back h = let small = bits_le l.format in omega arith

      low : (n : ℕ) → c * 8 ≤ n * bits → c ≤ n * bits / 8
      low n h = omega arith
