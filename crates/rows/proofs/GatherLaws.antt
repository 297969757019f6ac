-- The pixels of one byte, taken from elsewhere in theirs: each is a field of the byte that is gathered for it, so all of them are made at once.
use Rattle.std.proofs.Common.{◌≡◌, ℕ, ◌+◌, ◌-◌, ◌*◌, ◌/◌, ◌%◌, ◌^◌, ◌<◌, ◌≤◌, Bool, true, false, not, ◌⊎◌, List, length, get_or, set, sym, refl, ap, ◌∙◌, inl, inr, ⊎_elim, mul-le-mul_right, add-mul, zero-mul, arith, get_or-set_other}
use Rattle.numbers.specs.Choose.{choose}
use Rattle.numbers.specs.Fields.{field, with_field}
use Rattle.numbers.proofs.Order.{lt_or_le}
use Rattle.pixels.specs.Maps.{bits_of, is_motorola}
use Rattle.pixels.specs.Inner.{place_at, shift_at}
use Rattle.pixels.proofs.Maps.{number_ends, shift_in_byte}
use Rattle.rows.specs.declared.Lane.{Lane}
use Rattle.rows.specs.Inner.{Alike, along, Reach, swept, pixel_no, Passed, from_top, edge_from, Apart, joined, Turned, source_end}
use Rattle.rows.proofs.LaneLaws.{along_none, ends_within, in_byte_of}
use Rattle.rows.proofs.ByteLaws.{Bytes, bits_some, begins}
use Rattle.rows.proofs.EdgeLaws.{place_in, shift_in, swept_taken}
use Rattle.rows.proofs.LiesLaws.{reach_fewer}
use Rattle.rows.proofs.JoinLaws.{joined_low, joined_high}
use Rattle.rows.proofs.ApartLaws.{flip, shift_of_bit, turned_along}

-- ---- which of the two bytes a pixel comes from

-- a pixel that goes to a shift is in the lower of two bytes, so many bits up, or in the upper one
abbrev Found : (b down to from here low high : ℕ) → Type 0
Found b down to from here low high =
    ((to + b + down ≤ 8) × (to + down ≡ from) × (here ≡ low)) ⊎ ((8 ≤ to + down) × (to + down - 8 ≡ from) × (here ≡ high))

-- what is so much round the byte has gone round it or not
round : (a c : ℕ) → a < 16 → a % 8 ≡ c → (a ≡ c) ⊎ (a ≡ c + 8)
round a c h e = ⊎_elim (λ (less : a < 8). inl (omega arith)) (λ (more : 8 ≤ a). inr (omega arith)) (lt_or_le a 8)

-- pixels from p bits on in their byte and from q bits on in the one that they go to: the one r bits further, of those up to e bits further
module _ (b p q r e down X : ℕ) (some : 0 < b) (few : down < 8) (less : r ≤ e) (within : p + b ≤ 8) (one : q + e + b ≤ 8) (ends : (p + r) % 8 + b ≤ 8) where
  up_same : q + down ≡ p → Found b down (q + r) ((p + r) % 8) (X + (p + r) / 8) (X + (p + 0) / 8) (X + (p + e) / 8)
  up_same turned =
      ⊎_elim (λ (low : p + r < 8). inl (omega arith, omega arith, omega arith))
      (λ (high : 8 ≤ p + r). inr (omega arith, omega arith, omega arith)) (lt_or_le (p + r) 8)

  up_round : q + down ≡ p + 8 → Found b down (q + r) ((p + r) % 8) (X + (p + r) / 8) (X + (p + 0) / 8) (X + (p + e) / 8)
  up_round turned = inr (omega arith, omega arith, omega arith)

  down_same : p + down ≡ q → Found b down (8 - b - (q + r)) (8 - b - (p + r) % 8) (X + (p + r) / 8) (X + (p + e) / 8) (X + (p + 0) / 8)
  down_same turned = inl (omega arith, omega arith, omega arith)

  down_round : p + down ≡ q + 8 → Found b down (8 - b - (q + r)) (8 - b - (p + r) % 8) (X + (p + r) / 8) (X + (p + e) / 8) (X + (p + 0) / 8)
  down_round turned =
      ⊎_elim (λ (high : p + r < 8). inr (omega arith, omega arith, omega arith))
      (λ (low : 8 ≤ p + r). inl (omega arith, omega arith, omega arith)) (lt_or_le (p + r) 8)

  found_byte : (t : Bool) → (choose t (8 - b - q) q + down) % 8 ≡ choose t (8 - b - p) p
      → Found b down (choose t (8 - b - (q + r)) (q + r)) (choose t (8 - b - (p + r) % 8) ((p + r) % 8)) (X + (p + r) / 8) (X + (p + choose t e 0) / 8)
      (X + (p + choose (not t) e 0) / 8)
  found_byte true turned = ⊎_elim down_same down_round (round (p + down) q (omega arith) (flip b p q down some within (omega arith) turned))
  found_byte false turned = ⊎_elim up_same up_round (round (q + down) p (omega arith) turned)

-- the same of pixels that begin at bit x and go to bit y
module _ (b x y r e down : ℕ) (some : 0 < b) (few : down < 8) (less : r ≤ e) (t : Bool) where
  found_forth : y % 8 + e + b ≤ 8 → x % 8 + b ≤ 8 → (x + r) % 8 + b ≤ 8
      → (shift_of_bit t b y + down) % 8 ≡ shift_of_bit t b x
      → Found b down (shift_of_bit t b (y + r)) (shift_of_bit t b (x + r)) ((x + r) / 8) ((x + choose t e 0) / 8) ((x + choose (not t) e 0) / 8)
  found_forth one h k turned =
      let Y : (y + r) % 8 ≡ y % 8 + r = omega arith in
      let X : (x + r) % 8 ≡ (x % 8 + r) % 8 = omega arith in
      rw (Y, X, place x r, place x (choose t e 0), place x (choose (not t) e 0))
      (found_byte b (x % 8) (y % 8) r e down (x / 8) some few less h one (rw X at k) t turned)
    where
      place : (x c : ℕ) → (x + c) / 8 ≡ x / 8 + (x % 8 + c) / 8
      place x c = omega arith

-- ---- the pixels of a lane

-- the byte that holds n pixels of a source where they go to
abbrev pub gathered : Lane → (down n : ℕ) → List ℕ → ℕ
gathered l down n memory =
    joined down (get_or memory (source_end l (from_top l.back l.format) n) 0) (get_or memory (source_end l (not (from_top l.back l.format)) n) 0)

scaled : (t : Bool) (j b : ℕ) → choose t j 0 * b ≡ choose t (j * b) 0
scaled true j b = refl
scaled false j b = zero-mul b

-- going back from a place is going forth from the far end
far_ends : (t : Bool) (m j : ℕ) → j ≤ m
    → (m - choose (not t) j 0 ≡ m - j + choose t j 0) × (m - choose (not (not t)) j 0 ≡ m - j + choose (not t) j 0)
far_ends true m j h = (omega arith, omega arith)
far_ends false m j h = (omega arith, omega arith)

module _ (format j down : ℕ) (few : down < 8) where
  abbrev b : ℕ
  b = bits_of format

  abbrev M : Bool
  M = is_motorola format

  found_numbers : (m n i : ℕ) → i ≤ j → n * b % 8 + j * b + b ≤ 8 → (shift_at format n + down) % 8 ≡ shift_at format m
      → Found b down (shift_at format (n + i)) (shift_at format (m + i)) ((m + i) * b / 8) ((m + choose M j 0) * b / 8) ((m + choose (not M) j 0) * b / 8)
  found_numbers m n i less one turned =
      let ends = number_ends format (m + i) in
      rw (add-mul n i b, add-mul m i b, add-mul m (choose M j 0) b, add-mul m (choose (not M) j 0) b, scaled M j b, scaled (not M) j b)
      (found_forth b (m * b) (n * b) (i * b) (j * b) down (bits_some format) few (mul-le-mul_right b less) M one (number_ends format m)
      (rw (add-mul m i b) at ends) turned)

  found_lane : (back : Bool) (m n i : ℕ) → i ≤ j → Reach back m (j + 1) (2 ^ 32) → Reach back n (j + 1) (2 ^ 32)
      → choose back (n - j) n * b % 8 + j * b + b ≤ 8 → (shift_at format n + down) % 8 ≡ shift_at format m
      → Found b down (shift_at format (along back n i)) (shift_at format (along back m i)) (along back m i * b / 8)
      (along back m (choose (from_top back format) j 0) * b / 8) (along back m (choose (not (from_top back format)) j 0) * b / 8)
  found_lane true m n i less h h' one turned =
      let here : m - i ≡ m - j + (j - i) = omega (arith, h.0) in
      let there : n - i ≡ n - j + (j - i) = omega (arith, h'.0) in
      let ends = far_ends M m j (omega (arith, h.0)) in
      rw (here, there, ends.0, ends.1)
      (found_numbers (m - j) (n - j) (j - i) (omega arith) one (turned_along true format m n j down h h' turned))
  found_lane false m n i less h h' one turned = found_numbers m n i less one turned

-- the pixels from the nearer end of a byte on end in it
one_byte : (back : Bool) (format n g j : ℕ) → Passed back format n g → (g + j) * bits_of format < 8
    → choose back (n - j) n * bits_of format % 8 + j * bits_of format + bits_of format ≤ 8
one_byte true format n g j passed few =
    omega (arith, (in_byte_of format n g j few true passed).1, ends_within format (g + j) few, add-mul g j (bits_of format))
one_byte false format n g j passed few = omega (arith, passed, ends_within format (g + j) few, add-mul g j (bits_of format))

module _ (l : Lane) (size k g down : ℕ) (h : Apart l k size) (turned : Turned l down)
    (passed : Passed l.back l.format l.to g) (few : (g + k) * bits_of l.format ≤ 8) (m : List ℕ) (bytes : Bytes m) where
  -- each pixel that is taken is in the byte that is gathered, where it goes to
  gathered_field : (i : ℕ) → i < k
      → field (shift_at l.format (along l.back l.to i)) (bits_of l.format) (gathered l down k m)
      ≡ pixel_no l.format l.source (along l.back l.from i) m
  gathered_field i less =
      let n = bits_of l.format in
      let t = from_top l.back l.format in
      let from = shift_at l.format (along l.back l.from i) in
      let to = shift_at l.format (along l.back l.to i) in
      let low = source_end l t k in
      let high = source_end l (not t) k in
      ⊎_elim
      (λ p.
      joined_low down (get_or m low 0) (get_or m high 0) turned.few (bytes low) to n p.0
      ∙ ap (λ (s : ℕ). field s n (get_or m low 0)) p.1
      ∙ ap (λ (q : ℕ). field from n (get_or m (l.source + q) 0)) (sym p.2))
      (λ p.
      joined_high down (get_or m low 0) (get_or m high 0) turned.few (bytes low) to n p.0 (shift_in_byte l.format (along l.back l.to i))
      ∙ ap (λ (s : ℕ). field s n (get_or m high 0)) p.1
      ∙ ap (λ (q : ℕ). field from n (get_or m (l.source + q) 0)) (sym p.2))
      (found_lane l.format (k - 1) down turned.few l.back l.from l.to i (omega arith)
      (reach_fewer l.back l.from (k - 1 + 1) k (2 ^ 32) (omega arith) h.from)
      (reach_fewer l.back l.to (k - 1 + 1) k (2 ^ 32) (omega arith) h.to)
      (one_byte l.back l.format l.to g (k - 1) passed (begins l.format (g + (k - 1)) (g + k) (omega arith) few)) turned.turned)

  -- ---- all of them at once

  pub swept_gathered : (op whole : ℕ → ℕ → ℕ) → Alike l.format op whole → length m ≡ size → 0 < k
      → let J = place_at l.format l.destination l.to in
      let n = bits_of l.format in
      let low = edge_from (from_top l.back l.format) n g k in
      swept op l k m ≡ set m J (with_field low (k * n) (field low (k * n) (whole (gathered l down k m) (get_or m J 0))) (get_or m J 0))
  swept_gathered op whole alike long some =
      let S = gathered l down k m in
      let held : place_at l.format l.destination l.to < length m = rw long (rw (along_none l.back l.to) at (h.destination 0 some)) in
      swept_taken op whole l alike m bytes g k S passed few held
      (λ i less.
      let place = place_in op whole l alike m bytes g k S passed few held i less in
      ap (field (shift_at l.format (along l.back l.from i)) (bits_of l.format))
      (get_or-set_other m _ _ _ 0 (λ e. h.apart i i less less (e ∙ sym place)))
      ∙ sym (gathered_field i less)
      ∙ ap (λ (s : ℕ). field s (bits_of l.format) S) (shift_in op whole l alike m bytes g k S passed few held i less))
