-- What a lane has that reads no byte that it writes: a part of it is one too, and its phases stay as far apart.
use Rattle.std.proofs.Common.{◌≡◌, ℕ, ◌+◌, ◌-◌, ◌*◌, ◌%◌, ◌^◌, ◌<◌, ◌≤◌, Bool, true, false, sym, ap, ◌∙◌, mul-le-mul_right, add-mul, arith}
use Rattle.numbers.specs.Choose.{choose}
use Rattle.numbers.proofs.Choices.{choose_either}
use Rattle.pixels.specs.Maps.{bits_of, is_motorola}
use Rattle.pixels.specs.Inner.{shift_at}
use Rattle.pixels.proofs.Maps.{number_ends, shift_in_byte}
use Rattle.rows.specs.declared.Lane.{Lane}
use Rattle.rows.specs.Inner.{along, Reach, onward, Apart, Turned, source_end}
use Rattle.rows.proofs.LaneLaws.{along_along, less_mul}
use Rattle.rows.proofs.ByteLaws.{bits_some}
use Rattle.rows.proofs.LiesLaws.{sum_forth, sum_back, reach_fewer, reach_onward}

-- ---- parts of a lane

module _ (l : Lane) (size : ℕ) where
  pub apart_fewer : (k n : ℕ) → k ≤ n → Apart l n size → Apart l k size
  apart_fewer k n less h =
      record {
        from = reach_fewer l.back l.from k n (2 ^ 32) less h.from;
        to = reach_fewer l.back l.to k n (2 ^ 32) less h.to;
        source = λ i few. h.source i (omega arith);
        destination = λ i few. h.destination i (omega arith);
        apart = λ i j few few'. h.apart i j (omega arith) (omega arith);
      }

  pub apart_onward : (j k n : ℕ) → 0 < k → j + k ≤ n → Apart l n size → Apart (onward l j) k size
  apart_onward j k n some within h =
      let part = apart_fewer (j + k) n within h in
      record {
        from = reach_onward l.back l.from j k (2 ^ 32) some part.from;
        to = reach_onward l.back l.to j k (2 ^ 32) some part.to;
        source = λ i few. rw (along_along l.back l.from j i) (h.source (j + i) (omega arith));
        destination = λ i few. rw (along_along l.back l.to j i) (h.destination (j + i) (omega arith));
        apart =
            λ i i' few few'.
            rw (along_along l.back l.from j i, along_along l.back l.to j i')
            (h.apart (j + i) (j + i') (omega arith) (omega arith));
      }

  -- the pixel from which a part goes on has numbers of 32 bits
  pub onward_reach : (i n : ℕ) → i < n → Apart l n size → Reach l.back l.from (i + 1) (2 ^ 32) × Reach l.back l.to (i + 1) (2 ^ 32)
  onward_reach i n less h = (
    reach_fewer l.back l.from (i + 1) n (2 ^ 32) (omega arith) h.from,
    reach_fewer l.back l.to (i + 1) n (2 ^ 32) (omega arith) h.to,
  )

  -- the first and the last byte that are taken lie in the memory
  pub end_held : (n : ℕ) → 0 < n → Apart l n size → (last : Bool) → source_end l last n < size
  end_held n some h last = h.source (choose last (n - 1) 0) (choose_either (λ (i : ℕ). i < n) last (omega arith) (omega arith))

-- ---- phases

-- how far up a pixel lies that begins at bit x
abbrev pub shift_of_bit : Bool → (bits x : ℕ) → ℕ
shift_of_bit t bits x = choose t (8 - bits - x % 8) (x % 8)

-- counted from the top it is as far down
pub flip : (b p q down : ℕ) → 0 < b → p + b ≤ 8 → q + b ≤ 8 → (8 - b - q + down) % 8 ≡ 8 - b - p → (p + down) % 8 ≡ q
flip b p q down some h h' e = omega arith

unflip : (b p q down : ℕ) → 0 < b → p + b ≤ 8 → q + b ≤ 8 → (p + down) % 8 ≡ q → (8 - b - q + down) % 8 ≡ 8 - b - p
unflip b p q down some h h' e = omega arith

sum_mod : (x down : ℕ) → (x % 8 + down) % 8 ≡ (x + down) % 8
sum_mod x down = omega arith

turn_forth : (x y r down : ℕ) → (x % 8 + down) % 8 ≡ y % 8 → ((x + r) % 8 + down) % 8 ≡ (y + r) % 8
turn_forth x y r down e =
    let swap : x + r + down ≡ x + down + r = omega arith in
    sum_mod (x + r) down ∙ ap (λ (z : ℕ). z % 8) swap ∙ sum_forth (x + down) y r (sym (sum_mod x down) ∙ e)

turn_back : (x y r down : ℕ) → r ≤ x → r ≤ y → (x % 8 + down) % 8 ≡ y % 8 → ((x - r) % 8 + down) % 8 ≡ (y - r) % 8
turn_back x y r down h h' e =
    let swap : x - r + down ≡ x + down - r = omega arith in
    sum_mod (x - r) down ∙ ap (λ (z : ℕ). z % 8) swap ∙ sum_back (x + down) y r (omega arith) h' (sym (sum_mod x down) ∙ e)

module _ (b x y r down : ℕ) (some : 0 < b) (h : x % 8 + b ≤ 8) (h' : y % 8 + b ≤ 8) where
  turned_forth : (t : Bool) → (x + r) % 8 + b ≤ 8 → (y + r) % 8 + b ≤ 8
      → (shift_of_bit t b y + down) % 8 ≡ shift_of_bit t b x → (shift_of_bit t b (y + r) + down) % 8 ≡ shift_of_bit t b (x + r)
  turned_forth true k k' e = unflip b ((x + r) % 8) ((y + r) % 8) down some k k' (turn_forth x y r down (flip b (x % 8) (y % 8) down some h h' e))
  turned_forth false k k' e = turn_forth y x r down e

  turned_back : (t : Bool) → r ≤ x → r ≤ y → (x - r) % 8 + b ≤ 8 → (y - r) % 8 + b ≤ 8
      → (shift_of_bit t b y + down) % 8 ≡ shift_of_bit t b x → (shift_of_bit t b (y - r) + down) % 8 ≡ shift_of_bit t b (x - r)
  turned_back true less less' k k' e =
      unflip b ((x - r) % 8) ((y - r) % 8) down some k k' (turn_back x y r down less less' (flip b (x % 8) (y % 8) down some h h' e))
  turned_back false less less' k k' e = turn_back y x r down less' less e

pub turned_along : (back : Bool) (format m n i down : ℕ) → Reach back m (i + 1) (2 ^ 32) → Reach back n (i + 1) (2 ^ 32)
    → (shift_at format n + down) % 8 ≡ shift_at format m → (shift_at format (along back n i) + down) % 8 ≡ shift_at format (along back m i)
turned_along true format m n i down h h' e =
    let b = bits_of format in
    let k = number_ends format (m - i) in
    let k' = number_ends format (n - i) in
    rw (less_mul m i b, less_mul n i b)
    (turned_back b (m * b) (n * b) (i * b) down (bits_some format) (number_ends format m) (number_ends format n) (is_motorola format)
    (mul-le-mul_right b (omega (arith, h.0))) (mul-le-mul_right b (omega (arith, h'.0))) (rw (less_mul m i b) at k) (rw (less_mul n i b) at k') e)
turned_along false format m n i down h h' e =
    let b = bits_of format in
    let k = number_ends format (m + i) in
    let k' = number_ends format (n + i) in
    rw (add-mul m i b, add-mul n i b)
    (turned_forth b (m * b) (n * b) (i * b) down (bits_some format) (number_ends format m) (number_ends format n) (is_motorola format)
    (rw (add-mul m i b) at k) (rw (add-mul n i b) at k') e)

pub turned_onward : (l : Lane) (size i n down : ℕ) → i < n → Apart l n size → Turned l down → Turned (onward l i) down
turned_onward l size i n down few h t =
    let reach = onward_reach l size i n few h in
    record {
      some = t.some;
      few = t.few;
      turned = turned_along l.back l.format l.from l.to i down reach.0 reach.1 t.turned;
    }

pub shift_lt : (format n : ℕ) → shift_at format n < 8
shift_lt format n = omega (arith, shift_in_byte format n, bits_some format)

-- two shifts that differ are so many bits apart
pub turned_of : (format m n : ℕ) → (shift_at format n ≡ shift_at format m → ⊥) → let down = (8 + shift_at format m - shift_at format n) % 8 in
    (0 < down) × (down < 8) × ((shift_at format n + down) % 8 ≡ shift_at format m)
turned_of format m n ne = by (shift_at format m) (shift_at format n) (shift_lt format m) (shift_lt format n) ne
  where
    by : (p q : ℕ) → p < 8 → q < 8 → (q ≡ p → ⊥) → (0 < (8 + p - q) % 8) × ((8 + p - q) % 8 < 8) × ((q + (8 + p - q) % 8) % 8 ≡ p)
    by p q h h' ne = (omega (arith, ne), omega arith, omega arith)
