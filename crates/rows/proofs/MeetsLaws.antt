-- A lane that meets a pattern apart from it: its pixels are whole bytes, which any order of them makes, so from the lower end on.
use Rattle.std.proofs.Common.{◌≡◌, ℕ, zero, suc, ◌+◌, ◌-◌, ◌*◌, ◌/◌, ◌%◌, ◌^◌, ◌<◌, ◌≤◌, Bool, true, false, eqb, List, length, get_or, set, sym, refl, ap, ◌∙◌, subst, le_refl, mod-eq_of_lt, mul-one, arith}
use lib.Bits.{bit_and, bit_xor, and_lt, and_mask, xor_zero_r, xor_lt, xor_add_and}
use Rattle.numbers.specs.Choose.{choose}
use Rattle.numbers.specs.Fields.{field, with_field}
use Rattle.numbers.proofs.Choices.{choose_either}
use Rattle.numbers.proofs.Fields.{field_lt}
use Rattle.pixels.specs.Maps.{bits_of, is_motorola}
use Rattle.pixels.specs.Inner.{place_at, shift_at}
use Rattle.mixes.specs.declared.logical.Blend.{Blend}
use Rattle.rows.specs.declared.Lane.{Lane}
use Rattle.rows.specs.declared.patterns.Inks.{Inks}
use Rattle.rows.specs.Inner.{along, Reach, changed, pixel_no, with_pixel_no, swept_from, Meets, Inked, inks_of, inked_by, mirror_of, pattern_at, row_inked, Beside}
use Rattle.rows.proofs.ByteLaws.{Bytes, byte_field, byte_with, byte_place, byte_shift}
use Rattle.rows.proofs.CarryLaws.{Masks, wholly_lt, wholly_none, kept, changed_back, changed_bytes, changed_other}
use Rattle.rows.proofs.LiesLaws.{reach_fewer, reach_lowest}

-- ---- what the inks of two blends make

module _ (order : ℕ) (front rear : Blend ℕ) (f : Masks front) (r : Masks rear) where
  inked_op : (op : ℕ → ℕ → ℕ) → Inked op front rear → (s d : ℕ) → s < 2 → d < 256 → op s d % 256 ≡ inked_by (inks_of order front rear) s d
  inked_op op h zero d few small = (h d small).0 ∙ mod-eq_of_lt (wholly_lt rear r 0 d (omega arith) small) ∙ wholly_none rear d ∙ kept rear.always rear.destination d r.always r.destination small
  inked_op op h (suc zero) d few small =
      (h d small).1 ∙ mod-eq_of_lt (wholly_lt front f 0 d (omega arith) small) ∙ wholly_none front d ∙ kept front.always front.destination d f.always f.destination small
  inked_op op h (suc (suc s)) d few small = absurd (omega arith)

  inked_lt : (s d : ℕ) → d < 256 → inked_by (inks_of order front rear) s d < 256
  inked_lt s d small =
      let made : (w : Blend ℕ) → Masks w → bit_xor w.always (bit_and (bit_xor w.destination 255) d) < 256 =
      λ w h. xor_lt 8 _ _ h.always (and_lt 8 _ d (xor_lt 8 _ 255 h.destination (omega arith)) small) in
      choose_either (λ (x : ℕ). x < 256) (eqb s 1) (made front f) (made rear r)

-- ---- one pixel

-- a pixel's number within its byte, turned over or not
turned : (t : Bool) (r : ℕ) → r < 8 → choose t (8 - 1 - r) r ≡ bit_xor r (choose t 7 0)
turned true r few = omega (arith, xor_add_and r 7, and_mask r 3)
turned false r few = sym (xor_zero_r r)

pattern_place : (order base x : ℕ) → bits_of order ≡ 1 → place_at order base x ≡ base + x / 8
pattern_place order base x one = ap (λ (b : ℕ). base + x * b / 8) one ∙ ap (λ (y : ℕ). base + y / 8) (mul-one x)

pattern_pixel : (order base x : ℕ) (m : List ℕ) → bits_of order ≡ 1
    → pixel_no order base x m ≡ pattern_at (choose (is_motorola order) 7 0) base x m
pattern_pixel order base x m one =
    let number : x * 1 % 8 ≡ x % 8 = omega arith in
    let shift : shift_at order x ≡ bit_xor (x % 8) (choose (is_motorola order) 7 0) =
    (λ j. choose (is_motorola order) (8 - one j - x * one j % 8) (x * one j % 8))
    ∙ (λ j. choose (is_motorola order) (8 - 1 - number j) (number j))
    ∙ turned (is_motorola order) (x % 8) (omega arith) in
    λ j. field (shift j) (one j) (get_or m (pattern_place order base x one j) 0)

module _ (op : ℕ → ℕ → ℕ) (front rear : Blend ℕ) (inked : Inked op front rear) (f : Masks front) (r : Masks rear) (l : Lane) (order : ℕ)
    (eight : bits_of l.format ≡ 8) (one : bits_of order ≡ 1) where
  abbrev inks : Inks
  inks = inks_of order front rear

  pixel_inked : (x y : ℕ) (m : List ℕ) → Bytes m
      → with_pixel_no l.format l.destination y (op (pixel_no order l.source x m) (pixel_no l.format l.destination y m)) m
      ≡ set m (l.destination + y) (inked_by inks (pattern_at (mirror_of inks) l.source x m) (get_or m (l.destination + y) 0))
  pixel_inked x y m bytes =
      let place = byte_place l.format l.destination y eight in
      let shift = byte_shift l.format y eight in
      let s = pattern_at (mirror_of inks) l.source x m in
      let d = get_or m (l.destination + y) 0 in
      let small : d < 256 = bytes (l.destination + y) in
      (λ j.
      set m (place j)
      (with_field (shift j) (eight j) (op (pattern_pixel order l.source x m one j) (field (shift j) (eight j) (get_or m (place j) 0))) (get_or m (place j) 0)))
      ∙ ap (set m (l.destination + y))
      (byte_with _ d small
      ∙ ap (λ (b : ℕ). op s b % 256) (byte_field d small)
      ∙ inked_op order front rear f r op inked s d (field_lt (bit_xor (x % 8) (mirror_of inks)) 1 _) small)

-- ---- from the lower end on

-- the lowest of so many, back or forth from one
abbrev low : Bool → (n count : ℕ) → ℕ
low back n count = choose back (n + 1 - count) n

-- which of a lane is the i-th from there on
abbrev nth : Bool → (count i : ℕ) → ℕ
nth back count i = choose back (count - 1 - i) i

nth_lt : (back : Bool) (count i : ℕ) → i < count → nth back count i < count
nth_lt back count i less = choose_either (λ (x : ℕ). x < count) back (omega arith) less

along_nth : (back : Bool) (n count i end : ℕ) → Reach back n count end → i < count → along back n (nth back count i) ≡ low back n count + i
along_nth true n count i end reach less = omega (arith, reach.0)
along_nth false n count i end reach less = refl

module _ (l : Lane) (order count size : ℕ) (h : Meets l order count size) where
  source_at_lem : (n i : ℕ) → n ≤ count → i < n
      → place_at order l.source (along l.back l.from (nth l.back n i)) ≡ l.source + (low l.back l.from n + i) / 8
  source_at_lem n i few less =
      pattern_place order l.source _ h.ones
      ∙ ap (λ (x : ℕ). l.source + x / 8)
      (along_nth l.back l.from n i (2 ^ 32) (reach_fewer l.back l.from n count (2 ^ 32) few h.lies.from) less)

  destination_at_lem : (n i : ℕ) → n ≤ count → i < n
      → place_at l.format l.destination (along l.back l.to (nth l.back n i)) ≡ l.destination + low l.back l.to n + i
  destination_at_lem n i few less =
      let sums : l.destination + (low l.back l.to n + i) ≡ l.destination + low l.back l.to n + i = omega arith in
      byte_place l.format l.destination _ h.bytes
      ∙ ap (λ (x : ℕ). l.destination + x)
      (along_nth l.back l.to n i (2 ^ 32) (reach_fewer l.back l.to n count (2 ^ 32) few h.lies.to) less)
      ∙ sums

  pub meets_beside : 0 < count → Beside l.source (low l.back l.from count) (l.destination + low l.back l.to count) count size
  meets_beside some =
      record {
        numbers = reach_lowest l.back l.from count (2 ^ 32) h.lies.from;
        pattern =
            λ i less.
            subst (λ (p : ℕ). p < size) (source_at_lem count i (le_refl count) less) (h.lies.source (nth l.back count i) (nth_lt l.back count i less));
        row =
            let last : count - 1 < count = omega arith in
            let held = h.lies.destination (nth l.back count (count - 1)) (nth_lt l.back count (count - 1) last) in
            omega (arith, destination_at_lem count (count - 1) (le_refl count) last, held);
        apart =
            λ i j less less' e.
            h.lies.apart (nth l.back count i) (nth l.back count j) (nth_lt l.back count i less) (nth_lt l.back count j less')
            (source_at_lem count i (le_refl count) less ∙ e ∙ sym (destination_at_lem count j (le_refl count) less'));
      }

-- one pixel more, at either end
row_step : (k : Inks) (source base : ℕ) (back : Bool) (from to n end : ℕ) (m : List ℕ) → Reach back from (suc n) end → Reach back to (suc n) end
    → let M = row_inked k source (low back from n) (base + low back to n) n m in
    set M (base + along back to n) (inked_by k (pattern_at (mirror_of k) source (along back from n) m) (get_or M (base + along back to n) 0))
    ≡ row_inked k source (low back from (suc n)) (base + low back to (suc n)) (suc n) m
unfolding changed
row_step k source base false from to n end m reach reach' =
    let M : List ℕ = row_inked k source from (base + to) n m in
    let here : base + (to + n) ≡ base + to + n = omega arith in
    λ j. set M (here j) (inked_by k (pattern_at (mirror_of k) source (from + n) m) (get_or M (here j) 0))
row_step k source base true from to n end m reach reach' =
    let at : ℕ = base + (to + 1 - suc n) in
    let here : base + (to - n) ≡ at = omega arith in
    let above : base + (to + 1 - n) ≡ suc at = omega (arith, reach'.0) in
    let first : from - n ≡ from + 1 - suc n + 0 = omega arith in
    let next : (i : ℕ) → from + 1 - n + i ≡ from + 1 - suc n + suc i = λ i. omega (arith, reach.0) in
    let others : row_inked k source (from + 1 - n) (base + (to + 1 - n)) n m
    ≡ changed (λ i d. inked_by k (pattern_at (mirror_of k) source (from + 1 - suc n + suc i) m) d) (suc at) n m =
    λ j. changed (λ i d. inked_by k (pattern_at (mirror_of k) source (next i j) m) d) (above j) n m in
    (λ j. set (others j) (here j) (inked_by k (pattern_at (mirror_of k) source (first j) m) (get_or (others j) (here j) 0)))
    ∙ sym (changed_back (λ i d. inked_by k (pattern_at (mirror_of k) source (from + 1 - suc n + i) m) d) at n m)

module _ (op : ℕ → ℕ → ℕ) (front rear : Blend ℕ) (inked : Inked op front rear) (f : Masks front) (r : Masks rear) (l : Lane) (order count : ℕ)
    (m : List ℕ) (h : Meets l order count (length m)) (bytes : Bytes m) where
  abbrev k : Inks
  k = inks_of order front rear

  abbrev M : ℕ → List ℕ
  M n = row_inked k l.source (low l.back l.from n) (l.destination + low l.back l.to n) n m

  -- the pixel of the pattern that comes next is as it was
  stays : (n : ℕ) → n < count
      → pattern_at (mirror_of k) l.source (along l.back l.from n) (M n) ≡ pattern_at (mirror_of k) l.source (along l.back l.from n) m
  stays n less =
      ap (field (bit_xor (along l.back l.from n % 8) (mirror_of k)) 1)
      (changed_other _ (l.destination + low l.back l.to n) n _ m
      (λ i few e.
      h.lies.apart n (nth l.back n i) less (omega (arith, nth_lt l.back n i few))
      (pattern_place order l.source _ h.ones ∙ e ∙ sym (destination_at_lem l order count (length m) h n i (omega arith) few))))

  swept_row : (n : ℕ) → n ≤ count → swept_from order op l n m ≡ M n
  unfolding swept_from changed
  swept_row zero few = refl
  swept_row (suc n) few =
      let from = along l.back l.from n in
      let to = along l.back l.to n in
      let at = l.destination + low l.back l.to n in
      let pattern : ℕ → ℕ = λ i. pattern_at (mirror_of k) l.source (low l.back l.from n + i) m in
      let before = swept_row n (omega arith) in
      (λ j.
      with_pixel_no l.format l.destination to
      (op (pixel_no order l.source from (before j)) (pixel_no l.format l.destination to (before j))) (before j))
      ∙ pixel_inked op front rear inked f r l order h.bytes h.ones from to (M n)
      (changed_bytes _ (λ i d small. inked_lt order front rear f r (pattern i) d small) at n m bytes)
      ∙ ap (λ (s : ℕ). set (M n) (l.destination + to) (inked_by k s (get_or (M n) (l.destination + to) 0))) (stays n (omega arith))
      ∙ row_step k l.source l.destination l.back l.from l.to n (2 ^ 32) m
      (reach_fewer l.back l.from (suc n) count (2 ^ 32) few h.lies.from) (reach_fewer l.back l.to (suc n) count (2 ^ 32) few h.lies.to)

  pub meets_row : swept_from order op l count m ≡ M count
  meets_row = swept_row count (le_refl count)
