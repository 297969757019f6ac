-- One pixel of a byte, made of itself, is its field of the byte that the blend makes at once; and a trail goes on by such pixels, step by step.
use Rattle.std.proofs.Common.{◌≡◌, ℕ, zero, suc, ◌+◌, ◌*◌, ◌/◌, ◌%◌, ◌^◌, ◌<◌, ◌≤◌, Bool, true, false, ltb, List, length, get_or, set, sym, refl, ap, ◌∙◌, subst, le_refl, add-zero, mod-lt, mod-eq_of_lt, add-one, arith, ltb-false, ltb-true, le-ltb, lt-ltb}
use native.Mathlib.Nat.{mod-mod}
use Rattle.numbers.specs.Choose.{choose}
use Rattle.numbers.specs.Fields.{field, with_field}
use Rattle.numbers.proofs.Choices.{and_left, and_right}
use Rattle.numbers.proofs.Fields.{field_zero}
use Rattle.pixels.specs.Maps.{bits_of, is_motorola}
use Rattle.pixels.specs.Inner.{place_at, shift_at}
use Rattle.mixes.specs.declared.logical.Blend.{Blend}
use Rattle.rows.specs.declared.Trail.{Trail}
use Rattle.rows.specs.declared.Traced.{Traced}
use Rattle.rows.specs.Inner.{wholly, Alike, gone_at, pixel_no, with_pixel_no}
use Rattle.rows.specs.Inner.{Termed, error_at, number_at, turns_at, traced, Dotted, stepped, straight_on, Reached, Stands, Goes}
use Rattle.rows.proofs.LaneLaws.{shift_from, per_bits, along_none, shift_of_lem, gone_passed, gone_lt}
use Rattle.rows.proofs.ByteLaws.{Bytes, begins, whole_field, byte_field, byte_with, byte_place, byte_shift}
use Rattle.rows.proofs.CarryLaws.{Masks, wholly_lt}

-- where pixel number n lies in its byte
module _ (format n : ℕ) where
  in_byte : gone_at false format n * bits_of format < 8
  in_byte = begins format (gone_at false format n) (8 / bits_of format) (gone_lt false format n) (per_bits format (8 / bits_of format) (le_refl _))

  up_in_byte : shift_at format n ≡ shift_from (is_motorola format) (bits_of format) (gone_at false format n)
  up_in_byte =
      let g = gone_at false format n in
      let few : (g + 0) * bits_of format < 8 = rw (add-zero g) in_byte in
      ap (shift_at format) (sym (along_none false n)) ∙ shift_of_lem format n g 0 few false (gone_passed false format n g refl)
      ∙ ap (shift_from (is_motorola format) (bits_of format)) (add-zero g)

-- a field takes no more than its bits
with_low : (s n v x : ℕ) → with_field s n (v % 2 ^ n) x ≡ with_field s n v x
unfolding with_field
with_low s n v x = rw (mod-mod v (2 ^ n))

pub dot_made : (op whole : ℕ → ℕ → ℕ) (format n d : ℕ) → Alike format op whole → d < 256 → let sh = shift_at format n in let bits = bits_of format in
    with_field sh bits (field sh bits (whole 0 d)) d ≡ with_field sh bits (op 0 (field sh bits d)) d
dot_made op whole format n d alike byte =
    let sh = shift_at format n in
    let bits = bits_of format in
    let made : field sh bits (whole 0 d) ≡ op (field sh bits 0) (field sh bits d) % 2 ^ bits =
    rw (up_in_byte format n) (whole_field (is_motorola format) format op whole alike 0 0 d byte (is_motorola format) (gone_at false format n) (in_byte format n)) in
    ap (λ (v : ℕ). with_field sh bits v d) (made ∙ ap (λ (z : ℕ). op z (field sh bits d) % 2 ^ bits) (field_zero sh bits))
    ∙ with_low sh bits (op 0 (field sh bits d)) d

-- where pixels are bytes, the byte itself
pub byte_made : (op : ℕ → ℕ → ℕ) (w : Blend ℕ) (format base n : ℕ) (m : List ℕ) → bits_of format ≡ 8 → Alike format op (wholly w) → Masks w → Bytes m
    → set m (base + n) (wholly w 0 (get_or m (base + n) 0)) ≡ with_pixel_no format base n (op 0 (pixel_no format base n m)) m
byte_made op w format base n m eight alike masks bytes =
    let place = byte_place format base n eight in
    let shift = byte_shift format n eight in
    let d = get_or m (base + n) 0 in
    let small : d < 256 = bytes (base + n) in
    let made = wholly w 0 d in
    let made-lt : made < 256 = wholly_lt w masks 0 d (omega arith) small in
    ap (set m (base + n)) (sym (byte_with (field 0 8 made) d small ∙ ap (λ (v : ℕ). v % 256) (byte_field made made-lt) ∙ mod-eq_of_lt made-lt))
    ∙ sym (λ j. set m (place j) (with_field (shift j) (eight j) (field (shift j) (eight j) (wholly w 0 (get_or m (place j) 0))) (get_or m (place j) 0)))
    ∙ ap (set m (place_at format base n)) (dot_made op (wholly w) format n (get_or m (place_at format base n) 0) alike (bytes (place_at format base n)))

-- ---- one step more

module _ (t : Trail) (i : ℕ) where
  pub error_next : (e : ℕ) → e ≡ error_at t i → (e + choose (ltb e 8192) t.k1 t.k2) % 16384 ≡ error_at t (i + 1)
  unfolding error_at
  error_next e same = ap (λ (e : ℕ). (e + choose (ltb e 8192) t.k1 t.k2) % 16384) same ∙ ap (error_at t) (sym (add-one i))

  pub number_next : (n e : ℕ) → n ≡ number_at t i → e ≡ error_at t i → (n + choose (ltb e 8192) t.straight t.turned) % 2 ^ 32 ≡ number_at t (i + 1)
  unfolding number_at
  number_next n e same same' = (λ j. (same j + choose (ltb (same' j) 8192) t.straight t.turned) % 2 ^ 32) ∙ ap (number_at t) (sym (add-one i))

  pub turns_next : (e : ℕ) → e ≡ error_at t i → turns_at t (i + 1) ≡ turns_at t i + choose (ltb e 8192) 0 1
  unfolding turns_at
  turns_next e same = ap (turns_at t) (add-one i) ∙ (λ j. turns_at t i + choose (ltb (sym same j) 8192) 0 1)

  pub traced_next : (op : ℕ → ℕ) (m memory : List ℕ) (n : ℕ) → n ≡ number_at t i → memory ≡ traced op t i m
      → with_pixel_no t.format t.base n (op (pixel_no t.format t.base n memory)) memory ≡ traced op t (i + 1) m
  unfolding traced
  traced_next op m memory n same before =
      (λ j. with_pixel_no t.format t.base (same j) (op (pixel_no t.format t.base (same j) (before j))) (before j))
      ∙ ap (λ (k : ℕ). traced op t k m) (sym (add-one i))

-- error terms stay small
pub error_lt : (t : Trail) (i : ℕ) → t.e < 16384 → error_at t i < 16384
unfolding error_at
error_lt t zero h = h
error_lt t (suc i) h = mod-lt _ (omega arith)

pub reached_lt : (t : Trail) (g : Traced) → Termed t → Reached t g → g.e < 16384
reached_lt t g termed reached = rw reached.1 (error_lt t g.done termed.0)

-- ---- from one place to another

module _ (t : Trail) (w : Blend ℕ) where
  pub goes_none : (g : Traced) (m : List ℕ) → Reached t g → Goes t w g g 0 m m
  goes_none g m reached = record { onward = le_refl _; reached = reached; turned = sym (add-zero _); made = λ op m alike before. before }

  pub goes_on_lem : (a b c : Traced) (k l : ℕ) (x y z : List ℕ) → Goes t w a b k x y → Goes t w b c l y z → Goes t w a c (k + l) x z
  goes_on_lem a b c k l x y z first second =
      record {
        onward = omega (arith, first.onward, second.onward);
        reached = second.reached;
        turned = omega (arith, first.turned, second.turned);
        made = λ op m alike before. second.made op m alike (first.made op m alike before);
      }

  -- one pixel made, and one step
  module _ (g : Traced) (x y : List ℕ) (reached : Reached t g) (dot : Dotted t.format t.base g.at w x y) where
    abbrev goes_by : Bool → Type 0
    goes_by small = Goes t w g (stepped g (choose small t.straight t.turned) (choose small t.k1 t.k2)) (choose small 0 1) x y

    goes_step : goes_by (ltb g.e 8192)
    goes_step =
        record {
          onward = omega arith;
          reached = (number_next t g.done _ _ reached.0 reached.1, error_next t g.done _ reached.1);
          turned = turns_next t g.done _ reached.1;
          made = λ op m alike before. dot op alike ∙ traced_next t g.done (op 0) m x _ reached.0 before;
        }

    pub goes_straight : g.e < 8192 → goes_by true
    goes_straight less = subst goes_by (lt-ltb g.e 8192 less) goes_step

    pub goes_turned : 8192 ≤ g.e → goes_by false
    goes_turned more = subst goes_by (le-ltb g.e 8192 more) goes_step

-- ---- straight on

module _ (t : Trail) (w : Blend ℕ) (count : ℕ) (from : Traced) (x : List ℕ) where
  -- how far a loop is gone in which no step turns
  abbrev pub Along : Traced → List ℕ → Type 0
  Along g y = (g.done ≤ count) × (length y ≡ length x) × Goes t w from g 0 x y

  pub along_start : Stands t count from (length x) → Along from x
  along_start stands = (stands.few, refl, goes_none t w from x stands.reached)

  -- while it goes on
  module _ (g : Traced) (y : List ℕ) (stands : Stands t count from (length x)) (h : Along g y) (on : straight_on g count ≡ true) where
    pub along_less : g.done < count
    along_less = ltb-true _ _ (and_left (ltb g.done count) _ on)

    pub along_place : place_at t.format t.base g.at < length y
    along_place = rw (h.1, h.2.reached.0) (stands.lies g.done along_less (omega (arith, h.2.turned)))

    pub along_ahead : count < 2 ^ 32 → (g.e < 16384) × Termed t × (g.done + 1 < 2 ^ 32)
    along_ahead small = (reached_lt t g stands.termed h.2.reached, stands.termed, omega (arith, along_less))

    pub along_next : (z : List ℕ) → length z ≡ length y → Dotted t.format t.base g.at w y z → Along (stepped g t.straight t.k1) z
    along_next z long dot = (
      omega (arith, along_less),
      long ∙ h.1,
      goes_on_lem t w from g _ 0 0 x y z h.2 (goes_straight t w g y z h.2.reached dot (ltb-true _ _ (and_right (ltb g.done count) _ on))),
    )

-- where it ends before all are done, the next step turns
pub along_end : (g : Traced) (count : ℕ) → straight_on g count ≡ false → g.done < count → 8192 ≤ g.e
along_end g count ends less = ltb-false g.e 8192 (rw (lt-ltb g.done count less) at ends)
