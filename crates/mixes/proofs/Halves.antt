-- Half of a number that is built where its bits stand: what an enabled bit holds goes to the one below it, and what was built and what is left make the whole.
use mathlib.Core.Bool.{Bool, true, false}
use mathlib.Core.Path.{◌≡◌, refl, sym, ◌∙◌}
use Prim.Native.Nat.{ℕ, zero, suc, ◌+◌, ◌-◌, ◌*◌, ◌/◌, ◌%◌, ◌^◌, ◌≤◌, ◌<◌}
use native.Mathlib.Nat.{add-zero, pow-succ', mul-zero, mul-one, mul-add, mul_assoc, zero-mul, mul-le-mul_left, le_trans, div-eq_of_lt, div-eq_of_lt-le}
use native.Mathlib.Omega.{arith}
use lib.Bits.{bit_and}
use lib.Dec.{ltb}
use lib.Pow.{pow_pos, pow_mono}
use borrow.Author.Tests.{lt-ltb, le-ltb, ltb-true, ltb-false}
use Rattle.mixes.specs.Mixes.{scattered}
use Rattle.mixes.specs.Inner.{Stands}
use Rattle.mixes.proofs.Binary.{last_lt, half_lt}
use Rattle.mixes.proofs.Gathered.{gathered_taken, gathered_passed, scattered_taken, scattered_passed, and_taken, and_passed, gathered_none, scattered_none}

-- so many bits are left, with the rest of the mask, of the sum and of the number that it stands for; what was built of the half, and what these add, is the whole
record Left (n m g : ℕ) (carries : Bool) (left number enabled rest place below half : ℕ) : Type 0 where
  makes : half + below * (number % 2) + place * scattered left enabled (number / 2) ≡ scattered n m (g / 2)
  mask : enabled < 2 ^ left
  room : place * 2 ^ left ≤ 2 ^ n
  stands : Stands left enabled rest number carries

pub record Halving (n m g : ℕ) (carries : Bool) (enabled rest place below half : ℕ) : Type 0 where
  left : ℕ
  number : ℕ
  holds : Left n m g carries left number enabled rest place below half

-- doubling and one more keeps what is above
halved_ltb : (a b : ℕ) → ltb (1 + 2 * a) b ≡ ltb a (b / 2)
halved_ltb a b = by (ltb a (b / 2)) refl
  where
    by : (t : Bool) → ltb a (b / 2) ≡ t → ltb (1 + 2 * a) b ≡ t
    by true e = let p = ltb-true a (b / 2) e in lt-ltb (1 + 2 * a) b (omega arith)
    by false e = let p = ltb-false a (b / 2) e in le-ltb (1 + 2 * a) b (omega arith)

module _ (n m t g : ℕ) (carries : Bool) (s : Stands (suc n) m t g carries) where
  stands_passed : m % 2 ≡ 0 → Stands n (m / 2) (t / 2) g carries
  stands_passed passed =
      record {
        kept = omega (arith, rw (and_passed m t passed, scattered_passed n m g passed) at s.kept);
        carried = rw (gathered_passed n m m passed) at s.carried;
        once = rw (gathered_passed n m m passed) at s.once;
      }

  module _ (taken : m % 2 ≡ 1) where
    same_bits : t % 2 + 2 * bit_and (t / 2) (m / 2) ≡ g % 2 + 2 * scattered n (m / 2) (g / 2)
    same_bits = rw (and_taken m t taken, scattered_taken n m g taken) at s.kept

    same_last : t % 2 ≡ g % 2
    same_last = omega (arith, same_bits, last_lt t, last_lt g)

    stands_taken : Stands n (m / 2) (t / 2) (g / 2) carries
    stands_taken =
        record {
          kept = omega (arith, same_bits, last_lt t, last_lt g);
          carried = rw (gathered_taken n m m taken, taken, halved_ltb) at s.carried;
          once = omega (arith, rw (gathered_taken n m m taken, taken) at s.once);
        }

module _ {n m g : ℕ} {carries : Bool} where
  pub halving_start : (t : ℕ) → m < 2 ^ n → Stands n m t g carries → Halving n m g carries m t 1 0 0
  halving_start t hm s =
      record { left = n; number = g; holds = record { makes = omega (arith, zero-mul (g % 2)); mask = hm; room = omega arith; stands = s } }

  module _ {enabled rest place below half : ℕ} (h : Halving n m g carries enabled rest place below half) (more : 0 < enabled) where
    -- a bit is left where one is enabled
    next : (P : Type 0) → ((left : ℕ) → Left n m g carries (suc left) h.number enabled rest place below half → P) → P
    next P step = by h.left h.holds
      where
        by : (left : ℕ) → Left n m g carries left h.number enabled rest place below half → P
        by zero l = let few = l.mask in absurd (omega arith)
        by (suc left) l = step left l

    doubled : (left : ℕ) → place * 2 ^ suc left ≤ 2 ^ n → place * 2 * 2 ^ left ≤ 2 ^ n
    doubled left room = rw (mul_assoc place 2 (2 ^ left), ← pow-succ' 2 left) room

    pub halve_passed : enabled % 2 ≡ 0 → Halving n m g carries (enabled / 2) (rest / 2) (place * 2) below half
    halve_passed passed =
        next _ (λ left l.
        let half-number = h.number / 2 in
        record {
          left = left;
          number = h.number;
          holds =
              record {
                makes =
                    omega (arith, rw (scattered_passed left enabled half-number passed) at l.makes, mul_assoc place 2 (scattered left (enabled / 2) half-number));
                mask = half_lt left l.mask;
                room = doubled left l.room;
                stands = stands_passed left enabled rest h.number carries l.stands passed;
              };
        })

    halve_taken : enabled % 2 ≡ 1 → Halving n m g carries (enabled / 2) (rest / 2) (place * 2) place (half + below * (rest % 2))
    halve_taken taken =
        next _ (λ left l.
        let half-number = h.number / 2 in
        let above = scattered left (enabled / 2) (half-number / 2) in
        record {
          left = left;
          number = half-number;
          holds =
              record {
                makes =
                    rw (same_last left enabled rest h.number carries l.stands taken)
                    (omega (
                      arith,
                      rw (scattered_taken left enabled half-number taken) at l.makes,
                      mul-add place (half-number % 2) (2 * above),
                      mul_assoc place 2 above,
                    ));
                mask = half_lt left l.mask;
                room = doubled left l.room;
                stands = stands_taken left enabled rest h.number carries l.stands taken;
              };
        })

    pub halve_one : enabled % 2 ≡ 1 → rest % 2 ≡ 1 → Halving n m g carries (enabled / 2) (rest / 2) (place * 2) place (half + below)
    halve_one taken one = rw (one, mul-one below) at (halve_taken taken)

    pub halve_none : enabled % 2 ≡ 1 → rest % 2 ≡ 0 → Halving n m g carries (enabled / 2) (rest / 2) (place * 2) place half
    halve_none taken none = rw (none, mul-zero below, add-zero half) at (halve_taken taken)

    -- the next bit's weight fits
    pub place_le : place * 2 ≤ 2 ^ n
    place_le = next _ (λ left l. le_trans (mul-le-mul_left place (pow_mono {i = 1} {j = suc left} (omega arith))) l.room)

  pub half_le : {enabled rest place below half : ℕ} → Halving n m g carries enabled rest place below half → half ≤ scattered n m (g / 2)
  half_le h = omega (arith, h.holds.makes)

  halving_end : {rest place below half : ℕ} → Halving n m g carries 0 rest place below half
      → (carries ≡ true → half + below ≡ scattered n m (g / 2)) × (carries ≡ false → half ≡ scattered n m (g / 2))
  halving_end {rest} {place} {below} {half} h =
      let number = h.number in
      let few : number ≤ 1 = omega (arith, rw (gathered_none h.left 0) at h.holds.stands.once) in
      let carried : carries ≡ ltb 0 number = rw (gathered_none h.left 0) at h.holds.stands.carried in
      let makes = rw (scattered_none h.left (number / 2), mul-zero place) at h.holds.makes in (
        λ e. let one : number ≡ 1 = omega (arith, ltb-true 0 number (sym carried ∙ e)) in
            omega (arith, rw one at makes, mul-one below),
        λ e. let none : number ≡ 0 = omega (arith, ltb-false 0 number (sym carried ∙ e)) in
            omega (arith, rw none at makes, mul-zero below),
      )

-- after the last bit the carry goes to the highest
module _ (n m g t : ℕ) {ones rest place below half : ℕ} (full : ones ≡ 2 ^ n - 1) (few : t < 2 * 2 ^ n)
    (h : Halving n m g (ltb ones t) 0 rest place below half) where
  pub halved : half + below * (t / 2 ^ n) ≡ scattered n m (g / 2)
  halved = by (ltb ones t) refl (halving_end h)
    where
      by : (carries : Bool) → ltb ones t ≡ carries
          → (ltb ones t ≡ true → half + below ≡ scattered n m (g / 2)) × (ltb ones t ≡ false → half ≡ scattered n m (g / 2))
          → half + below * (t / 2 ^ n) ≡ scattered n m (g / 2)
      by true e end =
          let more = ltb-true ones t e in
          let one : t / 2 ^ n ≡ 1 = div-eq_of_lt-le (2 ^ n) (omega arith) (omega arith) in
          rw (one, mul-one below) (end.0 e)
      by false e end =
          let less = ltb-false ones t e in
          let none : t / 2 ^ n ≡ 0 = div-eq_of_lt (omega (arith, pow_pos n)) in
          rw (none, mul-zero below, add-zero half) (end.1 e)
