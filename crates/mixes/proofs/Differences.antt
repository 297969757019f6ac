-- A difference of two masked numbers where they stand: the bits between, all clear, hand each borrow on, by induction on the pixel's bits.
use mathlib.Core.Logic.{⊎_elim}
use mathlib.Core.Path.{◌≡◌, sym}
use Prim.Native.Nat.{ℕ, zero, suc, ◌+◌, ◌-◌, ◌*◌, ◌/◌, ◌%◌, ◌^◌, ◌≤◌, ◌<◌}
use native.Mathlib.Nat.{sub-zero}
use native.Mathlib.Omega.{arith}
use lib.Arith.{lt-one}
use lib.Bits.{bit_and, and_zero_r}
use Rattle.mixes.specs.Mixes.{gathered, scattered}
use Rattle.mixes.proofs.Binary.{last_lt, last_cases, half_lt}
use Rattle.mixes.proofs.Gathered.{gathered_taken, gathered_passed, scattered_passed, and_taken, and_passed, pair_taken, pair_passed, pair_scattered}

-- a masked number less another and a borrow, and the number of its enabled bits less the other's
record Lessened (n m x y c : ℕ) : Type 0 where
  kept : bit_and (bit_and x m - bit_and y m - c) m ≡ scattered n m (gathered n m x - gathered n m y - c)
  enough : gathered n m y + c ≤ gathered n m x

-- what a bit leaves of one bit and a borrow, and what it borrows
left_bit : (a b c u v : ℕ) → a < 2 → b < 2 → c < 2 → v + (b + c + 1 - a) / 2 ≤ u
    → (a + 2 * u) - (b + 2 * v) - c ≡ (a + b + c) % 2 + 2 * (u - v - (b + c + 1 - a) / 2)
left_bit zero b c u v ha hb hc h = omega arith
left_bit (suc zero) b c u v ha hb hc h = omega arith
left_bit (suc (suc a)) b c u v ha hb hc h = absurd (omega arith)

borrowed : (a b c u v : ℕ) → a < 2 → b < 2 → c < 2 → (b + 2 * v) + c ≤ a + 2 * u → v + (b + c + 1 - a) / 2 ≤ u
borrowed a b c u v ha hb hc h = omega arith

repaid : (a b c u v : ℕ) → a < 2 → b < 2 → c < 2 → v + (b + c + 1 - a) / 2 ≤ u → (b + 2 * v) + c ≤ a + 2 * u
repaid a b c u v ha hb hc h = omega arith

module _ (n m x y c : ℕ) (hm : m < 2 ^ suc n) (hc : c < 2) (h : bit_and y m + c ≤ bit_and x m) where
  abbrev u : ℕ
  u = bit_and (x / 2) (m / 2)

  abbrev v : ℕ
  v = bit_and (y / 2) (m / 2)

  module _ (passed : m % 2 ≡ 0) where
    few_passed : v + c ≤ u
    few_passed = omega (arith, rw (and_passed m x passed, and_passed m y passed) at h)

    lessened_passed : Lessened n (m / 2) (x / 2) (y / 2) c → Lessened (suc n) m x y c
    lessened_passed halves =
        let few = few_passed in
        let whole : 2 * u - 2 * v - c ≡ c + 2 * (u - v - c) = omega arith in
        record {
          kept =
              rw (and_passed m x passed, and_passed m y passed, whole, pair_passed m c (u - v - c) hc passed)
              (rw (gathered_passed n m x passed, gathered_passed n m y passed, halves.kept) (sym (scattered_passed n m _ passed)));
          enough = rw (gathered_passed n m x passed, gathered_passed n m y passed) halves.enough;
        }

  abbrev lent : ℕ
  lent = (y % 2 + c + 1 - x % 2) / 2

  module _ (taken : m % 2 ≡ 1) where
    few_taken : v + lent ≤ u
    few_taken = borrowed (x % 2) (y % 2) c u v (last_lt x) (last_lt y) hc (rw (and_taken m x taken, and_taken m y taken) at h)

    lessened_taken : Lessened n (m / 2) (x / 2) (y / 2) lent → Lessened (suc n) m x y c
    lessened_taken halves =
        let bits = x % 2 + y % 2 + c in
        let p = gathered n (m / 2) (x / 2) in
        let q = gathered n (m / 2) (y / 2) in
        let enough = halves.enough in
        let whole = left_bit (x % 2) (y % 2) c u v (last_lt x) (last_lt y) hc few_taken in
        let number = left_bit (x % 2) (y % 2) c p q (last_lt x) (last_lt y) hc enough in
        record {
          kept =
              rw (and_taken m x taken, and_taken m y taken, whole, pair_taken m (bits % 2) (u - v - lent) (last_lt bits) taken, halves.kept)
              (rw (gathered_taken n m x taken, gathered_taken n m y taken, number) (sym (pair_scattered m (bits % 2) (p - q - lent) (last_lt bits) n taken)));
          enough = rw (gathered_taken n m x taken, gathered_taken n m y taken) (repaid (x % 2) (y % 2) c p q (last_lt x) (last_lt y) hc enough);
        }

lessened : (n m x y c : ℕ) → m < 2 ^ n → c < 2 → bit_and y m + c ≤ bit_and x m → Lessened n m x y c
unfolding gathered scattered
lessened zero m x y c hm hc h =
    let none : c ≡ 0 = omega (arith, rw (lt-one hm, and_zero_r x) at h) in
    rw (lt-one hm, none) (record { kept = and_zero_r (bit_and x 0 - bit_and y 0 - 0); enough = omega arith })
lessened (suc n) m x y c hm hc h =
    ⊎_elim
    (λ passed. lessened_passed n m x y c hm hc h passed (lessened n (m / 2) (x / 2) (y / 2) c (half_lt n hm) hc (few_passed n m x y c hm hc h passed)))
    (λ taken. lessened_taken n m x y c hm hc h taken
    (lessened n (m / 2) (x / 2) (y / 2) ((y % 2 + c + 1 - x % 2) / 2) (half_lt n hm) (omega (arith, last_lt y)) (few_taken n m x y c hm hc h taken)))
    (last_cases m)

pub difference_stands : (n m x y : ℕ) → m < 2 ^ n → bit_and y m ≤ bit_and x m
    → bit_and (bit_and x m - bit_and y m) m ≡ scattered n m (gathered n m x - gathered n m y)
difference_stands n m x y hm h =
    rw (sub-zero (bit_and x m - bit_and y m), sub-zero (gathered n m x - gathered n m y)) at (lessened n m x y 0 hm (omega arith) (omega arith)).kept
