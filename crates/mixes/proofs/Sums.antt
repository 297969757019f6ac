-- A sum of two masked numbers where they stand: the bits between, all set, hand each carry on, by induction on the pixel's bits.
use mathlib.Core.Logic.{⊎_elim}
use mathlib.Core.Path.{◌≡◌, sym, ◌∙◌}
use Prim.Native.Nat.{ℕ, zero, suc, ◌+◌, ◌-◌, ◌*◌, ◌/◌, ◌%◌, ◌^◌, ◌≤◌, ◌<◌}
use native.Mathlib.Nat.{add-zero, pow-suc}
use native.Mathlib.Omega.{arith}
use lib.Arith.{lt-one}
use lib.Bits.{bit_and, and_zero_r, and_le_r}
use lib.Dec.{ltb}
use lib.Pow.{pow_pos}
use borrow.Author.Tests.{lt-ltb, le-ltb}
use Rattle.mixes.specs.Mixes.{gathered, scattered}
use Rattle.mixes.specs.Inner.{Stands}
use Rattle.mixes.proofs.Binary.{last_lt, last_cases, half_lt}
use Rattle.mixes.proofs.Gathered.{gathered_taken, gathered_passed, scattered_passed, and_taken, and_passed, pair_taken, pair_passed, pair_scattered}

-- no number of the enabled bits is above all ones
pub gathered_le : (n m x : ℕ) → gathered n m x ≤ gathered n m m
unfolding gathered
gathered_le zero m x = omega arith
gathered_le (suc n) m x =
    let halves = gathered_le n (m / 2) (x / 2) in
    ⊎_elim (λ passed. rw passed halves) (λ taken. rw taken (omega (arith, halves, last_lt x))) (last_cases m)

-- one number is above its bound, and the other above its own, or neither
data Together (top t high g : ℕ) : Type 0 where
  above : top < t → high < g → Together top t high g
  within : t ≤ top → g ≤ high → Together top t high g

together_ltb : {top t high g : ℕ} → Together top t high g → ltb top t ≡ ltb high g
together_ltb (above p q) = lt-ltb _ _ p ∙ sym (lt-ltb _ _ q)
together_ltb (within p q) = le-ltb _ _ p ∙ sym (le-ltb _ _ q)

-- two masked numbers and a carry, with the bits between set
abbrev sum_of : (n m x y c : ℕ) → ℕ
sum_of n m x y c = (2 ^ n - 1 - m) + bit_and x m + bit_and y m + c

-- the sum of the two numbers of the enabled bits, and the carry
abbrev numbers_of : (n m x y c : ℕ) → ℕ
numbers_of n m x y c = gathered n m x + gathered n m y + c

record Summed (n m x y c : ℕ) : Type 0 where
  kept : bit_and (sum_of n m x y c) m ≡ scattered n m (numbers_of n m x y c)
  carried : Together (2 ^ n - 1) (sum_of n m x y c) (gathered n m m) (numbers_of n m x y c)

module _ (n m x y c : ℕ) (hm : m < 2 ^ suc n) (hc : c < 2) where
  abbrev bits : ℕ
  bits = x % 2 + y % 2 + c

  module _ (taken : m % 2 ≡ 1) (halves : Summed n (m / 2) (x / 2) (y / 2) (bits / 2)) where
    abbrev t : ℕ
    t = sum_of n (m / 2) (x / 2) (y / 2) (bits / 2)

    abbrev g : ℕ
    g = numbers_of n (m / 2) (x / 2) (y / 2) (bits / 2)

    sum_taken : sum_of (suc n) m x y c ≡ bits % 2 + 2 * t
    sum_taken = rw (and_taken m x taken, and_taken m y taken) (omega (arith, pow-suc 2 n, half_lt n hm, taken))

    numbers_taken : numbers_of (suc n) m x y c ≡ bits % 2 + 2 * g
    numbers_taken = rw (gathered_taken n m x taken, gathered_taken n m y taken) (omega arith)

    summed_taken : Summed (suc n) m x y c
    summed_taken =
        record {
          kept =
              rw (sum_taken, numbers_taken, pair_taken m (bits % 2) t (last_lt bits) taken, pair_scattered m (bits % 2) g (last_lt bits) n taken, halves.kept);
          carried = rw (sum_taken, numbers_taken, gathered_taken n m m taken, taken) (by halves.carried);
        }
      where
        by : Together (2 ^ n - 1) t (gathered n (m / 2) (m / 2)) g
            → Together (2 ^ suc n - 1) (bits % 2 + 2 * t) (1 + 2 * gathered n (m / 2) (m / 2)) (bits % 2 + 2 * g)
        by (above p q) = above (omega (arith, pow-suc 2 n)) (omega arith)
        by (within p q) = within (omega (arith, pow-suc 2 n, last_lt bits, pow_pos n)) (omega (arith, last_lt bits))

  module _ (passed : m % 2 ≡ 0) (halves : Summed n (m / 2) (x / 2) (y / 2) c) where
    abbrev t' : ℕ
    t' = sum_of n (m / 2) (x / 2) (y / 2) c

    sum_passed : sum_of (suc n) m x y c ≡ (1 - c) + 2 * t'
    sum_passed = rw (and_passed m x passed, and_passed m y passed) (omega (arith, pow-suc 2 n, half_lt n hm, passed))

    numbers_passed : numbers_of (suc n) m x y c ≡ numbers_of n (m / 2) (x / 2) (y / 2) c
    numbers_passed = rw (gathered_passed n m x passed, gathered_passed n m y passed)

    summed_passed : Summed (suc n) m x y c
    summed_passed =
        let small : 1 - c < 2 = omega arith in
        record {
          kept =
              rw (sum_passed, numbers_passed, pair_passed m (1 - c) t' small passed, scattered_passed n m (numbers_of n (m / 2) (x / 2) (y / 2) c) passed, halves.kept);
          carried = rw (sum_passed, numbers_passed, gathered_passed n m m passed) (by halves.carried);
        }
      where
        by : {high g : ℕ} → Together (2 ^ n - 1) t' high g → Together (2 ^ suc n - 1) ((1 - c) + 2 * t') high g
        by (above p q) = above (omega (arith, pow-suc 2 n)) q
        by (within p q) = within (omega (arith, pow-suc 2 n, pow_pos n)) q

summed : (n m x y c : ℕ) → m < 2 ^ n → c < 2 → Summed n m x y c
unfolding gathered scattered
summed zero m x y c hm hc = rw (lt-one hm) (record { kept = and_zero_r (sum_of 0 0 x y c); carried = rw (and_zero_r x, and_zero_r y) (by c) })
  where
    by : (c : ℕ) → Together 0 (0 + c) 0 (0 + c)
    by zero = within (omega arith) (omega arith)
    by (suc c) = above (omega arith) (omega arith)
summed (suc n) m x y c hm hc =
    ⊎_elim
    (λ passed. summed_passed n m x y c hm hc passed (summed n (m / 2) (x / 2) (y / 2) c (half_lt n hm) hc))
    (λ taken. summed_taken n m x y c hm hc taken
    (summed n (m / 2) (x / 2) (y / 2) ((x % 2 + y % 2 + c) / 2) (half_lt n hm) (omega (arith, last_lt x, last_lt y))))
    (last_cases m)

pub sum_lt : (n m x y : ℕ) → m < 2 ^ n → (2 ^ n - 1 - m) + bit_and x m + bit_and y m < 2 * 2 ^ n
sum_lt n m x y hm = omega (arith, and_le_r x m, and_le_r y m)

pub sum_stands : (n m x y : ℕ) → m < 2 ^ n
    → let t = (2 ^ n - 1 - m) + bit_and x m + bit_and y m in Stands n m t (gathered n m x + gathered n m y) (ltb (2 ^ n - 1) t)
sum_stands n m x y hm =
    let s = summed n m x y 0 hm (omega arith) in
    let sum = (2 ^ n - 1 - m) + bit_and x m + bit_and y m in
    let number = gathered n m x + gathered n m y in
    record {
      kept = rw (add-zero sum, add-zero number) at s.kept;
      carried = rw (add-zero sum, add-zero number) at (together_ltb s.carried);
      once = omega (arith, gathered_le n m x, gathered_le n m y);
    }
