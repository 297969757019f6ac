-- What is odd: one more turns it, and a sum is odd as the sum of the remainders by 2 is, by the two remainders.
use mathlib.Core.Path.{◌≡◌, sym, ap}
use mathlib.Core.Bool.{Bool, true, false, not}
use mathlib.Core.Logic.{⊎_elim}
use Prim.Native.Nat.{ℕ, ◌+◌, ◌%◌}
use native.Mathlib.Omega.{arith}
use lib.Dec.{eqb}
use Rattle.numbers.specs.Choose.{choose}
use Rattle.mixes.proofs.Binary.{last_cases}
use Rattle.areas.specs.Fills.{is_odd}

pub odd_same : (a b : ℕ) → a % 2 ≡ b % 2 → is_odd a ≡ is_odd b
unfolding is_odd
odd_same a b e = ap (λ (n : ℕ). eqb n 1) e

pub odd_more : (n : ℕ) → is_odd (n + 1) ≡ not (is_odd n)
unfolding is_odd
odd_more n =
    ⊎_elim
    (λ (even : n % 2 ≡ 0). let next : (n + 1) % 2 ≡ 1 = omega arith in rw (next, even))
    (λ (odd : n % 2 ≡ 1). let next : (n + 1) % 2 ≡ 0 = omega arith in rw (next, odd))
    (last_cases n)

-- a pixel that is not 0 counts 1, and turns it
pub odd_turned : (n pixel : ℕ) → choose (not (eqb pixel 0)) (not (is_odd n)) (is_odd n) ≡ is_odd (n + choose (eqb pixel 0) 0 1)
odd_turned n pixel = by (eqb pixel 0)
  where
    by : (t : Bool) → choose (not t) (not (is_odd n)) (is_odd n) ≡ is_odd (n + choose t 0 1)
    by true = odd_same n (n + 0) (omega arith)
    by false = sym (odd_more n)

-- a count that is not 0 by its remainder is odd
pub odd_count : (n : ℕ) → choose (eqb (n % 2) 0) 0 1 ≡ n % 2
odd_count n =
    ⊎_elim (λ (even : n % 2 ≡ 0). rw even) (λ (odd : n % 2 ≡ 1). rw odd) (last_cases n)
