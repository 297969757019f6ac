-- A placed read or write lies in one word of the bank: its length is 1, 2 or 4, and its offset a multiple of it.
use mathlib.Core.Path.{◌≡◌, refl}
use mathlib.Core.Bool.{Bool, true, false, ◌&&◌, ◌||◌}
use mathlib.Core.Logic.{◌⊎◌, inl, inr, ⊎_elim}
use Prim.Native.Nat.{ℕ, ◌+◌, ◌%◌, ◌≤◌}
use native.Mathlib.Omega.{arith}
use lib.Dec.{leb, eqb}
use borrow.Author.Tests.{eqb-true, leb-true}
use Rattle.numbers.proofs.Choices.{and_left, and_right}
use Rattle.parts.specs.Registers.{placed}

pub or_cases : (a b : Bool) → (a || b) ≡ true → (a ≡ true) ⊎ (b ≡ true)
or_cases true b e = inl refl
or_cases false b e = inr e

pub lengths : (n : ℕ) → (eqb n 1 || eqb n 2 || eqb n 4) ≡ true → (n ≡ 1) ⊎ ((n ≡ 2) ⊎ (n ≡ 4))
lengths n e =
    ⊎_elim (λ p. ⊎_elim (λ q. inl (eqb-true n 1 q)) (λ q. inr (inl (eqb-true n 2 q))) (or_cases (eqb n 1) (eqb n 2) p))
    (λ p. inr (inr (eqb-true n 4 p))) (or_cases (eqb n 1 || eqb n 2) (eqb n 4) e)

-- what is known of a placed offset and length
pub record Placed (offset length : ℕ) : Type 0 where
  pub short : length ≤ 4
  pub low : offset ≤ 127
  pub within : offset % 4 + length ≤ 4

pub placed_known : (offset length : ℕ) → placed offset length ≡ true → Placed offset length
unfolding placed
placed_known offset length e =
    let first : Bool = eqb length 1 || eqb length 2 || eqb length 4 in
    let both = and_left (first && eqb (offset % length) 0) (leb offset 127) e in
    let aligned : offset % length ≡ 0 = eqb-true (offset % length) 0 (and_right first (eqb (offset % length) 0) both) in
    let low : offset ≤ 127 = leb-true offset 127 (and_right (first && eqb (offset % length) 0) (leb offset 127) e) in
    ⊎_elim (λ p. record { short = omega arith; low = low; within = omega arith })
    (⊎_elim (λ p. record { short = omega arith; low = low; within = two p aligned })
    (λ p. record { short = omega arith; low = low; within = four p aligned })) (lengths length (and_left first (eqb (offset % length) 0) both))
  where
    two : length ≡ 2 → offset % length ≡ 0 → offset % 4 + length ≤ 4
    two p q = let even : offset % 2 ≡ 0 = rw p at q in omega arith

    four : length ≡ 4 → offset % length ≡ 0 → offset % 4 + length ≤ 4
    four p q = let even : offset % 4 ≡ 0 = rw p at q in omega arith
