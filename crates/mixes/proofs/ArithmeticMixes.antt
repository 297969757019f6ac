-- The arithmetic mixes: what is worked on the enabled bits where they stand is what the definition works on the number that they are.
use mathlib.Core.Bool.{Bool, true, false}
use mathlib.Core.Logic.{◌⊎◌, inl, inr, ⊎_elim}
use mathlib.Core.Path.{◌≡◌, refl, sym, ap, ◌∙◌}
use Prim.Native.Nat.{ℕ, suc, ◌-◌, ◌%◌, ◌^◌, ◌≤◌, ◌<◌, min, max}
use native.Mathlib.Nat.{mod-eq_of_lt, le_of_lt, le_of_eq, min-eq_left, min-eq_right, max-eq_left, max-eq_right, sub-eq-zero_of_le}
use native.Mathlib.Omega.{arith}
use lib.Bits.{bit_and, and_zero_l, and_self, and_comm, and_mask}
use lib.Dec.{ltb}
use borrow.Author.Tests.{ltb-true, ltb-false}
use Rattle.mixes.specs.Mixes.{gathered, scattered, worked, arithmetic}
use Rattle.mixes.specs.Inner.{Stands}
use Rattle.mixes.proofs.Gathered.{gathered_low, scattered_lt, scattered_low, scattered_zero, scattered_gathered}
use Rattle.mixes.proofs.Order.{Alike, less, same, more, gathered_alike}
use Rattle.mixes.proofs.Differences.{difference_stands}

worked_past : (code top s d : ℕ) → 22 ≤ code → worked code top s d ≡ 0
unfolding worked
worked_past code top s d h =
    let e : code - 16 ≡ suc (suc (suc (suc (suc (suc (code - 22)))))) = omega arith in
    rw e

pub arithmetic_past : (n code m s d : ℕ) → 22 ≤ code → 0 ≡ arithmetic n code m s d
unfolding arithmetic
arithmetic_past n code m s d h = sym (rw (worked_past code (gathered n m m) (gathered n m s) (gathered n m d) h) (scattered_zero n m))

pub arithmetic_lt : (n code m s d : ℕ) → arithmetic n code m s d < 2 ^ n
unfolding arithmetic
arithmetic_lt n code m s d = scattered_lt n m _

pub arithmetic_low : (n code m s d : ℕ) → arithmetic n code (m % 2 ^ n) (s % 2 ^ n) (d % 2 ^ n) ≡ arithmetic n code m s d
unfolding arithmetic
arithmetic_low n code m s d = rw (gathered_low n m m, gathered_low n m s, gathered_low n m d) (scattered_low n m _)

module _ (n m : ℕ) (h : m < 2 ^ n) where
  -- the number of the enabled bits stands where they are
  standing : (x : ℕ) → scattered n m (gathered n m x) ≡ bit_and x m
  standing x = scattered_gathered n m x ∙ ap (bit_and x) (mod-eq_of_lt h)

  -- two numbers of the enabled bits are in the order of the masked pixels
  ordered : (a b : ℕ) → ((gathered n m a ≤ gathered n m b) × (bit_and a m ≤ bit_and b m)) ⊎ ((gathered n m b ≤ gathered n m a) × (bit_and b m ≤ bit_and a m))
  ordered a b = by (rw (mod-eq_of_lt h) at (gathered_alike n m a b))
    where
      by : {p q x y : ℕ} → Alike p q x y → ((p ≤ q) × (x ≤ y)) ⊎ ((q ≤ p) × (y ≤ x))
      by (less p q) = inl (le_of_lt p, le_of_lt q)
      by (same p q) = inl (le_of_eq p, le_of_eq q)
      by (more p q) = inr (le_of_lt p, le_of_lt q)

  pub greater_standing : (a b : ℕ) → max (bit_and a m) (bit_and b m) ≡ scattered n m (max (gathered n m a) (gathered n m b))
  greater_standing a b =
      ⊎_elim
      (λ o. rw (max-eq_right o.0, max-eq_right o.1) (sym (standing b)))
      (λ o. rw (max-eq_left o.0, max-eq_left o.1) (sym (standing a)))
      (ordered a b)

  pub lesser_standing : (a b : ℕ) → min (bit_and a m) (bit_and b m) ≡ scattered n m (min (gathered n m a) (gathered n m b))
  lesser_standing a b =
      ⊎_elim
      (λ o. rw (min-eq_left o.0, min-eq_left o.1) (sym (standing a)))
      (λ o. rw (min-eq_right o.0, min-eq_right o.1) (sym (standing b)))
      (ordered a b)

  pub difference_standing : (a b : ℕ) → bit_and (bit_and a m - bit_and b m) m ≡ scattered n m (gathered n m a - gathered n m b)
  difference_standing a b =
      ⊎_elim
      (λ o. rw (sub-eq-zero_of_le o.0, sub-eq-zero_of_le o.1) (and_zero_l m ∙ sym (scattered_zero n m)))
      (λ o. difference_stands n m a b h o.1)
      (ordered a b)

  -- a sum is held at all enabled bits
  pub held : {ones t g : ℕ} → ones ≡ 2 ^ n - 1 → Stands n m t g (ltb ones t) → bit_and (min t ones) m ≡ scattered n m (min g (gathered n m m))
  held {ones} {t} {g} full s = by (ltb ones t) refl
    where
      masked : bit_and ones m ≡ m
      masked = ap (λ (x : ℕ). bit_and x m) full ∙ and_comm (2 ^ n - 1) m ∙ and_mask m n ∙ mod-eq_of_lt h

      by : (carries : Bool) → ltb ones t ≡ carries → bit_and (min t ones) m ≡ scattered n m (min g (gathered n m m))
      by true e =
          rw (min-eq_right (le_of_lt (ltb-true ones t e)), min-eq_right (le_of_lt (ltb-true (gathered n m m) g (sym s.carried ∙ e))))
          (masked ∙ sym (standing m ∙ and_self m))
      by false e = rw (min-eq_left (ltb-false ones t e), min-eq_left (ltb-false (gathered n m m) g (sym s.carried ∙ e))) s.kept
