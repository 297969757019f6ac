-- What a register takes is reduced if it was: its low bits are below their bound, and a place on a circle lies between the circle's ends.
use mathlib.Core.Path.{◌≡◌, ap}
use mathlib.Core.Bool.{Bool, true, ◌&&◌, and-eq-true_iff}
use Prim.Native.Nat.{ℕ, suc, ◌+◌, ◌-◌, ◌%◌, ◌^◌, ◌≤◌, ◌<◌}
use native.Mathlib.Nat.{mod-lt, mod-eq_of_lt, add-mod_right}
use native.Mathlib.Omega.{arith}
use lib.Dec.{lit<, lit≤, leb, ltb}
use lib.IntN.{ℤ, pos, negsuc}
use borrow.Author.Tests.{leb-true, ltb-true, le-leb, lt-ltb}
use Rattle.numbers.specs.Circles.{forth, residue, circle}
use Rattle.numbers.specs.declared.bytes.Write.{Write}
use Rattle.numbers.proofs.CircleLaws.{sub_cases}
use Rattle.numbers.proofs.Choices.{choose_either}
use Rattle.parts.specs.Registers.{Circle, low_bits, term, coordinate}
use Rattle.parts.specs.Takes.{touched, taken, taken_onto}
use Rattle.parts.specs.Reduced.{lies_by, term_reduced, destination_reduced}
use Rattle.parts.proofs.TakeLaws.{low_taken_lt}

-- what is kept of each part of a test is kept of both
pub both_kept : {a b c d : Bool} → (a ≡ true → c ≡ true) → (b ≡ true → d ≡ true) → a && b ≡ true → c && d ≡ true
both_kept {a} {b} {c} {d} f g e =
    let parts = (and-eq-true_iff a b).0 e in
    (and-eq-true_iff c d).1 (f parts.0, g parts.1)

-- ---- the low bits

pub low_taken_reduced : (bits n at : ℕ) (w : Write) (stored : ℕ) → ltb stored (2 ^ bits) ≡ true → ltb (taken (low_bits bits n at) w stored) (2 ^ bits) ≡ true
low_taken_reduced bits n at w stored e = lt-ltb _ _ (low_taken_lt bits n at w stored (ltb-true _ _ e))

-- ---- a place on a circle of this size, from -low on

module _ (low size : ℕ) (some : 0 < low) (fits : low ≤ size) where
  pub circle_within : (z : ℤ) → lies_by (Circle low size) (circle low size z) ≡ true
  unfolding circle forth
  circle_within z =
      let x : ℕ = (residue size z + low) % size in
      let h : x < size = mod-lt (residue size z + low) (omega arith) in
      sub_cases (λ (y : ℤ). lies_by (Circle low size) y ≡ true) x low
      (λ less. rw (le-leb (low - suc x) (low - 1) (omega arith)))
      (λ more. lt-ltb (x - low) (size - low) (omega arith))

  -- a number between the ends stands where it is
  pub circle_fixed : (z : ℤ) → lies_by (Circle low size) z ≡ true → circle low size z ≡ z
  unfolding circle forth residue
  circle_fixed (pos n) e =
      let h : n < size - low = ltb-true n (size - low) e in
      let same : n % size ≡ n = mod-eq_of_lt (omega arith) in
      let next : (n + low) % size ≡ n + low = mod-eq_of_lt (omega arith) in
      rw (same, next)
      (sub_cases (λ (y : ℤ). y ≡ pos n) (n + low) low (λ less. absurd (omega arith)) (λ more. ap pos (omega arith)))
  circle_fixed (negsuc n) e =
      let h : n ≤ low - 1 = leb-true n (low - 1) ((and-eq-true_iff (leb n (low - 1)) true).0 e).0 in
      let same : n % size ≡ n = mod-eq_of_lt (omega arith) in
      let over : size - 1 - n + low ≡ low - suc n + size = omega arith in
      let next : (low - suc n) % size ≡ low - suc n = mod-eq_of_lt (omega arith) in
      rw (same, over, add-mod_right, next)
      (sub_cases (λ (y : ℤ). y ≡ negsuc n) (low - suc n) low (λ less. ap negsuc (omega arith)) (λ more. absurd (omega arith)))

-- ---- E, K1 and K2, and the destination pointers

pub term_circle_reduced : (z : ℤ) → term_reduced (circle 8192 16384 z) ≡ true
unfolding term_reduced
term_circle_reduced z = circle_within 8192 16384 (lit< tt) (lit≤ tt) z

pub term_circle_fixed : (z : ℤ) → term_reduced z ≡ true → circle 8192 16384 z ≡ z
unfolding term_reduced
term_circle_fixed z e = circle_fixed 8192 16384 (lit< tt) (lit≤ tt) z e

pub term_taken_reduced : (at : ℕ) (w : Write) (z : ℤ) → term_reduced z ≡ true → term_reduced (taken_onto (term at) w z) ≡ true
unfolding taken_onto
term_taken_reduced at w z e = choose_either (λ (y : ℤ). term_reduced y ≡ true) (touched 4 at w) (term_circle_reduced _) e

pub destination_circle_reduced : (z : ℤ) → destination_reduced (circle 2048 8192 z) ≡ true
unfolding destination_reduced
destination_circle_reduced z = circle_within 2048 8192 (lit< tt) (lit≤ tt) z

pub destination_circle_fixed : (z : ℤ) → destination_reduced z ≡ true → circle 2048 8192 z ≡ z
unfolding destination_reduced
destination_circle_fixed z e = circle_fixed 2048 8192 (lit< tt) (lit≤ tt) z e

pub destination_taken_reduced : (at : ℕ) (w : Write) (z : ℤ) → destination_reduced z ≡ true → destination_reduced (taken_onto (coordinate at) w z) ≡ true
unfolding taken_onto
destination_taken_reduced at w z e = choose_either (λ (y : ℤ). destination_reduced y ≡ true) (touched 2 at w) (destination_circle_reduced _) e
