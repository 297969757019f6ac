-- A destination's place from an origin, as the machine has it: 32 bits hold it by the signs, and where it is not below 0 it is a column of 16 bits.
use mathlib.Core.Path.{◌≡◌, refl}
use mathlib.Core.Bool.{true, ◌&&◌, false≢true}
use Prim.Native.Nat.{ℕ, zero, suc, ◌+◌, ◌≤◌}
use native.Mathlib.Omega.{arith}
use lib.IntN.{ℤ, pos, negsuc, ◌-ℤ◌, +ℤ_idr}
use lib.Signed.{mag, le_z}
use mir.Syntax.{w16, w32}
use mir.Val.{Fits, SFits, of_z, to_z}
use mir.ValLaws.{to_z-of_z, to_z_pos}
use Rattle.std.specs.Int.{int_max}
use borrow.Author.Tests.{leb-true, le-leb}
use Rattle.numbers.proofs.SignedLaws.{mag_sub}
use Rattle.places.specs.Places.{is_within, column_of}

-- a place is within where it is at least 0 and at most the last
pub within_tests : (last : ℕ) (z : ℤ) → (le_z (pos 0) z && le_z z (pos last)) ≡ is_within last z
unfolding is_within
within_tests last (pos n) = rw (le-leb 0 n (omega arith))
within_tests last (negsuc n) = refl

-- a place within is a column up to the last
pub within_column : (last : ℕ) (z : ℤ) → is_within last z ≡ true → column_of z ≤ last
unfolding is_within column_of
within_column last (pos n) e = leb-true n last e
within_column last (negsuc n) e = absurd (false≢true e)

-- and is that column
pub within_place : (last : ℕ) (z : ℤ) → is_within last z ≡ true → z ≡ pos (column_of z)
unfolding is_within column_of
within_place last (pos n) e = refl
within_place last (negsuc n) e = absurd (false≢true e)

-- a number of 16 bits is one of 32
pub widened : {z : ℤ} → SFits w16 z → SFits w32 z
widened f = record { sfits = omega (arith, f.sfits) }

-- the greater of a place and 0 is its column
pub raised : (z : ℤ) → int_max z (pos 0) ≡ pos (column_of z)
unfolding column_of
raised (pos zero) = refl
raised (pos (suc n)) = rw (le-leb 1 (suc n) (omega arith))
raised (negsuc n) = refl

mag_less : (z : ℤ) (origin : ℕ) → mag (z -ℤ pos origin) ≤ suc (mag z) + origin
mag_less (pos n) zero = omega arith
mag_less (pos n) (suc origin) = omega (arith, mag_sub n (suc origin))
mag_less (negsuc n) zero = rw (+ℤ_idr (negsuc n)) (omega arith)
mag_less (negsuc n) (suc origin) = omega arith

-- a destination less an origin, in 32 bits
abbrev difference : ℤ → ℕ → ℤ
difference z origin = to_z w32 (of_z w32 (to_z w16 (of_z w16 z))) -ℤ to_z w32 origin

module _ {z : ℤ} {origin : ℕ} (f : SFits w16 z) (h : Fits w16 origin) where
  pub place_fits : SFits w32 (z -ℤ pos origin)
  place_fits = record { sfits = omega (arith, mag_less z origin, f.sfits, h.fits) }

  pub placed : difference z origin ≡ z -ℤ pos origin
  placed = rw (to_z-of_z w16 z f, to_z-of_z w32 z (widened f), to_z_pos w32 origin (omega (arith, h.fits)))

  -- a number of 32 bits that is this place, read back
  pub read_back : {p : ℤ} → p ≡ z -ℤ pos origin → to_z w32 (of_z w32 p) ≡ z -ℤ pos origin
  read_back e = rw e (to_z-of_z w32 (z -ℤ pos origin) place_fits)

  -- the same of what a call answers that is given the destination in 16 bits
  pub answered : {p : ℤ} → p ≡ to_z w16 (of_z w16 z) -ℤ pos origin → to_z w32 (of_z w32 p) ≡ z -ℤ pos origin
  answered e = read_back (rw (to_z-of_z w16 z f) at e)
