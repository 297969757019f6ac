-- A signed register and its bytes give each other back, over the width: what it reads back is the machine's own form of it.
use mathlib.Core.Path.{◌≡◌, ap, ◌∙◌}
use mathlib.Core.Bool.{true, ◌&&◌, and-eq-true_iff}
use Prim.Native.Nat.{ℕ, ◌^◌, ◌≤◌, ◌<◌}
use native.Mathlib.Nat.{mod-eq_of_lt, lt_of_lt_of_le, lt_of_le_of_lt}
use native.Mathlib.Omega.{arith}
use lib.Dec.{leb}
use lib.IntN.{ℤ, pos, negsuc}
use lib.Signed.{le_z, lt_z}
use mir.Syntax.{Width}
use mir.Val.{Fits, SFits, of_z, to_z, bits, hbits}
use mir.ValLaws.{half_full, to_z-of_z, of_z-to_z, to_z-Fits}
use borrow.Author.Tests.{leb-true, ltb-true}
use Rattle.numbers.specs.Circles.{residue}

-- ---- what a register reads back

pub residue_bits : (w : Width) (z : ℤ) → SFits w z → residue (2 ^ bits w) z ≡ of_z w z
unfolding residue
residue_bits w (pos n) f = mod-eq_of_lt (half_full w f.sfits)
residue_bits w (negsuc n) f = rw (mod-eq_of_lt (half_full w {n = n} f.sfits)) (omega arith)

pub signed_residue : (w : Width) (z : ℤ) → SFits w z → to_z w (residue (2 ^ bits w) z) ≡ z
signed_residue w z f = ap (to_z w) (residue_bits w z f) ∙ to_z-of_z w z f

pub residue_signed : (w : Width) (x : ℕ) → Fits w x → residue (2 ^ bits w) (to_z w x) ≡ x
residue_signed w x f = residue_bits w (to_z w x) (to_z-Fits w x f) ∙ of_z-to_z w x f

-- a number between two bounds of the machine
pub between_fits : (w : Width) (l h : ℕ) → l < 2 ^ hbits w → h ≤ 2 ^ hbits w → (z : ℤ) → le_z (negsuc l) z && lt_z z (pos h) ≡ true → SFits w z
between_fits w l h low high (pos n) e = record { sfits = lt_of_lt_of_le (ltb-true n h e) high }
between_fits w l h low high (negsuc n) e = record { sfits = lt_of_le_of_lt (leb-true n l ((and-eq-true_iff (leb n l) true).0 e).0) low }

-- ---- a signed field of a record, read from bytes

pub signed_field : (w : Width) (z : ℤ) (x y : ℕ) → SFits w z → z ≡ to_z w x → x ≡ y → to_z w (of_z w z) ≡ to_z w y
signed_field w z x y f e same = to_z-of_z w z f ∙ e ∙ ap (to_z w) same
