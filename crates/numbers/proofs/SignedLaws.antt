-- The laws by which signed numbers of the machine are read as whole numbers, over their width, and by their sign.
use mathlib.Core.Path.{◌≡◌, refl, sym, ap}
use mathlib.Core.Bool.{true, false}
use Prim.Native.Nat.{ℕ, zero, suc, ◌+◌, ◌^◌, ◌≤◌, ◌<◌}
use native.Mathlib.Nat.{mod-lt, lt_of_le_of_lt}
use native.Mathlib.Omega.{arith}
use lib.IntN.{ℤ, pos, negsuc, sub_ℕ, ◌-ℤ◌}
use lib.Signed.{mag, lt_z}
use mir.Syntax.{Width}
use mir.Val.{SFits, hbits}
use borrow.Author.Tests.{ltb-true}
use Rattle.numbers.specs.Circles.{residue, circle, forth}
use Rattle.numbers.proofs.CircleLaws.{sub_cases}

pub mag_sub : (a b : ℕ) → mag (sub_ℕ a b) ≤ a + b
mag_sub a b = sub_cases (λ (z : ℤ). mag z ≤ a + b) a b (λ h. omega arith) (λ h. omega arith)

-- a difference of small numbers, as the machine has it
pub sub_fits : (w : Width) (a b : ℕ) → a + b < 2 ^ hbits w → SFits w (sub_ℕ a b)
sub_fits w a b h = record { sfits = lt_of_le_of_lt (mag_sub a b) h }

pub pos_sub : (a b : ℕ) → pos a -ℤ pos b ≡ sub_ℕ a b
pos_sub a zero = sym (sub_cases (λ (z : ℤ). z ≡ pos (a + 0)) a 0 (λ h. absurd (omega arith)) (λ h. ap pos (omega arith)))
pos_sub a (suc b) = refl

-- a place on a circle, as the machine has it
pub circle_fits : (w : Width) (low size : ℕ) (z : ℤ) → 0 < size → size + low ≤ 2 ^ hbits w → SFits w (circle low size z)
unfolding circle forth
circle_fits w low size z some room = sub_fits w _ low (omega (arith, mod-lt (residue size z + low) some))

-- a number below 0 is the mirror of its distance from -1
pub negative : (z : ℤ) → lt_z z (pos 0) ≡ true → z ≡ negsuc (mag z)
negative (pos n) e = absurd (let h : n < 0 = ltb-true n 0 e in omega arith)
negative (negsuc n) e = refl

pub natural : (z : ℤ) → lt_z z (pos 0) ≡ false → z ≡ pos (mag z)
natural (pos n) e = refl
natural (negsuc n) e = absurd (let z : ◌≡◌ {A = ℕ} 0 1 = cc in omega arith)
