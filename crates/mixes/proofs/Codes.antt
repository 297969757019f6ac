-- A code that is not below the first of some arms and is none of them lies past them, by induction on their count.
use mathlib.Core.Path.{◌≡◌}
use Prim.Native.Nat.{ℕ, zero, suc, ◌+◌, ◌≤◌}
use native.Mathlib.Omega.{arith}

-- x is none of the k numbers from i on
abbrev pub NoneOf : ℕ → ℕ → ℕ → Type 0
NoneOf i zero x = Unit {0}
NoneOf i (suc k) x = NoneOf i k x × (x ≡ i + k → ⊥)

pub past : (i k x : ℕ) → i ≤ x → NoneOf i k x → i + k ≤ x
past i zero x h w = omega arith
past i (suc k) x h w = let before : i + k ≤ x = past i k x h w.0 in omega (arith, w.1)
