-- The depth of a drawing's pixels is cut: all ones are below the power of two, and so is a remainder by it.
use mathlib.Core.Path.{refl}
use Prim.Native.Nat.{ℕ, ◌≤◌}
use native.Mathlib.Nat.{mod-lt}
use lib.Pow.{pow_pos}
use Rattle.mixes.specs.Mixes.{depth_of}
use Rattle.mixes.specs.Inner.{Cut}

pub depth_cut : (n m : ℕ) → n ≤ 8 → Cut (depth_of n m)
unfolding depth_of
depth_cut n m h = record { bits = h; ones = refl; planes = mod-lt m (pow_pos n) }
