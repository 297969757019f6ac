-- Where a range of pixels begins and ends: the byte of a later pixel number is no lower, so the two ends of a lane bound all between.
use Rattle.std.proofs.Common.{◌≡◌, ℕ, ◌-◌, ◌<◌, ◌≤◌, Bool, true, false, not, ◌||◌, refl, mul-le-mul_right, arith}
use Rattle.numbers.specs.Choose.{choose}
use Rattle.pixels.specs.Maps.{bits_of}
use Rattle.pixels.specs.Inner.{place_at}
use Rattle.rows.specs.declared.Lane.{Lane}
use Rattle.rows.specs.Inner.{along, source_end}

pub place_le : (format base m n : ℕ) → m ≤ n → place_at format base m ≤ place_at format base n
place_le format base m n h = omega (arith, mul-le-mul_right (bits_of format) h)

-- the end that a lane that goes back reaches last, and another one has first
lowest_along : (back : Bool) (n i count : ℕ) → i < count → along back n (choose back (count - 1) 0) ≤ along back n i
lowest_along true n i count few = omega arith
lowest_along false n i count few = omega arith

-- and the other end
along_highest : (back : Bool) (n i count : ℕ) → i < count → along back n i ≤ along back n (choose (not back) (count - 1) 0)
along_highest true n i count few = omega arith
along_highest false n i count few = omega arith

module _ (l : Lane) (i count : ℕ) (few : i < count) where
  pub lowest_end : source_end l l.back count ≤ place_at l.format l.source (along l.back l.from i)
  lowest_end = place_le l.format l.source _ _ (lowest_along l.back l.from i count few)

  pub highest_end : place_at l.format l.source (along l.back l.from i) ≤ source_end l (not l.back) count
  highest_end = place_le l.format l.source _ _ (along_highest l.back l.from i count few)

-- two places of which a test says that the first is lower, or another one that the second is, are not the same
pub unlike : (t u : Bool) (x y : ℕ) → (t ≡ true → x < y) → (u ≡ true → y < x) → (t || u) ≡ true → x ≡ y → ⊥
unlike true u x y below above holds same = omega (arith, below refl)
unlike false u x y below above holds same = omega (arith, above holds)
