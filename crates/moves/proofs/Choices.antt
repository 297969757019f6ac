-- A choice of points is the point of the choices, by the cases of the test.
use mathlib.Core.Path.{◌≡◌, refl}
use mathlib.Core.Bool.{Bool, true, false}
use Prim.Native.Nat.{ℕ}
use Rattle.numbers.specs.Choose.{choose}
use Rattle.parts.specs.declared.shapes.Point.{Point}

pub choose_point : (t : Bool) (p q : Point ℕ)
    → ◌≡◌ {A = Point ℕ} (record { x = choose t p.x q.x; y = choose t p.y q.y }) (choose t p q)
choose_point true p q = refl
choose_point false p q = refl

-- and where only its X is chosen
pub choose_column : (t : Bool) (x : ℕ) (p : Point ℕ)
    → ◌≡◌ {A = Point ℕ} (record { x = choose t x p.x; y = p.y }) (choose t (record { x = x; y = p.y }) p)
choose_column true x p = refl
choose_column false x p = refl
