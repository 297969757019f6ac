-- A test that holds at every number below a bound: it is computed at each, one after the other.
use mathlib.Core.Path.{◌≡◌, refl}
use mathlib.Core.Bool.{Bool, true, false, ◌&&◌, beq, and-eq-true_iff}
use mathlib.Core.Logic.{⊎_elim}
use Prim.Native.Nat.{ℕ, zero, suc, ◌<◌}
use native.Mathlib.Omega.{arith}
use Rattle.numbers.proofs.Order.{eq_or_ne}

-- the test f passes at each number below n
unfoldable pub every : ℕ → (ℕ → Bool) → Bool
every zero f = true
every (suc n) f = f n && every n f

pub every_at : (n : ℕ) (f : ℕ → Bool) → every n f ≡ true → (k : ℕ) → k < n → f k ≡ true
unfolding every
every_at zero f e k h = absurd (omega arith)
every_at (suc n) f e k h =
    ⊎_elim (λ same. rw same ((and-eq-true_iff (f n) (every n f)).0 e).0)
    (λ other. every_at n f ((and-eq-true_iff (f n) (every n f)).0 e).1 k (omega arith)) (eq_or_ne k n)

pub beq_eq : (a b : Bool) → beq a b ≡ true → a ≡ b
beq_eq true true e = refl
beq_eq true false e = cc
beq_eq false true e = cc
beq_eq false false e = refl
