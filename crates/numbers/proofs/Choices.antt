-- What both sides of a choice have, the choice has; and a test of two parts holds where both do: by the cases of the test.
use mathlib.Core.Path.{◌≡◌, refl}
use mathlib.Core.Bool.{Bool, true, false, not, ◌&&◌, ◌||◌, false≢true}
use Prim.Native.Nat.{ℕ, ◌≤◌, ◌<◌}
use lib.Dec.{ltb, eqb}
use borrow.Author.Tests.{ltb-true, ltb-false, eqb-true, eqb-false}
use Rattle.numbers.specs.Choose.{choose}

-- ---- a choice

module _ {A : Type 0} (P : A → Type 0) where
  pub by_test : (t : Bool) {u v : A} → (t ≡ true → P u) → (t ≡ false → P v) → P (choose t u v)
  by_test true holds fails = holds refl
  by_test false holds fails = fails refl

  pub by_lt : (a b : ℕ) {u v : A} → (a < b → P u) → (b ≤ a → P v) → P (choose (ltb a b) u v)
  by_lt a b less more = by_test (ltb a b) (λ e. less (ltb-true a b e)) (λ e. more (ltb-false a b e))

  pub by_eq : (a b : ℕ) {u v : A} → (a ≡ b → P u) → ((a ≡ b → ⊥) → P v) → P (choose (eqb a b) u v)
  by_eq a b same other = by_test (eqb a b) (λ e. same (eqb-true a b e)) (λ e. other (eqb-false a b e))

  pub choose_either : (t : Bool) {u v : A} → P u → P v → P (choose t u v)
  choose_either t p q = by_test t (λ e. p) (λ e. q)

pub choose_true : {A : Type 0} {t : Bool} (a b : A) → t ≡ true → choose t a b ≡ a
choose_true a b e = rw e

pub choose_false : {A : Type 0} {t : Bool} (a b : A) → t ≡ false → choose t a b ≡ b
choose_false a b e = rw e

-- a part of a choice is the choice of the parts
pub choose_part : {A B : Type 0} (f : A → B) (t : Bool) (a b : A) → choose t (f a) (f b) ≡ f (choose t a b)
choose_part f true a b = refl
choose_part f false a b = refl

-- ---- a test of two parts

pub and_left : (a b : Bool) → (a && b) ≡ true → a ≡ true
and_left true b e = refl
and_left false b e = e

pub and_right : (a b : Bool) → (a && b) ≡ true → b ≡ true
and_right true b e = e
and_right false true e = refl
and_right false false e = e

-- what is asked only where a test holds
pub asked : (a b : Bool) → (not a || b) ≡ true → a ≡ true → b ≡ true
asked true b h e = h
asked false b h e = absurd (false≢true e)

pub and_both : (a b : Bool) → a ≡ true → b ≡ true → (a && b) ≡ true
and_both true b p q = q
and_both false b p q = p
