-- Which way a step in Y went is seen from the rows before and after it: on the destination's circle a row, the row below it and the row above it are three.
use mathlib.Core.Path.{◌≡◌, refl, sym, ap, ◌∙◌}
use mathlib.Core.Bool.{Bool, true, false, false≢true}
use Prim.Native.Nat.{◌<◌}
use native.Mathlib.Omega.{arith}
use lib.Dec.{lit<}
use lib.IntN.{ℤ, pos, negsuc}
use borrow.Author.Tests.{eq-eqb, eqb-true}
use Rattle.numbers.specs.Circles.{forth, back, residue}
use Rattle.numbers.proofs.CircleLaws.{residue_lt}
use Rattle.moves.specs.declared.Turn.{Turn}
use Rattle.moves.specs.declared.Turn.TheVariants.{Stay, Forth, Back}
use Rattle.moves.specs.Turns.{turned_by, circled_by}
use Rattle.moves.specs.Steps.{goes_up}
use Rattle.moves.proofs.CircledLaws.{OnCircle, residue_circled, circled_return}
use Rattle.areas.specs.Crossings.{below, same_place}

-- whether a step's part in Y moves it down, which raises Y
unfoldable pub goes_down : Turn → Bool
goes_down Stay = false
goes_down Forth = true
goes_down Back = false

-- ---- the test of two places

pub same_self : (z : ℤ) → same_place z z ≡ true
unfolding same_place
same_self (pos n) = eq-eqb n n refl
same_self (negsuc n) = eq-eqb n n refl

pub same_true : (a b : ℤ) → same_place a b ≡ true → a ≡ b
unfolding same_place
same_true (pos a) (pos b) e = ap pos (eqb-true a b e)
same_true (pos a) (negsuc b) e = absurd (false≢true e)
same_true (negsuc a) (pos b) e = absurd (false≢true e)
same_true (negsuc a) (negsuc b) e = ap negsuc (eqb-true a b e)

pub same_false : (a b : ℤ) → (a ≡ b → ⊥) → same_place a b ≡ false
same_false a b ne = by (same_place a b) refl
  where
    by : (t : Bool) → same_place a b ≡ t → same_place a b ≡ false
    by true e = absurd (ne (same_true a b e))
    by false e = e

-- ---- one step on the circle

module _ (y : ℤ) where
  -- the remainder of a row, and of those one step away
  near : residue 8192 y < 8192
  near = residue_lt 8192 (lit< tt) y

  -- a row that is not a step down from this one is not the row below it
  not_below : (t : Turn) → goes_down t ≡ false → circled_by t 1 y ≡ circled_by Forth 1 y → ⊥
  unfolding goes_down turned_by forth back
  not_below t up e = by t up (sym (residue_circled t 1 y) ∙ ap (residue 8192) e ∙ residue_circled Forth 1 y)
    where
      by : (t : Turn) → goes_down t ≡ false → turned_by t 1 8191 (residue 8192 y) ≡ turned_by Forth 1 8191 (residue 8192 y) → ⊥
      by Stay up e = let r = near in omega arith
      by Forth up e = false≢true (sym up)
      by Back up e = let r = near in omega arith

  -- nor is it the row below one that is not a step up from it
  not_above : (t : Turn) → goes_up t ≡ false → y ≡ circled_by Forth 1 (circled_by t 1 y) → ⊥
  unfolding turned_by forth back
  not_above t down e =
      by t down (ap (residue 8192) e ∙ residue_circled Forth 1 (circled_by t 1 y) ∙ ap (turned_by Forth 1 8191) (residue_circled t 1 y))
    where
      by : (t : Turn) → goes_up t ≡ false → residue 8192 y ≡ turned_by Forth 1 8191 (turned_by t 1 8191 (residue 8192 y)) → ⊥
      by Stay down e = let r = near in omega arith
      by Forth down e = let r = near in omega arith
      by Back down e = false≢true (sym down)

  pub down_seen : (t : Turn) → same_place (circled_by t 1 y) (below y) ≡ goes_down t
  unfolding goes_down below
  down_seen Stay = same_false (circled_by Stay 1 y) (circled_by Forth 1 y) (not_below Stay refl)
  down_seen Forth = same_self (circled_by Forth 1 y)
  down_seen Back = same_false (circled_by Back 1 y) (circled_by Forth 1 y) (not_below Back refl)

  pub up_seen : OnCircle y → (t : Turn) → same_place y (below (circled_by t 1 y)) ≡ goes_up t
  unfolding below
  up_seen on Stay = same_false y (circled_by Forth 1 (circled_by Stay 1 y)) (not_above Stay refl)
  up_seen on Forth = same_false y (circled_by Forth 1 (circled_by Forth 1 y)) (not_above Forth refl)
  up_seen on Back = rw (circled_return Back y on 1) (same_self y)
