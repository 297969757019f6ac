-- What move codes and the drawing mode hold back: no mode leaves out a block, a mode is what the tests of its number say, and a move is told
-- by the code that is drawn.
use mathlib.Core.Path.{◌≡◌, refl, ap, ◌∙◌}
use mathlib.Core.Bool.{Bool, true, false, not, ◌&&◌, ◌||◌, false≢true}
use Prim.Native.Nat.{ℕ}
use native.Mathlib.Omega.{arith}
use lib.Dec.{eqb}
use Rattle.std.proofs.lemmas.Grind.{common_steps}
use Rattle.parts.specs.declared.drawing.Drawing.{Drawing}
use Rattle.parts.specs.declared.drawing.Drawing.TheVariants.{Nothing, Line, Codes, Block}
use Rattle.moves.specs.declared.Travel.{Travel}
use Rattle.places.specs.declared.MaskMode.{MaskMode}
use Rattle.places.specs.declared.MaskMode.TheVariants.{Disabled, Boundary, Enabled}
use Rattle.places.specs.declared.Mode.{Mode}
use Rattle.places.specs.declared.Mode.TheVariants.{AllPixels, FirstNull, LastNull, AreaBoundary}
use Rattle.places.specs.Places.{named_mask, is_disabled, is_enabled, is_move, named_mode, is_all, left_out}
use Rattle.places.specs.Inner.{code_in, moves_by}

-- a block is left out by none of them
pub none_left : (mode : Mode) → left_out mode false false true ≡ false
none_left AllPixels = refl
none_left FirstNull = refl
none_left LastNull = refl
none_left AreaBoundary = refl

-- of any number the drawing mode that it names leaves out what the tests of the number say
pub left_out_numbered : (m : ℕ) (first last bounds : Bool)
    → ((eqb m 1 && first) || (eqb m 2 && last) || (eqb m 3 && not bounds)) ≡ left_out (named_mode m) first last bounds
left_out_numbered m first last bounds = grind (arith, common_steps)

-- of any number the mask mode that it names is disabled where the number is 0, and enabled where it is 2
pub disabled_numbered : (m : ℕ) → eqb m 0 ≡ is_disabled (named_mask m)
disabled_numbered m = grind (arith, common_steps)

pub enabled_numbered : (m : ℕ) → eqb m 2 ≡ is_enabled (named_mask m)
enabled_numbered m = grind (arith, common_steps)

-- the mask map is used where the register's mode is 2
pub enabled_by : (number : ℕ) → named_mask number ≡ Enabled → eqb number 2 ≡ true
enabled_by number e = enabled_numbered number ∙ ap is_enabled e

-- what a test of a mode says
pub enabled_lem : (mode : MaskMode) → is_enabled mode ≡ true → mode ≡ Enabled
enabled_lem Disabled e = absurd (false≢true e)
enabled_lem Boundary e = absurd (false≢true e)
enabled_lem Enabled e = refl

pub all_lem : (mode : Mode) → is_all mode ≡ true → mode ≡ AllPixels
all_lem AllPixels e = refl
all_lem FirstNull e = absurd (false≢true e)
all_lem LastNull e = absurd (false≢true e)
all_lem AreaBoundary e = absurd (false≢true e)

pub moves_by_lem : (t : Travel) (d : Drawing) {code : ℕ} → code ≡ code_in t.figure.steps d → moves_by code d ≡ is_move t d
unfolding is_move
moves_by_lem t (Nothing stopped) e = refl
moves_by_lem t (Line rose done) e = refl
moves_by_lem t (Codes count code done) e = rw e
moves_by_lem t (Block inside column row) e = refl
