-- A position without mask, compare condition or pattern: of its fates and choices one is left, since each test of those is decided by the set-up.
use mathlib.Core.Path.{◌≡◌, ◌∙◌}
use mathlib.Core.Bool.{true, false}
use mathlib.Core.List.{List}
use Rattle.numbers.proofs.Choices.{choose_true, choose_false}
use Prim.Native.Nat.{ℕ}
use Rattle.mixes.specs.Conditions.{holds_of, condition_holds}
use Rattle.moves.specs.declared.Pen.{Pen}
use Rattle.places.specs.declared.MaskMode.TheVariants.{Disabled}
use Rattle.places.specs.declared.Setup.{Setup}
use Rattle.places.specs.Places.{named_mask, in_mask}
use Rattle.position.specs.Fates.{on_zero, is_compared}
use Rattle.position.specs.Drawn.{is_foreground, ink_of}

module _ (s : Setup) (memory : List ℕ) (pen : Pen) where
  -- without a mask there is no boundary, and no pixel of it is 0
  pub unbounded : named_mask s.brush.mask.mode ≡ Disabled → in_mask s.brush pen ≡ true
  unfolding in_mask
  unbounded e = rw e

  pub unmasked : named_mask s.brush.mask.mode ≡ Disabled → on_zero s.brush memory pen ≡ false
  unfolding on_zero
  unmasked e = rw e

  -- condition 4 never holds
  pub never : s.brush.colours.compare.condition ≡ 4 → is_compared s.brush memory pen ≡ false
  unfolding is_compared condition_holds holds_of
  never e = rw e

  -- pattern 8 is the foreground
  pub foreground : s.travel.pattern.used ≡ false → s.brush.flow.derived ≡ false → is_foreground s memory pen ≡ true
  unfolding is_foreground
  foreground unused own = choose_false _ _ unused ∙ choose_false _ _ own

  pub foreground_ink : is_foreground s memory pen ≡ true → ink_of s memory pen ≡ s.brush.colours.foreground
  unfolding ink_of
  foreground_ink e = choose_true _ _ e
