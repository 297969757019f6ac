-- Filling an outline: a row's 1s are its columns' odd crossings, so the 1s passed are odd exactly where the crossings up to a column are, column by column.
use mathlib.Core.Path.{◌≡◌, ap, ◌∙◌}
use mathlib.Core.List.{List}
use Prim.Native.Nat.{ℕ, zero, suc, ◌+◌, ◌%◌, ◌≤◌}
use native.Mathlib.Omega.{arith}
use lib.Dec.{eqb}
use lib.ListN.{length}
use Rattle.numbers.specs.Choose.{choose}
use Rattle.numbers.specs.Circles.{forth}
use Rattle.numbers.proofs.CircleLaws.{forth_inside}
use Rattle.pixels.specs.declared.Map.{Map}
use Rattle.pixels.specs.Maps.{bits_of}
use Rattle.pixels.specs.Pixels.{pixel_at}
use Rattle.parts.specs.Drawings.{unfinished}
use Rattle.moves.specs.declared.Turn.TheVariants.{Forth}
use Rattle.moves.specs.Decoded.{sign_of, course_of, travel_of}
use Rattle.runs.specs.Runs.{begun}
use Rattle.coprocessor.specs.declared.Coprocessor.{Coprocessor}
use Rattle.coprocessor.specs.Runs.{setup_of, pen_of, ran_of, position_at}
use Rattle.coprocessor.proofs.SafeLaws.{Going, valid_going}
use Rattle.areas.specs.Outlines.{Strokes, outlined, crossings_of}
use Rattle.areas.specs.Fills.{is_odd, foreground_after, ones_from, Filling, crossings_up_to}
use Rattle.areas.proofs.Parities.{odd_same, odd_count}
use Rattle.areas.proofs.FillRows.{Fills}
use Rattle.areas.proofs.FillColumns.{foreground_there}
use Rattle.areas.proofs.Filled.{fill_setup}
use Rattle.areas.proofs.Outlines.{outline_parity}

-- ---- the 1s of an outline's row

module _ (map : Map) (cs : List Coprocessor) (memory : List ℕ) (y : ℕ)
    (parity : (x : ℕ) → x ≤ map.width → pixel_at memory map x y ≡ crossings_of cs x y % 2) where
  one_there : (x : ℕ) → x ≤ map.width → choose (eqb (pixel_at memory map (forth (map.width + 1) x 0) y) 0) 0 1 ≡ crossings_of cs x y % 2
  one_there x h =
      ap (λ (column : ℕ). choose (eqb (pixel_at memory map column y) 0) 0 1) (forth_inside (map.width + 1) x 0 (omega arith) ∙ omega arith)
      ∙ ap (λ (pixel : ℕ). choose (eqb pixel 0) 0 1) (parity x h)
      ∙ odd_count (crossings_of cs x y)

  ones_crossings : (x : ℕ) → x ≤ map.width → ones_from memory map (record { x = 0; y = y }) (suc x) % 2 ≡ crossings_up_to cs x y % 2
  unfolding ones_from crossings_up_to
  ones_crossings zero h = let there = one_there zero h in omega arith
  ones_crossings (suc x) h =
      let there = one_there (suc x) h in
      let before = ones_crossings x (omega arith) in
      omega arith

-- ---- a fill from the corner down

module _ (map : Map) (f : Coprocessor) (filling : Filling map f) where
  going : Going f
  going = valid_going f filling.valid (ap unfinished filling.start)

  filling_setup : Fills (setup_of f)
  filling_setup = fill_setup f going filling.function (rw filling.pattern filling.apart)

  filling_down : (setup_of f).travel.course.y ≡ Forth
  unfolding setup_of travel_of course_of sign_of
  filling_down = rw filling.down

  filled_there : (memory : List ℕ) (x y : ℕ) → x ≤ f.registers.figure.dimensions.x → y ≤ f.registers.figure.dimensions.y → y ≤ map.height
      → foreground_after f memory (position_at f x y) ≡ is_odd (ones_from memory map (record { x = 0; y = y }) (suc x))
  unfolding foreground_after ran_of setup_of pen_of travel_of begun
  filled_there memory x y across h v =
      foreground_there (setup_of f) filling_setup filling_down (begun (pen_of f) memory) filling.start filling.corner x y across h (rw filling.pattern v)
      ∙ ap (λ (m : Map). is_odd (ones_from memory m (record { x = 0; y = y }) (suc x))) filling.pattern

-- 02, 102: an outline drawn into a map of zeros, and a fill with that map from its corner down: the foreground is picked exactly where the outline crosses
-- the row an odd number of times at the column and left of it
pub outline_filled : (map : Map) (size : ℕ) (cs : List Coprocessor) (memory : List ℕ) (f : Coprocessor)
    → Strokes map size cs → bits_of map.format ≡ 1 → length memory ≡ size
    → ((x y : ℕ) → x ≤ map.width → y ≤ map.height → pixel_at memory map x y ≡ 0)
    → Filling map f
    → (x y : ℕ) → x ≤ map.width → y ≤ map.height → x ≤ f.registers.figure.dimensions.x → y ≤ f.registers.figure.dimensions.y
    → foreground_after f (outlined cs memory) (position_at f x y) ≡ is_odd (crossings_up_to cs x y)
outline_filled map size cs memory f strokes one same clear filling x y h v across down =
    filled_there map f filling (outlined cs memory) x y across down v
    ∙ odd_same _ (crossings_up_to cs x y)
    (ones_crossings map cs (outlined cs memory) y
    (λ column inside. outline_parity map size cs memory strokes one same clear column y inside v) x h)
