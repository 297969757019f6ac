-- A fill picks as foreground the positions with an odd number of 1s passed in their row: a valid record whose function is the fill obeys its start
-- rules, so its pattern is a map and it goes to the right.
use mathlib.Core.Path.{◌≡◌, ap}
use mathlib.Core.Bool.{true, false}
use mathlib.Core.List.{List}
use Prim.Native.Nat.{ℕ, suc, ◌+◌, ◌/◌, ◌%◌, ◌≤◌, ◌<◌}
use borrow.Author.Tests.{eq-eqb, eqb-true}
use Rattle.numbers.proofs.Choices.{asked, and_left, and_right}
use Rattle.pixels.specs.Maps.{Apart}
use Rattle.parts.specs.declared.drawing.Drawing.TheVariants.{Block}
use Rattle.parts.specs.Drawings.{unfinished}
use Rattle.rules.specs.Operations.{function_of, destination_field, pattern_field, octant_of, is_fill, uses_pattern}
use Rattle.rules.specs.Maps.{map_at, is_inside}
use Rattle.rules.specs.Rules.{fill_holds, fields_hold}
use Rattle.rules.specs.Going.{pointers_hold}
use Rattle.rules.proofs.RefusalLaws.{accepted_holds}
use Rattle.moves.specs.Turns.{turned_by}
use Rattle.moves.specs.Decoded.{sign_of, course_of, travel_of}
use Rattle.places.specs.Decoded.{flow_of, brush_of}
use Rattle.runs.specs.Runs.{begun}
use Rattle.coprocessor.specs.declared.Coprocessor.{Coprocessor}
use Rattle.coprocessor.specs.Valid.{start_refusal_of}
use Rattle.coprocessor.specs.Runs.{setup_of, pen_of, ran_of}
use Rattle.coprocessor.proofs.SafeLaws.{Going, valid_going}
use Rattle.areas.specs.Fills.{is_odd, Row, foreground_after, ones_from}
use Rattle.areas.proofs.FillRows.{Fills, foreground_at, row_after_lem}

-- ---- what the start rules say of a fill

module _ (c : Coprocessor) (going : Going c) (function : function_of c.registers.figure.operations ≡ 10) where
  -- the fill's pixel operations
  abbrev operations : ℕ
  operations = c.registers.figure.operations

  is_fill_lem : is_fill operations ≡ true
  unfolding is_fill
  is_fill_lem = eq-eqb (function_of operations) 10 function

  holds_fill : fill_holds operations ≡ true
  unfolding start_refusal_of fields_hold
  holds_fill =
      let fields = (accepted_holds _ _ _ going.starts).fields in
      asked (is_fill operations) (fill_holds operations) (search (fields, and_right)) is_fill_lem

  fill_pattern : uses_pattern operations ≡ true
  unfolding fill_holds
  fill_pattern = let h = holds_fill in search (h, and_left)

  fill_right : octant_of operations / 4 % 2 ≡ 0
  unfolding fill_holds
  fill_right = let h = holds_fill in eqb-true _ 0 (search (h, and_right))

  pub fill_setup : Apart (map_at c.maps (pattern_field operations)) (map_at c.maps (destination_field operations)) → Fills (setup_of c)
  unfolding setup_of travel_of brush_of flow_of course_of sign_of
  fill_setup apart = record { fills = is_fill_lem; pattern = fill_pattern; right = rw fill_right; apart = apart }

  pub pattern_inside : is_inside (map_at c.maps (pattern_field operations)) c.registers.pointers.pattern ≡ true
  unfolding pointers_hold
  pattern_inside = let h = going.pointers in asked (uses_pattern operations) _ (search (h, and_right)) fill_pattern

-- ---- a row of a fill

module _ (row : ℕ) (c : Coprocessor) (r : Row row c) (memory : List ℕ) where
  going : Going c
  going = valid_going c r.valid (ap unfinished r.start)

  -- 003, Area Fill: of a row's positions the foreground are those with an odd number of 1s from the row's first to them
  pub row_filled : (n : ℕ) → n ≤ c.registers.figure.dimensions.x
      → foreground_after c memory n ≡ is_odd (ones_from memory (map_at c.maps (pattern_field c.registers.figure.operations))
      c.registers.pointers.pattern (suc n))
  unfolding foreground_after ran_of setup_of pen_of travel_of begun
  row_filled n h =
      foreground_at (setup_of c) (fill_setup c going r.function r.apart) (begun (pen_of c) memory) row r.start (pattern_inside c going r.function) n h

  -- 02, 102: the next row starts outside, with the pattern's first column again and its next row
  pub rows_start_outside : row < c.registers.figure.dimensions.y
      → ((ran_of c memory (suc c.registers.figure.dimensions.x)).pen.drawing ≡ Block false 0 (row + 1))
      × ((ran_of c memory (suc c.registers.figure.dimensions.x)).pen.pointers.pattern
      ≡ record {
        x = c.registers.pointers.pattern.x;
        y =
            turned_by (setup_of c).travel.course.y 1 (map_at c.maps (pattern_field c.registers.figure.operations)).height
            c.registers.pointers.pattern.y;
      })
  unfolding ran_of setup_of pen_of travel_of begun
  rows_start_outside another =
      row_after_lem (setup_of c) (fill_setup c going r.function r.apart) (begun (pen_of c) memory) row r.start (pattern_inside c going r.function) another
