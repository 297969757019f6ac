-- The worked cases of lines and codes, and a block that wraps and inverts, each computed from the definitions.
use mathlib.Core.Path.{◌≡◌, refl}
use mathlib.Core.Bool.{true, false}
use Prim.Native.Nat.{ℕ}
use lib.IntN.{ℤ, pos, negsuc}
use Rattle.numbers.specs.Bytes.{byte_of}
use Rattle.numbers.specs.Circles.{forth, back, residue, circle}
use Rattle.pixels.specs.declared.Map.{Map}
use Rattle.parts.specs.declared.shapes.Point.{Point}
use Rattle.parts.specs.declared.drawing.Drawing.{Drawing}
use Rattle.parts.specs.declared.drawing.Drawing.TheVariants.{Nothing, Line, Codes, Block}
use Rattle.rules.specs.Operations.{is_fill, is_block, mode_of, is_map, source_is_colour, uses_source, uses_pattern}
use Rattle.rules.specs.Codes.{code_at}
use Rattle.moves.specs.declared.Travel.{Travel}
use Rattle.moves.specs.declared.Pen.{Pen}
use Rattle.moves.specs.Turns.{turned_by, circled_by, point_stepped, spot_stepped}
use Rattle.moves.specs.Decoded.{sign_of, straight_of, course_of}
use Rattle.moves.specs.Steps.{line_step, code_step}
use Rattle.moves.specs.Moves.{source_by, destination_by, pen_stepped, pen_with, pen_gone, line_error, rises, line_moved, code_passed, codes_moved}
use Rattle.moves.specs.Moves.{column_passed, row_point, row_spot, row_passed, block_moved, moved_by, moved}
use Rattle.moves.proofs.TurnLaws.{repeated}

-- a map of 8 by 8 pixels
abbrev eight : Map
eight = record { base = 0; width = 7; height = 7; format = 3 }

-- a drawing with these pixel operations, dimensions, step codes, K1 and K2, over maps of 8 by 8
abbrev travel : ℕ → Point ℕ → ℕ → ℤ → ℤ → Travel
travel operations dimensions steps k1 k2 =
    record {
      course = course_of operations;
      source = record { used = uses_source operations; map = eight };
      pattern = record { used = uses_pattern operations; map = eight };
      figure = record { operations = operations; steps = steps; dimensions = dimensions; origin = record { x = 0; y = 0 } };
      k1 = k1;
      k2 = k2;
    }

-- a pen with the source at one place and the destination at another
abbrev pen_at : Point ℕ → Point ℤ → ℤ → Drawing → Pen
pen_at source destination e drawing =
    record { pointers = record { source = source; pattern = record { x = 0; y = 0 }; destination = destination }; e = e; drawing = drawing }

-- ---- lines

-- 01, Cases, 4: E -1, K1 2, K2 -4, dimension 3, octant 0, from (0,0)
abbrev line : ℕ → Pen
line n =
    repeated (moved (travel 0x05018000 (record { x = 3; y = 0 }) 0 (pos 2) (negsuc 3))) n
    (pen_at (record { x = 0; y = 0 }) (record { x = pos 0; y = pos 0 }) (negsuc 0) (Line false 0))

-- it goes by (1,0) and (2,1) to (3,1); E ends -1
pub case4 : ((line 1).pointers.destination ≡ record { x = pos 1; y = pos 0 })
    × ((line 2).pointers.destination ≡ record { x = pos 2; y = pos 1 })
    × ((line 3).pointers.destination ≡ record { x = pos 3; y = pos 1 })
    × (line 4 ≡ pen_at (record { x = 0; y = 0 }) (record { x = pos 3; y = pos 1 }) (negsuc 0) (Nothing false))
unfolding repeated is_fill is_block mode_of forth back residue circle is_map source_is_colour uses_source uses_pattern turned_by circled_by point_stepped
    spot_stepped sign_of straight_of course_of line_step source_by destination_by pen_stepped pen_with pen_gone line_error rises line_moved moved_by moved
case4 = (refl, refl, refl, refl)

-- docs/DIFFERENCES.md, D3: a read form steps source and pattern by the line, and the destination's X by +1
abbrev reading : ℕ → Pen
reading n =
    repeated (moved (travel 0x23111002 (record { x = 3; y = 0 }) 0 (pos 2) (negsuc 3))) n
    (pen_at (record { x = 6; y = 0 }) (record { x = pos 6143; y = pos 0 }) (pos 0) (Line false 0))

-- source and pattern go up past their maps' edges and come in at the other, and the destination from 6,143 to -2,048
pub read_line : ((reading 1).pointers.source ≡ record { x = 7; y = 7 })
    × ((reading 2).pointers.source ≡ record { x = 0; y = 7 })
    × ((reading 1).pointers.pattern ≡ record { x = 1; y = 7 })
    × ((reading 1).pointers.destination ≡ record { x = negsuc 2047; y = pos 0 })
unfolding repeated is_fill is_block mode_of forth back residue circle is_map source_is_colour uses_source uses_pattern turned_by circled_by point_stepped
    spot_stepped sign_of straight_of course_of line_step source_by destination_by pen_stepped pen_with pen_gone line_error rises line_moved moved_by moved
read_line = (refl, refl, refl, refl)

-- ---- codes

-- a run of count codes from (17,10), after n positions
abbrev run : ℕ → ℕ → ℕ → Pen
run count steps n =
    repeated (moved (travel 0x04018000 (record { x = 0; y = 0 }) steps (pos 0) (pos 0))) n
    (pen_at (record { x = 0; y = 0 }) (record { x = pos 17; y = pos 10 }) (pos 0) (Codes count 0 0))

abbrev ended : Point ℤ → Drawing → Pen
ended destination drawing = pen_at (record { x = 0; y = 0 }) destination (pos 0) drawing

-- 01, Cases, 6 to 8: code 35 hex ends at (22,5) after six positions; steps FFFF0035 hex stop there; code 20 hex is one position and no stop
pub case678 : (run 1 0x35000000 6 ≡ ended (record { x = pos 22; y = pos 5 }) (Nothing false))
    × (run 4 0xFFFF0035 6 ≡ ended (record { x = pos 22; y = pos 5 }) (Nothing true))
    × (run 1 0x20000000 1 ≡ ended (record { x = pos 17; y = pos 10 }) (Nothing false))
unfolding repeated is_fill is_block mode_of byte_of forth back residue circle is_map source_is_colour uses_source uses_pattern code_at turned_by circled_by
    point_stepped spot_stepped sign_of straight_of course_of code_step source_by destination_by pen_stepped pen_with pen_gone code_passed codes_moved moved_by moved
case678 = (refl, refl, refl)

-- ---- blocks

-- docs/DIFFERENCES.md, D4: an inverting block of 2 by 2 from the source's last column
abbrev inverted : ℕ → Pen
inverted n =
    repeated (moved (travel 0x29118000 (record { x = 1; y = 1 }) 0 (pos 0) (pos 0))) n
    (pen_at (record { x = 7; y = 0 }) (record { x = pos 0; y = pos 0 }) (pos 0) (Block false 0 0))

-- the source wraps within the row, returns at its end and goes down, and the destination goes up
pub block : (inverted 1 ≡ pen_at (record { x = 0; y = 0 }) (record { x = pos 1; y = pos 0 }) (pos 0) (Block false 1 0))
    × (inverted 2 ≡ pen_at (record { x = 7; y = 1 }) (record { x = pos 0; y = negsuc 0 }) (pos 0) (Block false 0 1))
    × (inverted 4 ≡ pen_at (record { x = 7; y = 2 }) (record { x = pos 0; y = negsuc 1 }) (pos 0) (Nothing false))
unfolding repeated is_fill is_block mode_of forth back residue circle is_map source_is_colour uses_source uses_pattern turned_by circled_by point_stepped
    spot_stepped sign_of straight_of course_of pen_stepped column_passed row_point row_spot row_passed block_moved moved_by moved
block = (refl, refl, refl)
