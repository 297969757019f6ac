-- A worked outline and its fill, shown by computing them: strokes and a fill as the theorems ask for do exist, and give the area that one fills by hand.
use mathlib.Core.Path.{◌≡◌, refl}
use mathlib.Core.Bool.{Bool, true, false}
use mathlib.Core.List.{List, [], ◌∷◌}
use Prim.Native.Nat.{ℕ}
use native.Mathlib.Omega.{arith}
use lib.IntN.{ℤ, pos, negsuc}
use Rattle.numbers.specs.Bytes.{byte_of}
use Rattle.numbers.specs.Circles.{back, circle, forth, residue}
use Rattle.numbers.specs.Fields.{field, with_field}
use Rattle.mixes.specs.Conditions.{condition_holds, holds_of}
use Rattle.mixes.specs.Mixes.{depth_of, gathered, logical, merged, mixed, table_bit}
use Rattle.pixels.specs.Maps.{Apart, bits_of, needed_of, place_of, shift_of, start_of}
use Rattle.pixels.specs.Pixels.{byte_at, pixel_at, with_pixel}
use Rattle.pixels.specs.declared.Map.{Map}
use Rattle.parts.specs.Drawings.{inside_of, with_inside}
use Rattle.parts.specs.Fresh.{no_point}
use Rattle.parts.specs.Reduced.{colours_reduced, destination_reduced, figure_reduced, map_reduced, point_reduced, pointers_reduced, registers_reduced}
use Rattle.parts.specs.Reduced.{spot_reduced, term_reduced, terms_reduced}
use Rattle.parts.specs.declared.drawing.Drawing.{Drawing}
use Rattle.parts.specs.declared.drawing.Drawing.TheVariants.{Line, Codes, Block}
use Rattle.rules.specs.Codes.{code_at, codes_from, none_stopped}
use Rattle.rules.specs.Going.{counters_hold, pointers_hold}
use Rattle.rules.specs.Maps.{fresh_map, end_holds, format_holds, is_inside, is_one_bit, map_at}
use Rattle.rules.specs.Operations.{is_block, is_codes, is_fill, is_line, is_map, mode_of, source_is_colour, uses_mask, uses_pattern, uses_source}
use Rattle.rules.specs.Rules.{ends_hold, fields_hold, fill_holds, formats_hold, is_pattern, is_source, mixes_hold, start_refusal, used_maps}
use Rattle.rules.specs.Totals.{total_of}
use Rattle.moves.specs.Decoded.{course_of, sign_of, straight_of, travel_of}
use Rattle.moves.specs.Moves.{block_moved, code_passed, codes_moved, column_passed, destination_by, line_error, line_moved, moved, moved_by, pen_gone}
use Rattle.moves.specs.Moves.{pen_stepped, pen_with, rises, row_passed, row_point, row_spot, source_by}
use Rattle.moves.specs.Steps.{code_step, line_step}
use Rattle.moves.specs.Turns.{circled_by, point_stepped, spot_stepped, turned_by}
use Rattle.places.specs.Decoded.{brush_of, edge_of, flow_of}
use Rattle.places.specs.Places.{column_of, in_mask, is_first, is_last, is_move, is_nulled, is_within, nulled_by, on_boundary, on_map, place_x}
use Rattle.position.specs.Drawn.{crossed, drawn, drawn_by, ink_of, inside_at, is_foreground, is_one, mixed_pixel, picked, source_pixel}
use Rattle.position.specs.Fates.{destination_pixel, fate_of, is_compared, on_zero}
use Rattle.runs.specs.Runs.{after, begun, positioned, stepped}
use Rattle.coprocessor.specs.Fresh.{size_holds}
use Rattle.coprocessor.specs.Runs.{pen_of, position_at, ran_of, run_memory, run_refusal, setup_of}
use Rattle.coprocessor.specs.Valid.{goes_on, maps_reduced, reduced_of, start_refusal_of, valid_of}
use Rattle.coprocessor.specs.declared.Coprocessor.{Coprocessor}
use Rattle.areas.specs.Crossings.{below, crosses, crosses_at, crossings, pen_after, same_place}
use Rattle.areas.specs.Fills.{Filling, crossings_up_to, foreground_after, is_odd}
use Rattle.areas.specs.Outlines.{Strokes, none, more, at_start, crossings_of, outlined}

-- two maps of eight by eight pixels, one behind the other: the outline's and the picture's
abbrev eight : ℕ → Map
eight base = record { base = base; width = 7; height = 7; format = 0 }

abbrev drawing : (operations steps : ℕ) (x y : ℤ) → Drawing → Coprocessor
drawing operations steps x y d =
    record {
      size = 16;
      maps = fresh_map ∷ eight 0 ∷ eight 8 ∷ fresh_map ∷ [];
      registers =
          record {
            index = 0;
            terms = record { e = negsuc 0; k1 = pos 0; k2 = pos 0 };
            colours =
                record {
                  foreground = record { mix = 6; colour = 1 };
                  background = record { mix = 5; colour = 0 };
                  compare = record { condition = 4; value = 0 };
                  planes = 1;
                  carries = 0;
                };
            figure = record { operations = operations; steps = steps; dimensions = record { x = 4; y = 4 }; origin = no_point };
            pointers = record { source = no_point; pattern = no_point; destination = record { x = x; y = y } };
          };
      drawing = d;
    }

-- a line up, left of the map, from row 5 to row 1
abbrev left : Coprocessor
left = drawing 0x05018033 0 (negsuc 0) (pos 5) (Line false 0)

-- a code down, in column 3, from row 1 to row 5
abbrev right : Coprocessor
right = drawing 0x04018030 0xD4000000 (pos 3) (pos 1) (Codes 1 0 0)

-- a fill of five by five positions
abbrev fill : Coprocessor
fill = drawing 0x0A021000 0 (pos 0) (pos 0) (Block false 0 0)

abbrev strokes : List Coprocessor
strokes = left ∷ right ∷ []

abbrev zeros : List ℕ
zeros = 0 ∷ 0 ∷ 0 ∷ 0 ∷ 0 ∷ 0 ∷ 0 ∷ 0 ∷ 0 ∷ 0 ∷ 0 ∷ 0 ∷ 0 ∷ 0 ∷ 0 ∷ 0 ∷ []

-- ---- they are as the theorems ask

valid : (valid_of left ≡ true) × (valid_of right ≡ true) × (valid_of fill ≡ true)
unfolding map_reduced term_reduced terms_reduced point_reduced destination_reduced spot_reduced is_map is_line is_codes is_fill is_block mode_of source_is_colour
    uses_source uses_pattern uses_mask map_at format_holds is_one_bit end_holds is_inside is_source is_pattern fill_holds fields_hold mixes_hold used_maps
    formats_hold ends_hold start_refusal code_at none_stopped counters_hold pointers_hold size_holds start_refusal_of maps_reduced pointers_reduced
    reduced_of goes_on valid_of bits_of needed_of byte_of colours_reduced figure_reduced registers_reduced
valid = (refl, refl, refl)

-- no byte of one map is of the other
eight_apart : Apart (eight 0) (eight 8)
unfolding Apart place_of start_of bits_of
eight_apart x y x' y' h v h' v' e = omega arith

pub example_strokes : Strokes (eight 0) 16 strokes
unfolding at_start map_at
example_strokes =
    more
    (record {
      valid = valid.0;
      memory = refl;
      start = refl;
      function = refl;
      mode = refl;
      mask = refl;
      pattern = refl;
      source = refl;
      destination = refl;
      mix = refl;
      colour = refl;
      condition = refl;
      plane = refl;
    })
    (more
    (record {
      valid = valid.1;
      memory = refl;
      start = refl;
      function = refl;
      mode = refl;
      mask = refl;
      pattern = refl;
      source = refl;
      destination = refl;
      mix = refl;
      colour = refl;
      condition = refl;
      plane = refl;
    }) none)

pub example_filling : Filling (eight 0) fill
unfolding map_at
example_filling =
    record { valid = valid.2; function = refl; start = refl; pattern = refl; corner = refl; down = refl; apart = eight_apart }

-- ---- and give the area

-- what the fill picks at the five columns of a row, and where the crossings up to them are odd
abbrev five_of : (ℕ → Bool) → List Bool
five_of at = at 0 ∷ at 1 ∷ at 2 ∷ at 3 ∷ at 4 ∷ []

abbrev filled_row : ℕ → List Bool
filled_row y = five_of (λ x. foreground_after fill (outlined strokes zeros) (position_at fill x y))

abbrev odd_row : ℕ → List Bool
odd_row y = five_of (λ x. is_odd (crossings_up_to strokes x y))

-- columns 0 to 2 in rows 1 to 4, and none in row 0
pub example_area : (filled_row 0 ≡ five_of (λ x. false))
    × (filled_row 1 ≡ true ∷ true ∷ true ∷ false ∷ false ∷ [])
    × (filled_row 4 ≡ true ∷ true ∷ true ∷ false ∷ false ∷ [])
    × (odd_row 0 ≡ five_of (λ x. false))
    × (odd_row 1 ≡ true ∷ true ∷ true ∷ false ∷ false ∷ [])
    × (odd_row 4 ≡ true ∷ true ∷ true ∷ false ∷ false ∷ [])
unfolding byte_of forth back residue circle field with_field bits_of start_of place_of shift_of needed_of byte_at pixel_at with_pixel table_bit logical gathered
    merged mixed holds_of condition_holds inside_of with_inside map_reduced term_reduced terms_reduced point_reduced destination_reduced spot_reduced
    is_map is_line is_codes is_fill is_block mode_of source_is_colour uses_source uses_pattern uses_mask map_at format_holds is_one_bit end_holds is_inside
    is_source is_pattern fill_holds fields_hold mixes_hold used_maps formats_hold ends_hold start_refusal code_at none_stopped counters_hold pointers_hold
    codes_from total_of sign_of straight_of course_of travel_of flow_of edge_of depth_of brush_of turned_by circled_by point_stepped spot_stepped line_step code_step
    source_by destination_by pen_stepped pen_with pen_gone line_error rises line_moved code_passed codes_moved column_passed row_point row_spot row_passed
    block_moved moved_by moved is_within column_of place_x on_map in_mask is_move is_first is_last on_boundary nulled_by is_nulled destination_pixel on_zero
    is_compared fate_of source_pixel is_one inside_at crossed is_foreground ink_of picked mixed_pixel drawn_by drawn begun positioned stepped after
    size_holds start_refusal_of maps_reduced pointers_reduced reduced_of goes_on valid_of setup_of pen_of ran_of run_refusal run_memory pen_after below
    same_place crosses crosses_at crossings at_start outlined crossings_of is_odd foreground_after crossings_up_to colours_reduced figure_reduced
    registers_reduced
example_area = (refl, refl, refl, refl, refl, refl)
