-- A worked transfer from Intel to Motorola order and back, shown by computing it: transfers as the theorems ask for do exist, and give the bytes that one
-- finds by hand.
use mathlib.Core.Path.{◌≡◌, refl}
use mathlib.Core.Bool.{true, false}
use mathlib.Core.List.{[], ◌∷◌}
use Prim.Native.Nat.{ℕ}
use native.Mathlib.Omega.{arith}
use lib.IntN.{pos}
use Rattle.numbers.specs.Circles.{back, circle, forth, residue}
use Rattle.numbers.specs.Fields.{field, with_field}
use Rattle.mixes.specs.Conditions.{condition_holds, holds_of}
use Rattle.mixes.specs.Mixes.{depth_of, gathered, logical, merged, mixed, table_bit}
use Rattle.pixels.specs.Maps.{Apart, bits_of, needed_of, place_of, shift_of, start_of}
use Rattle.pixels.specs.Pixels.{byte_at, pixel_at, with_pixel}
use Rattle.pixels.specs.declared.Map.{Map}
use Rattle.parts.specs.Drawings.{inside_of, with_inside}
use Rattle.parts.specs.Fresh.{no_point}
use Rattle.parts.specs.Reduced.{colours_reduced, destination_reduced, figure_reduced, map_reduced, point_reduced, pointers_reduced, registers_reduced}
use Rattle.parts.specs.Reduced.{spot_reduced, term_reduced, terms_reduced}
use Rattle.parts.specs.declared.drawing.Drawing.TheVariants.{Block}
use Rattle.rules.specs.Going.{counters_hold, pointers_hold}
use Rattle.rules.specs.Maps.{fresh_map, end_holds, format_holds, is_inside, is_one_bit, map_at}
use Rattle.rules.specs.Operations.{is_block, is_fill, is_map, mode_of, source_is_colour, uses_mask, uses_pattern, uses_source}
use Rattle.rules.specs.Rules.{ends_hold, fields_hold, fill_holds, formats_hold, is_pattern, is_source, mixes_hold, start_refusal, used_maps}
use Rattle.moves.specs.Decoded.{course_of, sign_of, straight_of, travel_of}
use Rattle.moves.specs.Moves.{block_moved, column_passed, moved, moved_by, pen_stepped, pen_with, row_passed, row_point, row_spot}
use Rattle.moves.specs.Turns.{circled_by, point_stepped, spot_stepped, turned_by}
use Rattle.places.specs.Decoded.{brush_of, edge_of, flow_of}
use Rattle.places.specs.Places.{column_of, in_mask, is_first, is_last, is_move, is_nulled, is_within, nulled_by, on_boundary, on_map, place_x}
use Rattle.position.specs.Drawn.{crossed, drawn, drawn_by, ink_of, inside_at, is_foreground, is_one, mixed_pixel, picked, source_pixel}
use Rattle.position.specs.Fates.{destination_pixel, fate_of, is_compared, on_zero}
use Rattle.runs.specs.Runs.{after, begun, positioned, stepped}
use Rattle.coprocessor.specs.Fresh.{size_holds}
use Rattle.coprocessor.specs.Runs.{pen_of, ran_of, run_memory, run_refusal, setup_of}
use Rattle.coprocessor.specs.Valid.{goes_on, maps_reduced, reduced_of, start_refusal_of, valid_of}
use Rattle.coprocessor.specs.declared.Coprocessor.{Coprocessor}
use Rattle.copies.specs.Copies.{Copy, Transfer}

-- two maps of three by three pixels of 2 bits: the one in Intel order, and behind it the other in Motorola order
abbrev intel : Map
intel = record { base = 0; width = 2; height = 2; format = 1 }

abbrev motorola : Map
motorola = record { base = 3; width = 2; height = 2; format = 9 }

abbrev started : ℕ → Coprocessor
started operations =
    record {
      size = 6;
      maps = fresh_map ∷ intel ∷ motorola ∷ fresh_map ∷ [];
      registers =
          record {
            index = 0;
            terms = record { e = pos 0; k1 = pos 0; k2 = pos 0 };
            colours =
                record {
                  foreground = record { mix = 3; colour = 0 };
                  background = record { mix = 0; colour = 0 };
                  compare = record { condition = 4; value = 0 };
                  planes = 0xFF;
                  carries = 0;
                };
            figure = record { operations = operations; steps = 0; dimensions = record { x = 2; y = 2 }; origin = no_point };
            pointers = record { source = no_point; pattern = no_point; destination = record { x = pos 0; y = pos 0 } };
          };
      drawing = Block false 0 0;
    }

abbrev there : Coprocessor
there = started 0x28128000

abbrev again : Coprocessor
again = started 0x28218000

-- ---- they are as the theorems ask

valid : (valid_of there ≡ true) × (valid_of again ≡ true)
unfolding map_reduced term_reduced terms_reduced point_reduced destination_reduced spot_reduced is_map is_fill is_block source_is_colour uses_source uses_pattern
    uses_mask map_at format_holds is_one_bit end_holds is_inside is_source is_pattern fill_holds fields_hold mixes_hold used_maps formats_hold ends_hold
    start_refusal counters_hold pointers_hold size_holds start_refusal_of maps_reduced pointers_reduced reduced_of goes_on valid_of bits_of needed_of
    colours_reduced figure_reduced registers_reduced
valid = (refl, refl)

-- no byte of one map is of the other
apart : Apart intel motorola × Apart motorola intel
unfolding Apart place_of start_of bits_of
apart = (λ x y x' y' h v h' v' e. omega arith, λ x y x' y' h v h' v' e. omega arith)

copies : Copy there × Copy again
unfolding map_at bits_of
copies = (
  record {
    valid = valid.0;
    function = refl;
    start = refl;
    source = refl;
    pattern = refl;
    mix = refl;
    planes = refl;
    mask = refl;
    condition = refl;
    apart = apart.0;
  },
  record {
    valid = valid.1;
    function = refl;
    start = refl;
    source = refl;
    pattern = refl;
    mix = refl;
    planes = refl;
    mask = refl;
    condition = refl;
    apart = apart.1;
  },
)

pub example_transfers : Transfer intel motorola there × Transfer motorola intel again
unfolding map_at
example_transfers = (
  record {
    copy = copies.0;
    from = refl;
    to = refl;
    columns = refl;
    rows = refl;
    dimensions = refl;
    right = refl;
    down = refl;
    first = refl;
    corner = refl;
  },
  record {
    copy = copies.1;
    from = refl;
    to = refl;
    columns = refl;
    rows = refl;
    dimensions = refl;
    right = refl;
    down = refl;
    first = refl;
    corner = refl;
  },
)

-- ---- and give the bytes

-- the pixels are 0, 1, 2 and 3, then 3, 2, 1 and 0, and a 2; back over zeros they are the first two bytes again, and their own bits of the third
pub example_bytes : (run_memory there (0xE4 ∷ 0x1B ∷ 0xFE ∷ 0 ∷ 0 ∷ 0 ∷ []) 9 ≡ 0xE4 ∷ 0x1B ∷ 0xFE ∷ 0x1B ∷ 0xE4 ∷ 0x80 ∷ [])
    × (run_memory again (0 ∷ 0 ∷ 0 ∷ 0x1B ∷ 0xE4 ∷ 0x80 ∷ []) 9 ≡ 0xE4 ∷ 0x1B ∷ 0x02 ∷ 0x1B ∷ 0xE4 ∷ 0x80 ∷ [])
unfolding forth back residue circle field with_field bits_of start_of place_of shift_of needed_of byte_at pixel_at with_pixel table_bit logical gathered merged
    mixed holds_of condition_holds inside_of with_inside map_reduced term_reduced terms_reduced point_reduced destination_reduced spot_reduced is_map
    is_fill is_block mode_of source_is_colour uses_source uses_pattern uses_mask map_at format_holds is_one_bit end_holds is_inside is_source is_pattern fill_holds
    fields_hold mixes_hold used_maps formats_hold ends_hold start_refusal counters_hold pointers_hold sign_of straight_of course_of travel_of flow_of edge_of
    depth_of brush_of turned_by circled_by point_stepped spot_stepped pen_stepped pen_with column_passed row_point row_spot row_passed block_moved moved_by
    moved is_within column_of place_x on_map in_mask is_move is_first is_last on_boundary nulled_by is_nulled destination_pixel on_zero is_compared fate_of
    source_pixel is_one inside_at crossed is_foreground ink_of picked mixed_pixel drawn_by drawn begun positioned stepped after size_holds
    start_refusal_of maps_reduced pointers_reduced reduced_of goes_on valid_of setup_of pen_of ran_of run_refusal run_memory colours_reduced figure_reduced
    registers_reduced
example_bytes = (refl, refl)
