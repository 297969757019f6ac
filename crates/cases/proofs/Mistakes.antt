-- Each play tells the right answer from a mistake, and the promises give the right one: each is computed from them.
use mathlib.Core.Path.{refl}
use Rattle.numbers.specs.Bytes.{byte_of, covers, latched, latched_bytes, le, number_of, part_of}
use Rattle.numbers.specs.Circles.{back, circle, forth, residue}
use Rattle.numbers.specs.Fields.{field, with_field}
use Rattle.mixes.specs.Conditions.{condition_holds, holds_of}
use Rattle.mixes.specs.Mixes.{arithmetic, depth_of, gathered, logical, merged, mixed, scattered, table_bit, worked}
use Rattle.pixels.specs.Maps.{bits_of, needed_of, place_of, shift_of, start_of}
use Rattle.pixels.specs.Pixels.{byte_at, pixel_at, with_pixel}
use Rattle.parts.specs.Drawings.{inside_of, with_inside}
use Rattle.parts.specs.Fresh.{fresh_registers}
use Rattle.parts.specs.Latches.{colours_latched, compare_latched, figure_latched, ink_latched, map_latched, point_latched, pointers_latched, registers_latched}
use Rattle.parts.specs.Latches.{spot_latched, terms_latched}
use Rattle.parts.specs.Moved.{with_moved}
use Rattle.parts.specs.Reduced.{colours_reduced, destination_reduced, figure_reduced, map_reduced, point_reduced, pointers_reduced, registers_reduced}
use Rattle.parts.specs.Reduced.{spot_reduced, term_reduced, terms_reduced}
use Rattle.parts.specs.Registers.{among, listed, others, placed, registers, selected}
use Rattle.parts.specs.Takes.{taken, taken_onto, touched}
use Rattle.rules.specs.Codes.{code_at, none_stopped}
use Rattle.rules.specs.Going.{counters_hold, pointers_hold}
use Rattle.rules.specs.Maps.{end_holds, format_holds, is_inside, is_one_bit, map_at}
use Rattle.rules.specs.Operations.{draws, is_block, is_codes, is_fill, is_line, is_map, mode_of, source_is_colour, uses_mask, uses_pattern, uses_source}
use Rattle.rules.specs.Rules.{ends_hold, fields_hold, fill_holds, formats_hold, is_pattern, is_source, mixes_hold, start_refusal, used_maps}
use Rattle.rules.specs.Starts.{drawing_started, pointers_started, turned}
use Rattle.moves.specs.Decoded.{course_of, sign_of, straight_of, travel_of}
use Rattle.moves.specs.Moves.{block_moved, code_passed, codes_moved, column_passed, destination_by, line_error, line_moved, moved, moved_by, pen_gone}
use Rattle.moves.specs.Moves.{pen_stepped, pen_with, rises, row_passed, row_point, row_spot, source_by}
use Rattle.moves.specs.Steps.{code_step, line_step}
use Rattle.moves.specs.Turns.{circled_by, point_stepped, spot_stepped, turned_by}
use Rattle.places.specs.Decoded.{brush_of, edge_of, flow_of}
use Rattle.places.specs.Places.{column_of, in_mask, is_first, is_last, is_move, is_nulled, is_within, mask_x, mask_y, nulled_by, on_boundary, on_map, place_x}
use Rattle.position.specs.Drawn.{crossed, drawn, drawn_by, ink_of, inside_at, is_foreground, is_one, mixed_pixel, picked, source_pixel}
use Rattle.position.specs.Fates.{destination_pixel, fate_of, is_compared, on_zero}
use Rattle.runs.specs.Runs.{after, begun, positioned, stepped}
use Rattle.image.specs.Bank.{bank_of, laid_at, map_values, other_values, read_from, values_of}
use Rattle.image.specs.Counters.{counters_of, drawing_of}
use Rattle.image.specs.Fields.{counter_fields, fields_of, head_fields, laid, map_fields, maps_fields, register_fields}
use Rattle.image.specs.Layout.{at}
use Rattle.image.specs.Read.{colours_from, counters_from, figure_from, ink_from, map_from, maps_from, point_from, pointers_from, registers_from, spot_from}
use Rattle.image.specs.Read.{terms_from}
use Rattle.coprocessor.specs.Fresh.{fresh_answer, fresh_of, size_holds}
use Rattle.coprocessor.specs.Images.{image_of, load_answer, loaded, loads, remains, save_refusal, saved, saves, zero_counters}
use Rattle.coprocessor.specs.Reads.{read_answer, read_refusal, value_at}
use Rattle.coprocessor.specs.Runs.{pen_of, ran_of, run_answer, run_memory, run_refusal, setup_of, with_pen}
use Rattle.coprocessor.specs.Valid.{goes_on, maps_reduced, reduced_of, start_refusal_of, valid_of}
use Rattle.coprocessor.specs.Writes.{settled_by, started, started_refusal, starts_by, stored, write_answer, write_refusal}
use Rattle.cases.specs.Calls.{Played, answers, played, same, written, zeros}
use Rattle.cases.specs.Cases.{codes, inked, mapped, rows}
use Rattle.cases.specs.Mistakes.{boundary, boundary_codes, boundary_down, boundary_left, boundary_level, boundary_up, code_zero, cut_boundary, cut_fill}
use Rattle.cases.specs.Mistakes.{cut_line, destination_inverted, each_code_nulled, earlier_codes, error_reduced, fill, fill_refused, filled_by_rows}
use Rattle.cases.specs.Mistakes.{filled_in_place, first_code_stops, inside_at_start, lowest_number, mask_boundary, mistakes, no_image, not_tiled, order_taken}
use Rattle.cases.specs.Mistakes.{one_position, pattern_along, pointers_turned, risen_at_start, row, row_returned, sizes, source_forth, still_code}
use Rattle.cases.specs.Mistakes.{unlisted_byte}
use Rattle.cases.specs.Examples.{compared, compass, conditions, cornered, corners, each_end_nulled, examples, mask_pixels, masked_conditions, ordered, orders, towards}

pub avoided : Played mistakes × Played examples
unfolding number_of byte_of part_of covers latched_bytes latched forth back residue circle field with_field bits_of start_of place_of shift_of needed_of byte_at
    pixel_at with_pixel holds_of condition_holds table_bit logical gathered scattered worked arithmetic merged mixed touched taken map_reduced
    term_reduced terms_reduced point_reduced destination_reduced spot_reduced registers among listed placed none_stopped counters_hold pointers_hold
    map_at format_holds end_holds is_inside is_map is_line is_codes is_block draws source_is_colour uses_source uses_pattern uses_mask is_source is_pattern
    fields_hold mixes_hold used_maps formats_hold ends_hold start_refusal turned code_at drawing_started sign_of straight_of course_of flow_of source_by destination_by
    pen_stepped pen_with pen_gone line_error line_moved code_passed codes_moved column_passed row_point row_spot row_passed block_moved moved_by moved
    line_step code_step turned_by circled_by point_stepped spot_stepped source_pixel is_foreground ink_of picked mixed_pixel drawn_by drawn
    destination_pixel on_zero is_compared fate_of is_within column_of on_map mask_x mask_y in_mask is_move is_first is_last nulled_by is_nulled begun
    positioned stepped after size_holds fresh_of fresh_answer setup_of pen_of with_pen ran_of run_refusal run_answer run_memory start_refusal_of maps_reduced
    pointers_reduced reduced_of goes_on valid_of stored starts_by started started_refusal write_refusal settled_by write_answer same zeros written
    answers played Played mapped inked rows codes still_code row earlier_codes not_tiled each_code_nulled source_forth pattern_along
    destination_inverted row_returned error_reduced one_position boundary boundary_down boundary_up boundary_level boundary_codes boundary_left fill
    filled_by_rows filled_in_place cut_fill cut_boundary inside_at_start risen_at_start fill_refused lowest_number unlisted_byte code_zero mask_boundary order_taken
    first_code_stops pointers_turned sizes no_image cut_line mistakes is_one_bit counters_of drawing_of laid counter_fields head_fields map_fields
    maps_fields at map_from ink_from point_from spot_from maps_from terms_from counters_from bank_of fields_of image_of loaded zero_counters remains loads
    saves save_refusal saved load_answer value_at read_refusal read_answer le inside_of with_inside is_fill mode_of fill_holds edge_of rises place_x
    on_boundary is_one inside_at crossed taken_onto map_latched terms_latched ink_latched compare_latched point_latched spot_latched colours_latched
    figure_latched pointers_latched registers_latched colours_reduced figure_reduced registers_reduced selected others fresh_registers with_moved
    pointers_started travel_of brush_of depth_of map_values other_values values_of laid_at read_from register_fields colours_from figure_from pointers_from
    registers_from compared conditions masked_conditions mask_pixels ordered orders towards compass cornered corners each_end_nulled examples
avoided = ((refl, (refl, (refl, (refl, (refl, (refl, (refl, (refl, (refl, (refl, (refl, (refl, (refl, (refl, (refl, (refl, (refl, (refl, (refl, (refl, (refl, (refl, (refl, (refl, (refl, (refl, (refl, (refl, (refl, (refl, (refl, (refl, tt)))))))))))))))))))))))))))))))), (refl, (refl, (refl, (refl, (refl, (refl, (refl, (refl, (refl, (refl, (refl, (refl, (refl, (refl, (refl, (refl, (refl, (refl, (refl, tt))))))))))))))))))))
