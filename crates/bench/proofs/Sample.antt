-- The sample of 01, shown by computing it.
use mathlib.Core.Path.{◌≡◌, refl}
use Rattle.numbers.specs.Bytes.{number_of, byte_of, covers, latched, latched_bytes}
use Rattle.numbers.specs.Circles.{circle, forth, residue}
use Rattle.numbers.specs.Fields.{field, with_field}
use Rattle.mixes.specs.Conditions.{condition_holds, holds_of}
use Rattle.mixes.specs.Mixes.{depth_of, logical, merged, mixed, table_bit}
use Rattle.pixels.specs.Maps.{bits_of, needed_of, place_of, shift_of, start_of}
use Rattle.pixels.specs.Pixels.{byte_at, pixel_at, with_pixel}
use Rattle.parts.specs.Drawings.{with_inside}
use Rattle.parts.specs.Fresh.{fresh_registers}
use Rattle.parts.specs.Latches.{colours_latched, compare_latched, figure_latched, ink_latched, map_latched, point_latched, pointers_latched, registers_latched}
use Rattle.parts.specs.Latches.{spot_latched, terms_latched}
use Rattle.parts.specs.Moved.{with_moved}
use Rattle.parts.specs.Reduced.{colours_reduced, destination_reduced, figure_reduced, map_reduced, point_reduced, pointers_reduced, registers_reduced}
use Rattle.parts.specs.Reduced.{spot_reduced, term_reduced, terms_reduced}
use Rattle.parts.specs.Registers.{among, listed, others, placed, registers, selected}
use Rattle.parts.specs.Takes.{taken, taken_onto, touched}
use Rattle.rules.specs.Codes.{code_at, none_stopped}
use Rattle.rules.specs.Going.{counters_hold, pointers_hold}
use Rattle.rules.specs.Maps.{end_holds, format_holds, map_at}
use Rattle.rules.specs.Operations.{draws, is_block, is_codes, is_fill, is_line, is_map, mode_of, source_is_colour, uses_mask, uses_pattern, uses_source}
use Rattle.rules.specs.Rules.{ends_hold, fields_hold, formats_hold, is_pattern, is_source, mixes_hold, start_refusal, used_maps}
use Rattle.rules.specs.Starts.{drawing_started, pointers_started}
use Rattle.moves.specs.Decoded.{course_of, sign_of, straight_of, travel_of}
use Rattle.moves.specs.Moves.{destination_by, line_error, line_moved, moved, moved_by, pen_gone, pen_stepped, pen_with, rises, source_by}
use Rattle.moves.specs.Steps.{line_step}
use Rattle.moves.specs.Turns.{circled_by, point_stepped, spot_stepped, turned_by}
use Rattle.places.specs.Decoded.{brush_of, edge_of, flow_of}
use Rattle.places.specs.Places.{column_of, in_mask, is_first, is_last, is_move, is_nulled, is_within, mask_x, mask_y, nulled_by, on_map, place_x}
use Rattle.position.specs.Drawn.{crossed, drawn, drawn_by, ink_of, is_foreground, mixed_pixel, picked}
use Rattle.position.specs.Fates.{destination_pixel, fate_of, is_compared, on_zero}
use Rattle.runs.specs.Runs.{after, begun, positioned, stepped}
use Rattle.coprocessor.specs.Fresh.{fresh_of, size_holds}
use Rattle.coprocessor.specs.Runs.{pen_of, ran_of, run_answer, run_memory, run_refusal, setup_of, with_pen}
use Rattle.coprocessor.specs.Valid.{goes_on, maps_reduced, reduced_of, start_refusal_of, valid_of}
use Rattle.coprocessor.specs.Writes.{settled_by, started, started_refusal, starts_by, stored, write_answer, write_refusal}
use Rattle.console.specs.Answers.{memory_after, outcome_of, run_told, told_of, write_told}
use Rattle.console.specs.Commands.{command_from, command_of, is_letter, line_command, run_from, run_of, write_from, write_of}
use Rattle.console.specs.Digits.{digit_of, digits, fitted, number_from, value, word_number}
use Rattle.console.specs.Texts.{answer_text, byte_text, bytes_text, decimal, hex_digit, memory_text, numbered, separator_of}
use Rattle.console.specs.Words.{is_blank, kept, line_words, split}
use Rattle.bench.specs.Printed.{byte_before, first_state, line_after, line_text, lines_of, printed, state_after, state_after_all, text_of_all}
use Rattle.bench.specs.Sample.{sample_input, sample_output}

pub sample_printed : printed sample_input ≡ sample_output
unfolding number_of byte_of covers latched_bytes latched forth residue circle field with_field bits_of start_of place_of shift_of needed_of byte_at pixel_at
    with_pixel holds_of condition_holds table_bit logical merged mixed touched taken map_reduced term_reduced terms_reduced point_reduced
    destination_reduced spot_reduced registers among listed placed counters_hold pointers_hold map_at format_holds end_holds is_map is_line is_codes
    is_block draws source_is_colour uses_source uses_pattern uses_mask is_source is_pattern fields_hold mixes_hold used_maps formats_hold ends_hold
    start_refusal code_at drawing_started sign_of straight_of course_of flow_of source_by destination_by pen_stepped pen_with pen_gone line_error line_moved moved_by
    moved line_step turned_by circled_by point_stepped spot_stepped is_foreground ink_of picked mixed_pixel drawn_by drawn destination_pixel on_zero
    is_compared fate_of is_within column_of on_map mask_x mask_y in_mask is_move is_first is_last nulled_by is_nulled begun positioned stepped after
    size_holds fresh_of setup_of pen_of with_pen ran_of run_refusal run_answer run_memory start_refusal_of maps_reduced pointers_reduced reduced_of goes_on
    valid_of stored starts_by started started_refusal write_refusal settled_by write_answer is_blank kept split line_words digit_of digits value
    fitted number_from word_number is_letter write_of run_of write_from run_from command_from command_of line_command decimal numbered answer_text hex_digit
    separator_of byte_text bytes_text memory_text outcome_of write_told run_told told_of memory_after byte_before lines_of line_after state_after line_text
    state_after_all text_of_all first_state printed sample_input sample_output with_inside is_fill mode_of edge_of rises place_x crossed taken_onto
    map_latched terms_latched ink_latched compare_latched point_latched spot_latched colours_latched figure_latched pointers_latched registers_latched
    colours_reduced figure_reduced registers_reduced selected others fresh_registers with_moved none_stopped pointers_started travel_of brush_of depth_of
sample_printed = refl
