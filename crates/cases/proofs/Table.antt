-- The table of worked cases holds: each call is computed from what it promises.
use mathlib.Core.Path.{refl}
use Rattle.numbers.specs.Bytes.{byte_of, covers, latched, latched_bytes, le, number_of, part_of}
use Rattle.numbers.specs.Circles.{back, circle, forth, residue}
use Rattle.numbers.specs.Fields.{field, with_field}
use Rattle.mixes.specs.Conditions.{condition_holds, holds_of}
use Rattle.mixes.specs.Mixes.{arithmetic, depth_of, gathered, logical, merged, mixed, scattered, table_bit, worked}
use Rattle.pixels.specs.Maps.{bits_of, needed_of, place_of, shift_of, start_of}
use Rattle.pixels.specs.Pixels.{byte_at, pixel_at, with_pixel}
use Rattle.parts.specs.Drawings.{with_inside}
use Rattle.parts.specs.Fresh.{fresh_registers}
use Rattle.parts.specs.Latches.{colours_latched, compare_latched, figure_latched, ink_latched, map_latched, point_latched, pointers_latched, registers_latched}
use Rattle.parts.specs.Latches.{spot_latched, terms_latched}
use Rattle.parts.specs.Moved.{with_moved}
use Rattle.parts.specs.Reduced.{colours_reduced, destination_reduced, figure_reduced, map_reduced, point_reduced, pointers_reduced, registers_reduced}
use Rattle.parts.specs.Reduced.{spot_reduced, term_reduced, terms_reduced}
use Rattle.parts.specs.Registers.{among, listed, others, placed, registers, selected}
use Rattle.parts.specs.Takes.{taken, taken_onto, touched}
use Rattle.rules.specs.Codes.{code_at, none_stopped}
use Rattle.rules.specs.Going.{counters_hold, pointers_hold}
use Rattle.rules.specs.Maps.{end_holds, format_holds, is_inside, map_at}
use Rattle.rules.specs.Operations.{draws, is_block, is_codes, is_fill, is_line, is_map, mode_of, source_is_colour, uses_mask, uses_pattern, uses_source}
use Rattle.rules.specs.Rules.{ends_hold, fields_hold, formats_hold, is_pattern, is_source, mixes_hold, start_refusal, used_maps}
use Rattle.rules.specs.Starts.{drawing_started, pointers_started, turned}
use Rattle.moves.specs.Decoded.{course_of, sign_of, straight_of, travel_of}
use Rattle.moves.specs.Moves.{code_passed, codes_moved, destination_by, line_error, line_moved, moved, moved_by, pen_gone, pen_stepped, pen_with, rises}
use Rattle.moves.specs.Moves.{source_by}
use Rattle.moves.specs.Steps.{code_step, line_step}
use Rattle.moves.specs.Turns.{circled_by, point_stepped, spot_stepped, turned_by}
use Rattle.places.specs.Decoded.{brush_of, edge_of, flow_of}
use Rattle.places.specs.Places.{column_of, in_mask, is_first, is_last, is_move, is_nulled, is_within, mask_x, mask_y, nulled_by, on_map, place_x}
use Rattle.position.specs.Drawn.{crossed, drawn, drawn_by, ink_of, is_foreground, mixed_pixel, picked, source_pixel}
use Rattle.position.specs.Fates.{destination_pixel, fate_of, is_compared, on_zero}
use Rattle.runs.specs.Runs.{after, begun, positioned, stepped}
use Rattle.image.specs.Bank.{bank_of, laid_at, map_values, other_values, read_from, values_of}
use Rattle.image.specs.Counters.{counters_of}
use Rattle.coprocessor.specs.Fresh.{fresh_answer, fresh_of, size_holds}
use Rattle.coprocessor.specs.Reads.{read_answer, read_refusal, value_at}
use Rattle.coprocessor.specs.Runs.{pen_of, ran_of, run_answer, run_memory, run_refusal, setup_of, with_pen}
use Rattle.coprocessor.specs.Valid.{goes_on, maps_reduced, reduced_of, start_refusal_of, valid_of}
use Rattle.coprocessor.specs.Writes.{settled_by, started, started_refusal, starts_by, stored, write_answer, write_refusal}
use Rattle.cases.specs.Calls.{HoldFrom, Played, answers, played, same, written, zeros}
use Rattle.cases.specs.Cases.{based, case1, case10, case11, case12, case2, case3, case4, case5, case6, case7, case8, case9, cases, codes, dot}
use Rattle.cases.specs.Cases.{inked, mapped, mixes, rows, sample}

pub table : HoldFrom 1 cases
unfolding number_of byte_of part_of covers latched_bytes latched forth back residue circle field with_field bits_of start_of place_of shift_of needed_of byte_at
    pixel_at with_pixel holds_of condition_holds table_bit logical gathered scattered worked arithmetic merged mixed touched taken map_reduced
    term_reduced terms_reduced point_reduced destination_reduced spot_reduced registers among listed placed none_stopped counters_hold pointers_hold
    map_at format_holds end_holds is_inside is_map is_line is_codes is_block draws source_is_colour uses_source uses_pattern uses_mask is_source is_pattern
    fields_hold mixes_hold used_maps formats_hold ends_hold start_refusal turned code_at drawing_started sign_of straight_of course_of flow_of source_by destination_by
    pen_stepped pen_with pen_gone line_error line_moved code_passed codes_moved moved_by moved line_step code_step turned_by circled_by point_stepped
    spot_stepped source_pixel is_foreground ink_of picked mixed_pixel drawn_by drawn destination_pixel on_zero is_compared fate_of is_within column_of on_map
    mask_x mask_y in_mask is_move is_first is_last nulled_by is_nulled begun positioned stepped after size_holds fresh_of fresh_answer setup_of pen_of
    with_pen ran_of run_refusal run_answer run_memory start_refusal_of maps_reduced pointers_reduced reduced_of goes_on valid_of stored starts_by started
    started_refusal write_refusal settled_by write_answer same written answers played Played HoldFrom zeros mapped inked mixes dot rows codes based
    case1 case2 case3 case4 case5 case6 case7 case8 case9 case10 case11 case12 sample cases counters_of bank_of value_at read_refusal read_answer
    with_inside is_fill mode_of edge_of rises place_x crossed taken_onto map_latched terms_latched ink_latched compare_latched point_latched spot_latched
    colours_latched figure_latched pointers_latched registers_latched colours_reduced figure_reduced registers_reduced selected others fresh_registers
    with_moved pointers_started travel_of brush_of depth_of map_values other_values values_of laid_at read_from le
table = (refl, ((refl, (refl, (refl, tt))), (refl, ((refl, (refl, (refl, tt))), (refl, ((refl, tt), (refl, ((refl, tt), (refl, ((refl, (refl, tt)), (refl, ((refl, tt), (refl, ((refl, tt), (refl, ((refl, tt), (refl, ((refl, tt), (refl, ((refl, tt), (refl, ((refl, tt), (refl, ((refl, (refl, tt)), (refl, ((refl, tt), tt))))))))))))))))))))))))))
