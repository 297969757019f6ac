-- Worked examples of starts, each shown by computing it.
use Rattle.std.proofs.Common.{Result, Ok, Err}
use mathlib.Core.Path.{◌≡◌, refl}
use mathlib.Core.Bool.{true}
use mathlib.Core.List.{[], ◌∷◌}
use Prim.Native.Nat.{ℕ}
use Rattle.numbers.specs.Bytes.{byte_of}
use Rattle.pixels.specs.Maps.{bits_of, needed_of}
use Rattle.parts.specs.declared.shapes.Point.{Point}
use Rattle.parts.specs.declared.shapes.Figure.{Figure}
use Rattle.parts.specs.declared.shapes.Registers.{Registers}
use Rattle.parts.specs.Fresh.{no_ink, no_point, fresh_registers}
use Rattle.parts.specs.declared.refusals.Refusal.{Refusal}
use Rattle.parts.specs.declared.refusals.Refusal.TheVariants.{Fields, Mixes, Ends}
use Rattle.parts.specs.declared.drawing.Drawing.TheVariants.{Nothing, Codes}
use Rattle.rules.specs.Operations.{is_map, is_line, is_fill, is_block, source_is_colour, uses_source, uses_pattern, uses_mask}
use Rattle.rules.specs.Maps.{is_one_bit, fresh_map, map_at, format_holds, end_holds}
use Rattle.rules.specs.Rules.{is_source, is_pattern, fill_holds, fields_hold, mixes_hold, used_maps, formats_hold, ends_hold, start_refusal}
use Rattle.rules.specs.Codes.{code_at, codes_from}
use Rattle.rules.specs.Starts.{turned, drawing_started}
use Rattle.rules.specs.Totals.{total_of}

-- ---- refusals

-- these operations and steps, and dimensions 0
abbrev figure : (operations steps : ℕ) → Figure
figure operations steps = record { operations = operations; steps = steps; dimensions = no_point; origin = no_point }

-- these operations and this foreground mix, and all else zero
abbrev registers : (operations mix : ℕ) → Registers
registers operations mix =
    record {
      index = 0;
      terms = fresh_registers.terms;
      colours =
          record {
            foreground = record { mix = mix; colour = 0 };
            background = no_ink;
            compare = record { condition = 0; value = 0 };
            planes = 0;
            carries = 0;
          };
      figure = figure operations 0;
      pointers = fresh_registers.pointers;
    }

-- a start of these operations with this foreground mix, where map A has 8 by 8 bytes from this base on in a memory of 64
abbrev answer : (operations mix base : ℕ) → Result Unit Refusal
answer operations mix base =
    start_refusal 64 (fresh_map ∷ record { base = base; width = 7; height = 7; format = 3 } ∷ fresh_map ∷ fresh_map ∷ []) (registers operations mix)

-- 01, Cases, 12: at base 0 accepted, at base 1 refusal 8
pub case12 : (answer 0x05018000 3 0 ≡ Ok tt) × (answer 0x05018000 3 1 ≡ Err Ends)
unfolding bits_of needed_of is_map is_fill source_is_colour uses_source uses_pattern uses_mask map_at format_holds end_holds is_source is_pattern fields_hold
    mixes_hold used_maps formats_hold ends_hold start_refusal
case12 = (refl, refl)

-- destination code 0 is no map; mix 16 hex is none; of both, and an end beyond the memory, the lowest is given
pub lowest : (answer 0x05008000 3 0 ≡ Err Fields) × (answer 0x05018000 0x16 0 ≡ Err Mixes) × (answer 0x05008000 0x16 1 ≡ Err Fields)
unfolding is_map is_fill source_is_colour uses_source is_source is_pattern fields_hold mixes_hold start_refusal
lowest = (refl, refl, refl)

-- 02, 102: drawing mode 11 is taken for a line, and ignored for a block
pub boundary : (answer 0x05018030 3 0 ≡ Ok tt) × (answer 0x08018030 3 0 ≡ Ok tt)
unfolding bits_of needed_of is_map is_fill source_is_colour uses_source uses_pattern uses_mask map_at format_holds end_holds is_source is_pattern fields_hold
    mixes_hold used_maps formats_hold ends_hold start_refusal
boundary = (refl, refl)

-- 02, 102: a fill to the left, and one whose pattern is no map, are refused; up or down it is taken
pub fill : (answer 0x0A012004 3 0 ≡ Err Fields) × (answer 0x0A018000 3 0 ≡ Err Fields)
    × (answer 0x0A012000 3 0 ≡ Ok tt) × (answer 0x0A012002 3 0 ≡ Ok tt)
unfolding bits_of needed_of is_map is_fill source_is_colour uses_source uses_pattern uses_mask map_at format_holds is_one_bit end_holds is_source is_pattern fill_holds
    fields_hold mixes_hold used_maps formats_hold ends_hold start_refusal
fill = (refl, refl, refl, refl)

-- ---- drawings and pointers

abbrev point : ℕ → Point ℕ
point x = record { x = x; y = 0 }

-- the positions that a start by codes has, with these steps in a write of this length
abbrev positions : (steps length : ℕ) → ℕ
positions steps length = total_of (figure 0x04018000 steps) (drawing_started (figure 0x04018000 steps) length)

-- 01, Cases, 5: dimension 0 has one position
pub case5 : total_of (figure 0x05018000 0) (drawing_started (figure 0x05018000 0) 4) ≡ 1
unfolding is_line drawing_started total_of
case5 = refl

-- 01, Cases, 6 and 7: code 35 hex has six positions, alone or before a 00
pub case6_7 : (positions 0x35000000 1 ≡ 6) × (positions 0xFFFF0035 4 ≡ 6)
unfolding byte_of is_line is_fill is_block code_at drawing_started codes_from total_of
case6_7 = (refl, refl)

-- 01, Cases, 8: code 20 hex is no stop, and has one position
pub case8 : (drawing_started (figure 0x04018000 0x20000000) 1 ≡ Codes 1 0 0) × (positions 0x20000000 1 ≡ 1)
unfolding byte_of is_line is_fill is_block code_at drawing_started codes_from total_of
case8 = (refl, refl)

-- a first code 00 ends at once, flagged
pub stopped : drawing_started (figure 0x04018000 0x35353500) 4 ≡ Nothing true
unfolding byte_of is_line is_fill is_block code_at drawing_started
stopped = refl

-- 01, Cases, 10: in a map of width register 2, X 3 is turned to 0
pub case10 : turned (record { base = 0; width = 2; height = 0; format = 0 }) (point 3) ≡ point 0
unfolding turned
case10 = refl
