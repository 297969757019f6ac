-- Worked examples of one position, each shown by computing it.
use mathlib.Core.Path.{◌≡◌, refl}
use mathlib.Core.Bool.{Bool, true, false}
use mathlib.Core.List.{List, [], ◌∷◌}
use Prim.Native.Nat.{ℕ}
use lib.IntN.{ℤ, pos, negsuc}
use Rattle.numbers.specs.Fields.{field, with_field}
use Rattle.numbers.specs.Bytes.{byte_of}
use Rattle.pixels.specs.declared.Map.{Map}
use Rattle.pixels.specs.Maps.{bits_of, start_of, place_of, shift_of}
use Rattle.pixels.specs.Pixels.{byte_at, pixel_at, with_pixel}
use Rattle.mixes.specs.Mixes.{table_bit, logical, gathered, merged, mixed}
use Rattle.mixes.specs.Conditions.{holds_of, condition_holds}
use Rattle.parts.specs.declared.drawing.Drawing.{Drawing}
use Rattle.parts.specs.declared.drawing.Drawing.TheVariants.{Line, Codes}
use Rattle.rules.specs.Codes.{code_at}
use Rattle.moves.specs.declared.Turn.TheVariants.{Stay, Forth}
use Rattle.moves.specs.declared.Pen.{Pen}
use Rattle.places.specs.declared.Setup.{Setup}
use Rattle.places.specs.Places.{is_within, column_of, place_x, on_map, mask_x, mask_y, in_mask, is_move, is_first, is_last, nulled_by, is_nulled}
use Rattle.position.specs.Fates.{destination_pixel, on_zero, is_compared, fate_of}
use Rattle.position.specs.Drawn.{source_pixel, is_one, is_foreground, ink_of, picked, mixed_pixel, drawn_by, drawn}

-- a row of eight bytes, all 0
abbrev zeros : List ℕ
zeros = 0 ∷ 0 ∷ 0 ∷ 0 ∷ 0 ∷ 0 ∷ 0 ∷ 0 ∷ []

abbrev row : Map
row = record { base = 0; width = 7; height = 0; format = 3 }

-- AA hex is drawn into the row where the pattern is 1, and BB hex where it is 0; the mask is two pixels wide, from column 2 on
abbrev setup : (derived : Bool) (mask mode condition : ℕ) → Setup
setup derived mask mode condition =
    record {
      travel = record {
        course = record { x = Forth; y = Forth; straight = record { x = Forth; y = Stay }; read = false; inverts = false; bounds = false };
        source = record { used = derived; map = row };
        pattern = record { used = false; map = row };
        figure = record { operations = 0; steps = 0x20000000; dimensions = record { x = 0; y = 0 }; origin = record { x = 2; y = 0 } };
        k1 = pos 0;
        k2 = pos 0;
      };
      brush = record {
        destination = row;
        mask = record { mode = mask; map = record { base = 0; width = 1; height = 0; format = 0 }; origin = record { x = 2; y = 0 } };
        edge = negsuc 2047;
        flow = record { derived = derived; foreground = false; background = false; fills = false; mode = mode };
        colours = record {
          foreground = record { mix = 3; colour = 0xAA };
          background = record { mix = 3; colour = 0xBB };
          compare = record { condition = condition; value = 0 };
          planes = 0xFF;
          carries = 0;
        };
        depth = record { bits = 8; ones = 0xFF; planes = 0xFF };
      };
    }

-- at a column of the row, its source in column 0
abbrev pen_at : ℤ → Drawing → Pen
pen_at x drawing =
    record {
      pointers = record { source = record { x = 0; y = 0 }; pattern = record { x = 0; y = 0 }; destination = record { x = x; y = pos 0 } };
      e = pos 0;
      drawing = drawing;
    }

-- the row after a line's one position in each of these columns, in turn
abbrev drawn_in : Setup → List ℤ → List ℕ → List ℕ
drawn_in s [] memory = memory
drawn_in s (x ∷ columns) memory = drawn_in s columns (drawn s memory (pen_at x (Line false 0)))

-- ---- where nothing is written

-- 01, Cases, 5: dimension 0: one position; first null writes nothing, and neither does last null
pub case5 : (drawn_in (setup false 0 1 4) (pos 3 ∷ []) zeros ≡ zeros) × (drawn_in (setup false 0 2 4) (pos 3 ∷ []) zeros ≡ zeros)
unfolding is_move is_first is_last nulled_by is_nulled fate_of drawn_by drawn
case5 = (refl, refl)

-- 01, Cases, 8: code 20 hex: no write
pub case8 : drawn (setup false 0 0 4) zeros (pen_at (pos 3) (Codes 1 0 0)) ≡ zeros
unfolding byte_of code_at is_move fate_of drawn_by drawn
case8 = refl

-- 01, Cases, 11: mask origin X 2, width register 1: columns 2 and 3 only
pub case11 : drawn_in (setup false 1 0 4) (pos 1 ∷ pos 2 ∷ pos 3 ∷ pos 4 ∷ []) zeros ≡ 0 ∷ 0 ∷ 0xAA ∷ 0xAA ∷ 0 ∷ 0 ∷ 0 ∷ 0 ∷ []
unfolding field with_field bits_of start_of place_of shift_of byte_at pixel_at with_pixel table_bit logical gathered merged mixed holds_of condition_holds
    is_within column_of place_x on_map mask_x mask_y in_mask is_move is_first is_last nulled_by is_nulled destination_pixel on_zero is_compared fate_of source_pixel
    is_one is_foreground ink_of picked mixed_pixel drawn_by drawn
case11 = refl

-- the map's edges are inside, and the destination is not tiled
pub edges : drawn_in (setup false 0 0 4) (negsuc 0 ∷ pos 0 ∷ pos 7 ∷ pos 8 ∷ []) zeros ≡ 0xAA ∷ 0 ∷ 0 ∷ 0 ∷ 0 ∷ 0 ∷ 0 ∷ 0xAA ∷ []
unfolding field with_field bits_of start_of place_of shift_of byte_at pixel_at with_pixel table_bit logical gathered merged mixed holds_of condition_holds
    is_within column_of place_x on_map mask_x mask_y in_mask is_move is_first is_last nulled_by is_nulled destination_pixel on_zero is_compared fate_of source_pixel
    is_one is_foreground ink_of picked mixed_pixel drawn_by drawn
edges = refl

-- condition 0 is always true
pub compared : drawn_in (setup false 0 0 0) (pos 3 ∷ []) zeros ≡ zeros
unfolding field with_field bits_of start_of place_of shift_of byte_at pixel_at with_pixel table_bit logical gathered merged mixed holds_of condition_holds
    is_within column_of place_x on_map mask_x mask_y in_mask is_move is_first is_last nulled_by is_nulled destination_pixel on_zero is_compared fate_of source_pixel
    is_one is_foreground ink_of picked mixed_pixel drawn_by drawn
compared = refl

-- ---- what the pattern picks

-- code 9 is 1 where the source pixel, here column 0, is not 0
pub derived : (drawn_in (setup true 0 0 4) (pos 3 ∷ []) zeros ≡ 0 ∷ 0 ∷ 0 ∷ 0xBB ∷ 0 ∷ 0 ∷ 0 ∷ 0 ∷ [])
    × (drawn_in (setup true 0 0 4) (pos 3 ∷ []) (7 ∷ 0 ∷ 0 ∷ 0 ∷ 0 ∷ 0 ∷ 0 ∷ 0 ∷ []) ≡ 7 ∷ 0 ∷ 0 ∷ 0xAA ∷ 0 ∷ 0 ∷ 0 ∷ 0 ∷ [])
unfolding field with_field bits_of start_of place_of shift_of byte_at pixel_at with_pixel table_bit logical gathered merged mixed holds_of condition_holds
    is_within column_of place_x on_map mask_x mask_y in_mask is_move is_first is_last nulled_by is_nulled destination_pixel on_zero is_compared fate_of source_pixel
    is_one is_foreground ink_of picked mixed_pixel drawn_by drawn
derived = (refl, refl)
