-- The start rules: refusals 5 to 8, on the registers as they are after the write.
use Rattle.std.specs.Prelude.{ℕ, ◌/◌, ◌%◌, Bool, not, ◌&&◌, ◌||◌, List, leb, eqb, Result, Ok, Err}
use Rattle.numbers.specs.Choose.{choose}
use Rattle.pixels.specs.declared.Map.{Map}
use Rattle.pixels.specs.Maps.{bits_of}
use Rattle.parts.specs.declared.shapes.Colours.{Colours}
use Rattle.parts.specs.declared.shapes.Registers.{Registers}
use Rattle.parts.specs.declared.refusals.Refusal.{Refusal}
use Rattle.parts.specs.declared.refusals.Refusal.TheVariants.{Fields, Mixes, Formats, Ends}
use Rattle.rules.specs.Operations.{background_source, foreground_source, source_field, destination_field, pattern_field, mask_mode, octant_of}
use Rattle.rules.specs.Operations.{is_map, is_fill, source_is_colour, uses_source, uses_pattern, uses_mask}
use Rattle.rules.specs.Maps.{map_at, format_holds, is_one_bit, end_holds}

-- 01, refusal 5: a source field is 00 or 10
unfoldable pub is_source : ℕ → Bool
is_source field = eqb field 0 || eqb field 2

-- 01, refusal 5: the pattern is 1 to 3, 8 or 9
unfoldable pub is_pattern : ℕ → Bool
is_pattern field = is_map field || eqb field 8 || eqb field 9

-- 02, 102: a fill's pattern is a map, and its X is not negative
unfoldable pub fill_holds : ℕ → Bool
fill_holds operations = uses_pattern operations && eqb (octant_of operations / 4 % 2) 0

-- 01, refusal 5; 02, 102
unfoldable pub fields_hold : ℕ → Bool
fields_hold operations =
    is_source (foreground_source operations)
    && is_source (background_source operations)
    && is_map (destination_field operations)
    && is_pattern (pattern_field operations)
    && not (eqb (mask_mode operations) 3)
    && (not (uses_source operations) || is_map (source_field operations))
    && (not (is_fill operations) || fill_holds operations)

-- 01, refusal 6: neither mix above 15 hex
unfoldable pub mixes_hold : Colours → Bool
mixes_hold colours = leb colours.foreground.mix 0x15 && leb colours.background.mix 0x15

-- docs/DECISIONS.md, 3: what holds of every map that is used: the destination always, source, pattern and mask where they are used
unfoldable pub used_maps : (Map → Bool) → ℕ → List Map → Bool
used_maps holds operations maps =
    holds (map_at maps (destination_field operations))
    && (not (uses_source operations) || holds (map_at maps (source_field operations)))
    && (not (uses_pattern operations) || holds (map_at maps (pattern_field operations)))
    && (not (uses_mask operations) || holds (map_at maps 0))

-- 01, refusal 7
unfoldable pub formats_hold : ℕ → List Map → Bool
formats_hold operations maps =
    used_maps format_holds operations maps
    && (not (source_is_colour operations)
    || eqb (bits_of (map_at maps (source_field operations)).format) (bits_of (map_at maps (destination_field operations)).format))
    && (not (uses_pattern operations) || is_one_bit (map_at maps (pattern_field operations)))
    && (not (uses_mask operations) || is_one_bit (map_at maps 0))

-- 01, refusal 8
unfoldable pub ends_hold : ℕ → List Map → ℕ → Bool
ends_hold operations maps size = used_maps (end_holds size) operations maps

-- 01, refusals 5 to 8, the lowest first
unfoldable pub start_refusal : ℕ → List Map → Registers → Result Unit Refusal
start_refusal size maps r =
    choose (not (fields_hold r.figure.operations)) (Err Fields)
    (choose (not (mixes_hold r.colours)) (Err Mixes)
    (choose (not (formats_hold r.figure.operations maps)) (Err Formats)
    (choose (not (ends_hold r.figure.operations maps size)) (Err Ends)
    (Ok tt))))
