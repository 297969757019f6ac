-- What the fields of an image mean, each read at its place.
use Rattle.std.specs.Prelude.{ℤ, ℕ, List, [], ◌∷◌}
use Rattle.std.specs.Int.{w16, w32}
use Rattle.std.proofs.Common.{to_z}
use Rattle.pixels.specs.declared.Map.{Map}
use Rattle.parts.specs.declared.shapes.Terms.{Terms}
use Rattle.parts.specs.declared.shapes.Ink.{Ink}
use Rattle.parts.specs.declared.shapes.Point.{Point}
use Rattle.parts.specs.declared.shapes.Colours.{Colours}
use Rattle.parts.specs.declared.shapes.Figure.{Figure}
use Rattle.parts.specs.declared.shapes.Pointers.{Pointers}
use Rattle.parts.specs.declared.shapes.Registers.{Registers}
use Rattle.parts.specs.Registers as table
use Rattle.parts.specs.Registers.{Register}
use Rattle.image.specs.declared.counters.Counters.{Counters}
use Rattle.image.specs.Layout as layout
use Rattle.image.specs.Layout.{field_at}

-- 01, State image: 9 state, 10 positions done, 12 rows or codes done, 14 codes
unfoldable pub counters_from : List ℕ → Counters
counters_from b =
    record {
      state = field_at layout.state b;
      done = field_at layout.done b;
      passed = field_at layout.passed b;
      count = field_at layout.count b;
    }

-- 01, State image: a map of nine bytes: base, width, height, format
unfoldable pub map_from : ℕ → List ℕ → Map
map_from k b =
    record {
      base = field_at (layout.map_base k) b;
      width = field_at (layout.map_width k) b;
      height = field_at (layout.map_height k) b;
      format = field_at (layout.map_format k) b;
    }

-- 01, State image: 16 maps M, A, B, C
unfoldable pub maps_from : List ℕ → List Map
maps_from b = map_from 0 b ∷ map_from 1 b ∷ map_from 2 b ∷ map_from 3 b ∷ []

-- 01, State image: the number of a register
abbrev pub value_from : Register → List ℕ → ℕ
value_from r b = field_at (layout.register r) b

-- 01, State image: E, K1 and K2, signed, of four bytes each
unfoldable pub terms_from : List ℕ → Terms
terms_from b =
    record {
      e = to_z w32 (value_from table.error_term b);
      k1 = to_z w32 (value_from table.first_constant b);
      k2 = to_z w32 (value_from table.second_constant b);
    }

-- 01, State image: a mix and its colour
unfoldable pub ink_from : (mix colour : Register) → List ℕ → Ink
ink_from mix colour b = record { mix = value_from mix b; colour = value_from colour b }

-- 01, State image: mixes, colours, compare and the masks
unfoldable pub colours_from : List ℕ → Colours
colours_from b =
    record {
      foreground = ink_from table.foreground_mix table.foreground_colour b;
      background = ink_from table.background_mix table.background_colour b;
      compare = record { condition = value_from table.compare_condition b; value = value_from table.compare_value b };
      planes = value_from table.plane_mask b;
      carries = value_from table.carry_mask b;
    }

-- 01, State image: two registers of a pair
unfoldable pub point_from : (x y : Register) → List ℕ → Point ℕ
point_from x y b = record { x = value_from x b; y = value_from y b }

-- 01, State image: pixel operations, steps, dimensions and mask origin
unfoldable pub figure_from : List ℕ → Figure
figure_from b =
    record {
      operations = value_from table.pixel_operations b;
      steps = value_from table.direction_steps b;
      dimensions = point_from table.dimension1 table.dimension2 b;
      origin = point_from table.origin_x table.origin_y b;
    }

-- 01, State image: destination X and Y, signed, of two bytes each
unfoldable pub spot_from : List ℕ → Point ℤ
spot_from b = record { x = to_z w16 (value_from table.destination_x b); y = to_z w16 (value_from table.destination_y b) }

-- 01, State image: source, pattern and destination pointers
unfoldable pub pointers_from : List ℕ → Pointers
pointers_from b =
    record {
      source = point_from table.source_x table.source_y b;
      pattern = point_from table.pattern_x table.pattern_y b;
      destination = spot_from b;
    }

-- 01, State image: every register but those of the maps
unfoldable pub registers_from : List ℕ → Registers
registers_from b =
    record {
      index = field_at layout.map_index b;
      terms = terms_from b;
      colours = colours_from b;
      figure = figure_from b;
      pointers = pointers_from b;
    }
