-- What each group of registers is after a write, register by register.
use Rattle.std.specs.Prelude.{ℕ, ℤ}
use Rattle.numbers.specs.declared.bytes.Write.{Write}
use Rattle.pixels.specs.declared.Map.{Map}
use Rattle.parts.specs.declared.shapes.Terms.{Terms}
use Rattle.parts.specs.declared.shapes.Ink.{Ink}
use Rattle.parts.specs.declared.shapes.Compare.{Compare}
use Rattle.parts.specs.declared.shapes.Point.{Point}
use Rattle.parts.specs.declared.shapes.Colours.{Colours}
use Rattle.parts.specs.declared.shapes.Figure.{Figure}
use Rattle.parts.specs.declared.shapes.Pointers.{Pointers}
use Rattle.parts.specs.declared.shapes.Registers.{Registers}
use Rattle.parts.specs.Registers as table
use Rattle.parts.specs.Registers.{Register}
use Rattle.parts.specs.Takes.{taken, taken_onto}

-- 01, Registers: base, width, height and format of the selected map
unfoldable pub map_latched : Write → Map → Map
map_latched w m =
    record {
      base = taken table.map_base w m.base;
      width = taken table.map_width w m.width;
      height = taken table.map_height w m.height;
      format = taken table.map_format w m.format;
    }

-- 01, Registers: E, K1, K2
unfoldable pub terms_latched : Write → Terms → Terms
terms_latched w t =
    record {
      e = taken_onto table.error_term w t.e;
      k1 = taken_onto table.first_constant w t.k1;
      k2 = taken_onto table.second_constant w t.k2;
    }

-- 01, Registers: a mix and a colour
unfoldable pub ink_latched : (mix colour : Register) → Write → Ink → Ink
ink_latched mix colour w i = record { mix = taken mix w i.mix; colour = taken colour w i.colour }

-- 01, Registers: compare condition and compare value
unfoldable pub compare_latched : Write → Compare → Compare
compare_latched w c =
    record { condition = taken table.compare_condition w c.condition; value = taken table.compare_value w c.value }

-- 01, Registers: two registers of a pair
unfoldable pub point_latched : (x y : Register) → Write → Point ℕ → Point ℕ
point_latched x y w p = record { x = taken x w p.x; y = taken y w p.y }

-- 01, Registers: destination X and Y
unfoldable pub spot_latched : Write → Point ℤ → Point ℤ
spot_latched w s = record { x = taken_onto table.destination_x w s.x; y = taken_onto table.destination_y w s.y }

-- 01, Registers: mixes, colours, compare, plane mask and carry mask
unfoldable pub colours_latched : Write → Colours → Colours
colours_latched w c =
    record {
      foreground = ink_latched table.foreground_mix table.foreground_colour w c.foreground;
      background = ink_latched table.background_mix table.background_colour w c.background;
      compare = compare_latched w c.compare;
      planes = taken table.plane_mask w c.planes;
      carries = taken table.carry_mask w c.carries;
    }

-- 01, Registers: pixel operations, direction steps, dimensions, mask origin
unfoldable pub figure_latched : Write → Figure → Figure
figure_latched w f =
    record {
      operations = taken table.pixel_operations w f.operations;
      steps = taken table.direction_steps w f.steps;
      dimensions = point_latched table.dimension1 table.dimension2 w f.dimensions;
      origin = point_latched table.origin_x table.origin_y w f.origin;
    }

-- 01, Registers: source, pattern and destination pointers
unfoldable pub pointers_latched : Write → Pointers → Pointers
pointers_latched w p =
    record {
      source = point_latched table.source_x table.source_y w p.source;
      pattern = point_latched table.pattern_x table.pattern_y w p.pattern;
      destination = spot_latched w p.destination;
    }

-- 01, Registers: every register but those of the maps
unfoldable pub registers_latched : Write → Registers → Registers
registers_latched w r =
    record {
      index = taken table.map_index w r.index;
      terms = terms_latched w r.terms;
      colours = colours_latched w r.colours;
      figure = figure_latched w r.figure;
      pointers = pointers_latched w r.pointers;
    }
