-- Whether a group is as its reductions leave it.
use Rattle.std.specs.Prelude.{ℕ, ◌-◌, ◌^◌, Bool, true, ◌&&◌, ltb, ℤ, pos, negsuc}
use Rattle.std.specs.Int.Signed.{le_z, lt_z}
use Rattle.pixels.specs.declared.Map.{Map}
use Rattle.parts.specs.declared.shapes.Terms.{Terms}
use Rattle.parts.specs.declared.shapes.Point.{Point}
use Rattle.parts.specs.declared.shapes.Colours.{Colours}
use Rattle.parts.specs.declared.shapes.Figure.{Figure}
use Rattle.parts.specs.declared.shapes.Pointers.{Pointers}
use Rattle.parts.specs.declared.shapes.Registers.{Registers}
use Rattle.parts.specs.Registers as table
use Rattle.parts.specs.Registers.{Reduction, Whole, Low, Circle, Register}

-- 01, Registers: a number that its reduction leaves as it is
abbrev pub fits_by : Reduction → ℕ → Bool
fits_by Whole x = true
fits_by (Low bits) x = ltb x (2 ^ bits)
fits_by (Circle low size) x = true

-- 01, Registers: a signed number that its reduction leaves as it is
abbrev pub lies_by : Reduction → ℤ → Bool
lies_by Whole z = true
lies_by (Low bits) z = true
lies_by (Circle low size) z = le_z (negsuc (low - 1)) z && lt_z z (pos (size - low))

-- 01, State image: the reduction of a register holds
abbrev pub fits : Register → ℕ → Bool
fits r x = fits_by r.reduction x

-- 01, State image: the reduction of a signed register holds
abbrev pub lies : Register → ℤ → Bool
lies r z = lies_by r.reduction z

-- 01, Registers: width and height have 12 bits, the format 4
unfoldable pub map_reduced : Map → Bool
map_reduced m = fits table.map_width m.width && fits table.map_height m.height && fits table.map_format m.format

-- 01, Registers: -8,192 to 8,191
unfoldable pub term_reduced : ℤ → Bool
term_reduced z = lies (table.term 0) z

-- 01, Registers: E, K1 and K2
unfoldable pub terms_reduced : Terms → Bool
terms_reduced t = term_reduced t.e && term_reduced t.k1 && term_reduced t.k2

-- 01, Registers: the condition has 3 bits
unfoldable pub colours_reduced : Colours → Bool
colours_reduced c = fits table.compare_condition c.compare.condition

-- 01, Registers: dimensions, mask origin, source and pattern pointers have 12 bits
unfoldable pub point_reduced : Point ℕ → Bool
point_reduced p = fits (table.twelve 0) p.x && fits (table.twelve 0) p.y

-- 01, Registers: dimensions and mask origin
unfoldable pub figure_reduced : Figure → Bool
figure_reduced f = point_reduced f.dimensions && point_reduced f.origin

-- 01, Registers: -2,048 to 6,143
unfoldable pub destination_reduced : ℤ → Bool
destination_reduced z = lies (table.coordinate 0) z

-- 01, Registers: destination X and Y
unfoldable pub spot_reduced : Point ℤ → Bool
spot_reduced s = destination_reduced s.x && destination_reduced s.y

-- 01, Registers: source and pattern pointers of 12 bits, destination pointers on their circle
unfoldable pub pointers_reduced : Pointers → Bool
pointers_reduced p = point_reduced p.source && point_reduced p.pattern && spot_reduced p.destination

-- 01, State image: the reduction of every register but those of the maps
unfoldable pub registers_reduced : Registers → Bool
registers_reduced r =
    fits table.map_index r.index
    && terms_reduced r.terms
    && colours_reduced r.colours
    && figure_reduced r.figure
    && pointers_reduced r.pointers
