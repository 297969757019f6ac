-- How the code asks it: what functions inside promise and ask of each other, proved from the rules; nothing here has to be believed.
use Rattle.std.specs.Prelude.{◌≡◌, Bool, true, false, not, List, ℕ, ◌<◌, Result, Ok, Err}
use Rattle.numbers.specs.Choose.{choose}
use Rattle.pixels.specs.Inner.{cell_at}
use Rattle.mixes.specs.declared.Depth.{Depth}
use Rattle.mixes.specs.declared.logical.Blend.{Blend}
use Rattle.mixes.specs.Mixes.{mixed}
use Rattle.mixes.specs.Inner.{Cut, blended}
use Rattle.parts.specs.declared.shapes.Ink.{Ink}
use Rattle.rules.specs.Maps.{end_holds}
use Rattle.moves.specs.declared.Pen.{Pen}
use Rattle.moves.specs.Inner.{pointers_inside}
use Rattle.places.specs.declared.MaskMode.TheVariants.{Enabled}
use Rattle.places.specs.declared.Brush.{Brush}
use Rattle.places.specs.declared.Setup.{Setup}
use Rattle.places.specs.Places.{column_of, place_x, on_map, named_mask, in_mask, is_move, is_nulled}
use Rattle.position.specs.declared.Fate.{Fate}
use Rattle.position.specs.declared.Fate.TheVariants.{Moved, Nulled, OutsideMap, OutsideMask, MaskZero, Compared, Painted}
use Rattle.position.specs.declared.Blends.{Blends}
use Rattle.position.specs.declared.Pattern.{Pattern}
use Rattle.position.specs.declared.Target.{Target}
use Rattle.position.specs.declared.Sight.{Sight}
use Rattle.position.specs.Fates.{destination_pixel, is_compared, fate_of}
use Rattle.position.specs.Drawn.{source_pixel, is_one, inside_at}
use Rattle.position.specs.Within.{reads_source}

-- whether a fate writes
abbrev pub is_painted : Fate → Bool
is_painted Moved = false
is_painted Nulled = false
is_painted OutsideMap = false
is_painted OutsideMask = false
is_painted MaskZero = false
is_painted Compared = false
is_painted Painted = true

-- the pattern as it is read: its map's pixel, in a fill whether that is inside then, and 1 where the map is not used
unfoldable pub pattern_read : Setup → List ℕ → Pen → Pattern
pattern_read s memory pen =
    record {
      one = choose s.travel.pattern.used (choose s.brush.flow.fills (inside_at s memory pen) (is_one s.travel memory pen)) true;
      inside = inside_at s memory pen;
    }

-- the source pixel as it is read, 0 where it is not
unfoldable pub source_read : Setup → List ℕ → Pen → ℕ
source_read s memory pen = choose (reads_source s.brush.flow) (source_pixel s.travel memory pen) 0

-- what keeps a position back, as far as no memory tells
unfoldable pub foreseen_of : Setup → Pen → Result Unit Fate
foreseen_of s pen =
    choose (is_move s.travel pen.drawing) (Err Moved)
    (choose (is_nulled s pen) (Err Nulled)
    (choose (not (on_map s.brush pen)) (Err OutsideMap)
    (choose (not (in_mask s.brush pen)) (Err OutsideMask)
    (Ok tt))))

-- this is what a position finds of its destination and its source, where the compare condition alone may still keep it back
pub record Aimed (s : Setup) (memory : List ℕ) (pen : Pen) (t : Target) : Type 0 where
  pub on : on_map s.brush pen ≡ true
  pub inside : in_mask s.brush pen ≡ true
  pub fate : fate_of s memory pen ≡ choose (is_compared s.brush memory pen) Compared Painted
  pub cell : t.cell ≡ cell_at memory s.brush.destination (column_of (place_x s.brush pen)) (column_of pen.pointers.destination.y)
  pub pixel : t.pixel ≡ destination_pixel s.brush memory pen
  pub source : t.source ≡ source_read s memory pen

-- this is the target of a position in a memory, or the fate that keeps it back
abbrev pub Found : Setup → List ℕ → Pen → Result Target Fate → Type 0
Found s memory pen (Ok t) = Aimed s memory pen t
Found s memory pen (Err f) = (f ≡ fate_of s memory pen) × (is_painted f ≡ false)

-- this is what a position finds in a memory
pub record Seen (s : Setup) (memory : List ℕ) (pen : Pen) (sight : Sight) : Type 0 where
  pub pattern : sight.pattern ≡ pattern_read s memory pen
  pub target : Found s memory pen sight.target

-- a blend is an ink's: where its mix is logical, the blend makes that, of the source pixel where the ink takes it and otherwise of
-- its colour
abbrev pub InkBlend : Depth → Ink → Bool → Blend ℕ → Type 0
InkBlend depth ink takes blend =
    ink.mix < 16 → (s d : ℕ) → blended depth.bits blend s d ≡ mixed depth.bits ink.mix depth.planes (choose takes s ink.colour) d

-- the blends are those of the inks
abbrev pub InkBlends : Brush → Blends → Type 0
InkBlends b blends =
    (foreground : Bool)
    → InkBlend b.depth (choose foreground b.colours.foreground b.colours.background)
    (choose foreground b.flow.foreground b.flow.background) (choose foreground blends.foreground blends.background)

-- every used map ends within a memory of this size, and used source and pattern pointers lie in theirs: what every move keeps
pub record Safe (s : Setup) (size : ℕ) (pen : Pen) : Type 0 where
  pub destination : end_holds size s.brush.destination ≡ true
  pub mask : named_mask s.brush.mask.mode ≡ Enabled → end_holds size s.brush.mask.map ≡ true
  pub source : s.travel.source.used ≡ true → end_holds size s.travel.source.map ≡ true
  pub pattern : s.travel.pattern.used ≡ true → end_holds size s.travel.pattern.map ≡ true
  -- the source is read only where its map is used, and a fill uses a pattern map
  pub used : reads_source s.brush.flow ≡ true → s.travel.source.used ≡ true
  pub crossing : s.brush.flow.fills ≡ true → s.travel.pattern.used ≡ true
  -- pixels have at most 8 bits
  pub depth : Cut s.brush.depth
  pub pointers : pointers_inside s.travel pen ≡ true
