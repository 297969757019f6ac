-- The image as fields laid one after another, each at its place.
use Rattle.std.specs.Prelude.{ℕ, List, [], ◌∷◌, ◌++◌}
use Rattle.numbers.specs.Bytes.{le}
use Rattle.pixels.specs.declared.Map.{Map}
use Rattle.parts.specs.declared.shapes.Registers.{Registers}
use Rattle.parts.specs.declared.drawing.Drawing.{Drawing}
use Rattle.parts.specs.Registers.{Register, others}
use Rattle.rules.specs.Maps.{map_at}
use Rattle.image.specs.declared.counters.Counters.{Counters}
use Rattle.image.specs.Counters.{counters_of}
use Rattle.image.specs.Layout as layout
use Rattle.image.specs.Layout.{Place}
use Rattle.image.specs.Bank.{other_values}

-- 01, State image: so many bytes of a value, low byte first
pub record Field : Type 0 where
  pub bytes : ℕ
  pub value : ℕ

-- 01, State image: a place that holds a value
infix 60 ◌holds◌
abbrev pub ◌holds◌ : Place → ℕ → Field
p holds x = record { bytes = p.bytes; value = x }

-- 01, State image: the fields one after another
unfoldable pub laid : List Field → List ℕ
laid [] = []
laid (f ∷ fs) = le f.bytes f.value ++ laid fs

-- 01, State image: 9 state, 10 positions done, 12 rows or codes done, 14 codes
unfoldable pub counter_fields : Counters → List Field
counter_fields k =
    (layout.state holds k.state)
    ∷ (layout.done holds k.done)
    ∷ (layout.passed holds k.passed)
    ∷ (layout.count holds k.count)
    ∷ []

-- 01, State image: 0 mark XGS, 3 version, 5 size, 9 to 14 the drawing, 15 index
unfoldable pub head_fields : Counters → (size index : ℕ) → List Field
head_fields k size index =
    (layout.mark holds layout.the_mark)
    ∷ (layout.version holds layout.the_version)
    ∷ (layout.memory_size holds size)
    ∷ counter_fields k
    ++ (layout.map_index holds index)
    ∷ []

-- 01, State image: nine bytes for each map
unfoldable pub map_fields : ℕ → Map → List Field
map_fields k m =
    (layout.map_base k holds m.base)
    ∷ (layout.map_width k holds m.width)
    ∷ (layout.map_height k holds m.height)
    ∷ (layout.map_format k holds m.format)
    ∷ []

-- 01, State image: 16 maps M, A, B, C
unfoldable pub maps_fields : List Map → List Field
maps_fields maps =
    map_fields 0 (map_at maps 0) ++ map_fields 1 (map_at maps 1) ++ map_fields 2 (map_at maps 2) ++ map_fields 3 (map_at maps 3)

-- 01, State image: these registers with these values
unfoldable pub register_fields : List Register → List ℕ → List Field
register_fields [] values = []
register_fields (r ∷ rs) [] = []
register_fields (r ∷ rs) (x ∷ xs) = (layout.register r holds x) ∷ register_fields rs xs

-- 01, State image: the head, the maps, and from 52 on every other register
unfoldable pub fields_of : ℕ → List Map → Registers → Drawing → List Field
fields_of size maps r d =
    head_fields (counters_of d) size r.index ++ maps_fields maps ++ register_fields others (other_values r)
