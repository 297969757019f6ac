-- The register bank as it reads back, byte by byte.
use Rattle.std.specs.Prelude.{ℕ, ◌^◌, List, [], ◌∷◌, ◌++◌, replicate, take, drop}
use Rattle.std.proofs.lemmas.List.Edits.{sets}
use Rattle.numbers.specs.Bytes.{le, number_of}
use Rattle.numbers.specs.Circles.{residue}
use Rattle.pixels.specs.declared.Map.{Map}
use Rattle.parts.specs.declared.shapes.Registers.{Registers}
use Rattle.parts.specs.Registers.{Register, registers}
use Rattle.rules.specs.Maps.{map_at}

-- 01, Registers: 12 to 1C: the map index, and the registers of the map that it selects
unfoldable pub map_values : ℕ → Map → List ℕ
map_values index m = index ∷ m.base ∷ m.width ∷ m.height ∷ m.format ∷ []

-- 01, Registers: what every other register reads back, in the table's order; negative ones read back sign-extended
unfoldable pub other_values : Registers → List ℕ
other_values r =
    residue (2 ^ 32) r.terms.e
    ∷ residue (2 ^ 32) r.terms.k1
    ∷ residue (2 ^ 32) r.terms.k2
    ∷ r.figure.steps
    ∷ r.colours.foreground.mix
    ∷ r.colours.background.mix
    ∷ r.colours.compare.condition
    ∷ r.colours.compare.value
    ∷ r.colours.planes
    ∷ r.colours.carries
    ∷ r.colours.foreground.colour
    ∷ r.colours.background.colour
    ∷ r.figure.dimensions.x
    ∷ r.figure.dimensions.y
    ∷ r.figure.origin.x
    ∷ r.figure.origin.y
    ∷ r.pointers.source.x
    ∷ r.pointers.source.y
    ∷ r.pointers.pattern.x
    ∷ r.pointers.pattern.y
    ∷ residue (2 ^ 16) r.pointers.destination.x
    ∷ residue (2 ^ 16) r.pointers.destination.y
    ∷ r.figure.operations
    ∷ []

-- 01, Registers: what every register of the table reads back
unfoldable pub values_of : List Map → Registers → List ℕ
values_of maps r = map_values r.index (map_at maps r.index) ++ other_values r

-- 01, Registers: each register's bytes from its offset on, least significant first
unfoldable pub laid_at : List Register → List ℕ → List ℕ → List ℕ
laid_at [] values bytes = bytes
laid_at (r ∷ rs) [] bytes = bytes
laid_at (r ∷ rs) (x ∷ xs) bytes = laid_at rs xs (sets bytes r.at (le r.bytes x))

-- 01, Registers: the bank from offset 0 to 7F hex, 0 where no register is listed
unfoldable pub bank_of : List Map → Registers → List ℕ
bank_of maps r = laid_at registers (values_of maps r) (replicate 128 0)

-- 01, Registers: what so many bytes from an offset on read, least significant first
unfoldable pub read_from : List ℕ → (offset length : ℕ) → ℕ
read_from bank offset length = number_of (take length (drop offset bank))
