-- How the code asks it: what functions inside promise each other, proved to be the same as the rules; nothing here has to be believed.
use Rattle.std.specs.Prelude.{ℤ, ℕ, ◌^◌, Bool, ◌&&◌, List, [], ◌∷◌, ◌++◌, eqb}
use Rattle.numbers.specs.Bytes.{le}
use Rattle.numbers.specs.Circles.{residue}
use Rattle.parts.specs.declared.shapes.Terms.{Terms}
use Rattle.parts.specs.declared.shapes.Point.{Point}
use Rattle.parts.specs.declared.shapes.Colours.{Colours}
use Rattle.parts.specs.declared.shapes.Registers.{Registers}
use Rattle.image.specs.declared.counters.Counters.{Counters}

-- the same counters
unfoldable pub same_counters : Counters → Counters → Bool
same_counters j k = eqb j.state k.state && eqb j.done k.done && eqb j.passed k.passed && eqb j.count k.count

-- the bytes of words, four each
unfoldable pub word_bytes : List ℕ → List ℕ
word_bytes [] = []
word_bytes (x ∷ xs) = le 4 x ++ word_bytes xs

-- the bytes of E, K1 and K2
unfoldable pub term_bytes : Terms → List ℕ
term_bytes t = le 4 (residue (2 ^ 32) t.e) ++ le 4 (residue (2 ^ 32) t.k1) ++ le 4 (residue (2 ^ 32) t.k2)

-- the bytes of the two mixes and the condition
unfoldable pub mix_bytes : Colours → List ℕ
mix_bytes c = le 1 c.foreground.mix ++ le 1 c.background.mix ++ le 1 c.compare.condition

-- the bytes of the compare value, the masks and the colours
unfoldable pub colour_bytes : Colours → List ℕ
colour_bytes c =
    le 4 c.compare.value ++ le 4 c.planes ++ le 4 c.carries ++ le 4 c.foreground.colour ++ le 4 c.background.colour

-- the bytes of a pair
unfoldable pub point_bytes : Point ℕ → List ℕ
point_bytes p = le 2 p.x ++ le 2 p.y

-- the bytes of the destination pointer
unfoldable pub spot_bytes : Point ℤ → List ℕ
spot_bytes s = le 2 (residue (2 ^ 16) s.x) ++ le 2 (residue (2 ^ 16) s.y)

-- the bytes of the registers 20 to 63 hex
unfoldable pub low_bytes : Registers → List ℕ
low_bytes r =
    term_bytes r.terms ++ le 4 r.figure.steps ++ mix_bytes r.colours ++ colour_bytes r.colours ++ point_bytes r.figure.dimensions

-- the bytes of the registers 6C to 7F hex
unfoldable pub high_bytes : Registers → List ℕ
high_bytes r =
    point_bytes r.figure.origin
    ++ point_bytes r.pointers.source
    ++ point_bytes r.pointers.pattern
    ++ spot_bytes r.pointers.destination
    ++ le 4 r.figure.operations
