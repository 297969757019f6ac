-- The compare conditions.
use Rattle.std.specs.Prelude.{ℕ, Bool, true, false, not, [], ◌∷◌, get_or, leb, ltb, eqb}
use Rattle.mixes.specs.Mixes.{gathered}

-- 01, One position, conditions 0 to 7, of two numbers: always, D greater than, equal, less than the value, never, greater or equal, unequal, less or equal
unfoldable pub holds_of : (condition d v : ℕ) → Bool
holds_of condition d v =
    get_or (true ∷ ltb v d ∷ eqb d v ∷ ltb d v ∷ false ∷ leb v d ∷ not (eqb d v) ∷ leb d v ∷ []) condition false

-- docs/DIFFERENCES.md, D1: the condition is asked of the enabled bits alone, unsigned
unfoldable pub condition_holds : (n condition m d v : ℕ) → Bool
condition_holds n condition m d v = holds_of condition (gathered n m d) (gathered n m v)
