-- Whether a drawing is in hand, and the bit of an area fill.
use Rattle.std.specs.Prelude.{Bool, true, false}
use Rattle.parts.specs.declared.drawing.Drawing.{Drawing}
use Rattle.parts.specs.declared.drawing.Drawing.TheVariants.{Nothing, Line, Codes, Block}

-- 01, refusal 2; docs/DECISIONS.md, 7: a drawing is unfinished when it is not nothing
abbrev pub unfinished : Drawing → Bool
unfinished (Nothing stopped) = false
unfinished (Line rose done) = true
unfinished (Codes count code done) = true
unfinished (Block inside column row) = true

-- 02, 102: whether a fill is inside
unfoldable pub inside_of : Drawing → Bool
inside_of (Nothing stopped) = false
inside_of (Line rose done) = false
inside_of (Codes count code done) = false
inside_of (Block inside column row) = inside

-- 02, 102: a fill that is inside or not; any other drawing stays
unfoldable pub with_inside : Bool → Drawing → Drawing
with_inside inside (Nothing stopped) = Nothing stopped
with_inside inside (Line rose done) = Line rose done
with_inside inside (Codes count code done) = Codes count code done
with_inside inside (Block before column row) = Block inside column row
