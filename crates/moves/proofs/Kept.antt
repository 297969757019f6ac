-- What a step, a row's end and a passage keep, each move keeps: used pointers stay inside their maps, the destination and E on their circles.
use mathlib.Core.Path.{◌≡◌, refl}
use mathlib.Core.Bool.{Bool, true, false, not, ◌||◌}
use mathlib.Core.Logic.{◌⊎◌, ⊎_elim, inl, inr}
use Prim.Native.Nat.{ℕ, ◌%◌}
use lib.Dec.{lit<}
use lib.IntN.{ℤ, pos, ◌+ℤ◌}
use lib.Signed.{lt_z}
use borrow.Author.Tests.{le-leb}
use Rattle.numbers.specs.Choose.{choose}
use Rattle.numbers.specs.Circles.{circle}
use Rattle.numbers.proofs.CircleLaws.{circle_circle}
use Rattle.numbers.proofs.Choices.{by_test, by_lt, asked, and_left, and_right, and_both}
use Rattle.pixels.specs.declared.Map.{Map}
use Rattle.parts.specs.declared.shapes.Point.{Point}
use Rattle.parts.specs.declared.drawing.Drawing.{Drawing}
use Rattle.parts.specs.declared.drawing.Drawing.TheVariants.{Nothing, Line, Codes, Block}
use Rattle.rules.specs.Maps.{is_inside}
use Rattle.rules.specs.Codes.{code_at}
use Rattle.rules.proofs.PointerLaws.{inside_x, inside_y}
use Rattle.moves.specs.declared.Turn.{Turn}
use Rattle.moves.specs.declared.Travel.{Travel}
use Rattle.moves.specs.declared.Pen.{Pen}
use Rattle.moves.specs.Turns.{turned_by, point_stepped, spot_stepped}
use Rattle.moves.specs.Moves.{pen_stepped, pen_with, pen_gone, line_error, line_moved, codes_moved}
use Rattle.moves.specs.Moves.{column_passed, row_point, row_spot, row_passed, block_moved, moved_by, moved}
use Rattle.moves.specs.Inner.{pointers_inside}
use Rattle.moves.proofs.TurnLaws.{turned_in}
use Rattle.moves.proofs.CircledLaws.{OnCircle, circled_on}

-- ---- what each kind of move keeps

module _ (s : Travel) (P : Pen → Type 0)
    (step : (from to : Point Turn) (e : ℤ) (d : Drawing) (pen : Pen) → (e ≡ pen.e) ⊎ (e ≡ line_error s pen.e) → P pen → P (pen_stepped s from to e d pen))
    (row : (d : Drawing) (pen : Pen) → P pen → P (row_passed s d pen))
    (pass : (d : Drawing) (pen : Pen) → P pen → P (pen_with d pen)) where
  pub kept : (pen : Pen) → P pen → P (moved s pen)
  unfolding moved moved_by line_moved codes_moved block_moved pen_gone column_passed
  kept pen h = by pen.drawing
    where
      by : (d : Drawing) → P (moved_by s d pen)
      by (Nothing stopped) = h
      by (Line rose done) = by_lt P done s.figure.dimensions.x (λ less. step _ _ _ _ pen (inr refl) h) (λ more. pass _ pen h)
      by (Codes count code done) =
          by_lt P done (code_at s.figure.steps count code % 16) (λ less. step _ _ _ _ pen (inl refl) h) (λ more. pass _ pen h)
      by (Block inside column across) = by_lt P column s.figure.dimensions.x (λ less. step _ _ _ _ pen (inl refl) h) (λ more. row _ pen h)

-- ---- pointers inside their maps

pub turned_inside : (map : Map) (t u : Turn) (j k : ℕ) (p : Point ℕ) → is_inside map p ≡ true
    → is_inside map (record { x = turned_by t j map.width p.x; y = turned_by u k map.height p.y }) ≡ true
unfolding is_inside
turned_inside map t u j k p h =
    let right = le-leb (turned_by t j map.width p.x) map.width (turned_in map.width t j p.x (inside_x map p h)) in
    let below = le-leb (turned_by u k map.height p.y) map.height (turned_in map.height u k p.y (inside_y map p h)) in
    search and_both

-- a used pointer turns, and an unused one stays
used_inside : (used : Bool) (map : Map) (t u : Turn) (j k : ℕ) (p : Point ℕ) → is_inside map p ≡ true
    → is_inside map (choose used (record { x = turned_by t j map.width p.x; y = turned_by u k map.height p.y }) p) ≡ true
used_inside used map t u j k p h =
    by_test (λ (q : Point ℕ). is_inside map q ≡ true) used (λ yes. turned_inside map t u j k p h) (λ no. h)

pub source_inside : (s : Travel) (pen : Pen) → is_inside s.source.map pen.pointers.source ≡ true
    → is_inside s.source.map (moved s pen).pointers.source ≡ true
unfolding pen_stepped pen_with row_passed point_stepped row_point
source_inside s =
    kept s (λ pen. is_inside s.source.map pen.pointers.source ≡ true)
    (λ from to e d pen known. used_inside s.source.used s.source.map _ _ _ _ pen.pointers.source)
    (λ d pen. used_inside s.source.used s.source.map _ _ _ _ pen.pointers.source)
    (λ d pen h. h)

pub pattern_inside : (s : Travel) (pen : Pen) → is_inside s.pattern.map pen.pointers.pattern ≡ true
    → is_inside s.pattern.map (moved s pen).pointers.pattern ≡ true
unfolding pen_stepped pen_with row_passed point_stepped row_point
pattern_inside s =
    kept s (λ pen. is_inside s.pattern.map pen.pointers.pattern ≡ true)
    (λ from to e d pen known. used_inside s.pattern.used s.pattern.map _ _ _ _ pen.pointers.pattern)
    (λ d pen. used_inside s.pattern.used s.pattern.map _ _ _ _ pen.pointers.pattern)
    (λ d pen h. h)

-- what that says of a used pointer
pub source_in : (s : Travel) (pen : Pen) → pointers_inside s pen ≡ true → s.source.used ≡ true → is_inside s.source.map pen.pointers.source ≡ true
source_in s pen h = asked s.source.used _ (search (h, and_left))

pub pattern_in : (s : Travel) (pen : Pen) → pointers_inside s pen ≡ true → s.pattern.used ≡ true → is_inside s.pattern.map pen.pointers.pattern ≡ true
pattern_in s pen h = asked s.pattern.used _ (search (h, and_right))

where_used : (used : Bool) (map : Map) (p q : Point ℕ) → (is_inside map p ≡ true → is_inside map q ≡ true)
    → (not used || is_inside map p) ≡ true → (not used || is_inside map q) ≡ true
where_used true map p q keeps h = keeps h
where_used false map p q keeps h = refl

pub pointers_moved : (s : Travel) (pen : Pen) → pointers_inside s pen ≡ true → pointers_inside s (moved s pen) ≡ true
pointers_moved s pen h =
    let p = pen.pointers in
    let q = (moved s pen).pointers in
    let source = where_used s.source.used s.source.map p.source q.source (source_inside s pen) (search and_left) in
    let pattern = where_used s.pattern.used s.pattern.map p.pattern q.pattern (pattern_inside s pen) (search and_right) in
    search and_both

-- ---- the destination on its circle, and E on its own

-- both of the destination's pointers lie on their circle
abbrev pub SpotOn : Point ℤ → Type 0
SpotOn p = OnCircle p.x × OnCircle p.y

pub destination_moved : (s : Travel) (pen : Pen) → SpotOn pen.pointers.destination → SpotOn (moved s pen).pointers.destination
unfolding pen_stepped pen_with row_passed spot_stepped row_spot
destination_moved s =
    kept s (λ pen. SpotOn pen.pointers.destination)
    (λ from to e d pen known on. (circled_on _ _ _ on.0, circled_on _ _ _ on.1))
    (λ d pen on. (circled_on _ _ _ on.0, circled_on _ _ _ on.1))
    (λ d pen on. on)

pub line_error_on : (s : Travel) (e : ℤ) → circle 8192 16384 (line_error s e) ≡ line_error s e
unfolding line_error
line_error_on s e = circle_circle 8192 16384 (lit< tt) (e +ℤ choose (lt_z e (pos 0)) s.k1 s.k2)

pub error_moved : (s : Travel) (pen : Pen) → circle 8192 16384 pen.e ≡ pen.e → circle 8192 16384 (moved s pen).e ≡ (moved s pen).e
unfolding pen_stepped pen_with row_passed
error_moved s =
    kept s (λ pen. circle 8192 16384 pen.e ≡ pen.e)
    (λ from to e d pen known on. ⊎_elim (λ same. rw same on) (λ added. rw added (line_error_on s pen.e)) known)
    (λ d pen on. on)
    (λ d pen on. on)
