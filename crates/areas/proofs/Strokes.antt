-- A stroke of an outline turns each pixel as often as it crosses there: by induction over its positions, each of which turns one pixel or none.
use mathlib.Core.Path.{◌≡◌, refl, sym, ap, ◌∙◌}
use mathlib.Core.Bool.{Bool, true, false, not, ◌&&◌, false≢true}
use mathlib.Core.List.{List}
use Prim.Native.Nat.{ℕ, zero, suc, ◌+◌, ◌%◌, ◌≤◌, ◌<◌}
use native.Mathlib.Omega.{arith}
use lib.Dec.{eqb}
use lib.IntN.{pos}
use lib.ListN.{length}
use Rattle.numbers.specs.Choose.{choose}
use Rattle.pixels.specs.Maps.{place_of}
use Rattle.pixels.specs.Pixels.{pixel_at}
use Rattle.parts.specs.declared.drawing.Drawing.{Drawing}
use Rattle.parts.specs.declared.drawing.Drawing.TheVariants.{Nothing, Line, Codes, Block}
use Rattle.parts.specs.Drawings.{unfinished, with_inside}
use Rattle.moves.specs.declared.Turn.{Turn}
use Rattle.moves.specs.declared.Travel.{Travel}
use Rattle.moves.specs.declared.Pen.{Pen}
use Rattle.moves.specs.Moves.{pen_with, moved_by, moved}
use Rattle.moves.proofs.CircledLaws.{OnCircle}
use Rattle.places.specs.declared.Setup.{Setup}
use Rattle.places.specs.Places.{column_of, is_move}
use Rattle.position.specs.Drawn.{inside_at, crossed, drawn}
use Rattle.runs.specs.Runs.{Run, begun, positioned, after}
use Rattle.runs.proofs.RunLaws.{by_stepped, length_after}
use Rattle.areas.specs.Crossings.{pen_after, same_place, crosses, crosses_at, crossings}
use Rattle.areas.specs.Outlines.{at_start}
use Rattle.areas.proofs.Reached.{Bounding, Reached, none, line, first, next}
use Rattle.areas.proofs.Boundary.{reached_after, boundary_drawn}
use Rattle.areas.proofs.Toggles.{Toggles, pixel_bit, pixel_drawn}

-- ---- the pens of a run that fills nothing

-- only a block has the bit
reached_own : (s : Travel) (inside : Bool) {turn : Turn} {d : Drawing} → Reached s turn d → with_inside inside d ≡ d
unfolding with_inside
reached_own s inside none = refl
reached_own s inside (line steps within) = refl
reached_own s inside first = refl
reached_own s inside (next within) = refl

crossed_own : (s : Setup) (memory : List ℕ) (pen : Pen) {turn : Turn} → Reached s.travel turn pen.drawing → crossed s memory pen ≡ pen
unfolding crossed pen_with
crossed_own s memory pen r =
    let same = reached_own s.travel (inside_at s memory pen) r in
    λ i. record { pointers = pen.pointers; e = pen.e; drawing = same i }

-- where nothing is in hand nothing moves
moved_idle : (s : Travel) (pen : Pen) → unfinished pen.drawing ≡ false → moved s pen ≡ pen
unfolding moved moved_by
moved_idle s pen idle = by pen.drawing idle
  where
    by : (d : Drawing) → unfinished d ≡ false → moved_by s d pen ≡ pen
    by (Nothing stopped) e = refl
    by (Line rose done) e = absurd (false≢true (sym e))
    by (Codes count code done) e = absurd (false≢true (sym e))
    by (Block inside column row) e = absurd (false≢true (sym e))

module _ (s : Travel) (pen : Pen) where
  idle_after : (n : ℕ) → unfinished pen.drawing ≡ false → pen_after s n pen ≡ pen
  unfolding pen_after
  idle_after zero idle = refl
  idle_after (suc n) idle = ap (moved s) (idle_after n idle) ∙ moved_idle s pen idle

  -- so what is in hand later was so from the start
  in_hand_lem : (n : ℕ) → unfinished (pen_after s n pen).drawing ≡ true → unfinished pen.drawing ≡ true
  in_hand_lem n going = by (unfinished pen.drawing) refl
    where
      by : (t : Bool) → unfinished pen.drawing ≡ t → unfinished pen.drawing ≡ true
      by true e = e
      by false e = absurd (false≢true (sym e ∙ ap (λ (p : Pen). unfinished p.drawing) (sym (idle_after n e)) ∙ going))

pub pen_after_lem : (s : Setup) (pen : Pen) → Bounding s.travel → at_start pen.drawing ≡ true → (memory : List ℕ) (n : ℕ)
    → (after s n (begun pen memory)).pen ≡ pen_after s.travel n pen
unfolding after begun pen_after positioned
pen_after_lem s pen bounds start memory zero = refl
pen_after_lem s pen bounds start memory (suc n) =
    let u : Run = after s n (begun pen memory) in
    let same : u.pen ≡ pen_after s.travel n pen = pen_after_lem s pen bounds start memory n in
    by_stepped s u (λ (v : Run). v.pen ≡ moved s.travel (pen_after s.travel n pen))
    (λ idle. sym (moved_idle s.travel u.pen idle) ∙ ap (moved s.travel) same)
    (λ going.
    ap (λ (p : Pen). moved s.travel (crossed s u.memory p)) same
    ∙ ap (moved s.travel) (crossed_own s u.memory (pen_after s.travel n pen) (reached_after s.travel pen bounds start n)))

-- ---- the pixels

module _ (s : Setup) (t : Toggles s) (pen : Pen) (start : at_start pen.drawing ≡ true) (on : OnCircle pen.pointers.destination.y)
    (memory : List ℕ) (x y : ℕ) (across : x ≤ s.brush.destination.width) (down : y ≤ s.brush.destination.height)
    (held : unfinished pen.drawing ≡ true → place_of s.brush.destination x y < length memory) where
  abbrev pixel : List ℕ → ℕ
  pixel m = pixel_at m s.brush.destination x y

  abbrev memory_after : ℕ → List ℕ
  memory_after n = (after s n (begun pen memory)).memory

  abbrev pen_at : ℕ → Pen
  pen_at n = pen_after s.travel n pen

  abbrev crossed? : ℕ → Bool
  crossed? n = crosses_at s.travel pen x y n

  held_after : (n : ℕ) → unfinished (pen_at n).drawing ≡ true → place_of s.brush.destination x y < length (memory_after n)
  unfolding begun
  held_after n going = rw (length_after s n (begun pen memory)) (held (in_hand_lem s.travel pen n going))

  -- a position turns the pixel where it crosses there
  position_toggles : (n : ℕ) → unfinished (pen_at n).drawing ≡ true
      → pixel (drawn s (memory_after n) (pen_at n)) ≡ (pixel (memory_after n) + choose (crossed? n) 1 0) % 2
  unfolding crosses_at
  position_toggles n going =
      let p : Pen = pen_at n in
      pixel_drawn s t (memory_after n) p x y across down (crosses s.travel pen n) (held_after n going)
      (boundary_drawn s pen t.mode t.bounds t.write start on n going)
      ∙ ap
      (λ (g : Bool).
      (pixel (memory_after n)
      + choose (g && not (is_move s.travel p.drawing)
      && crosses s.travel pen n
      && eqb (column_of p.pointers.destination.x) x
      && same_place p.pointers.destination.y (pos y)) 1 0)
      % 2) (sym going)

  idle_counts : (n : ℕ) → unfinished (pen_at n).drawing ≡ false → choose {A = ℕ} (crossed? n) 1 0 ≡ 0
  unfolding crosses_at
  idle_counts n idle =
      let p : Pen = pen_at n in
      ap
      (λ (g : Bool).
      choose {A = ℕ} (g && not (is_move s.travel p.drawing)
      && crosses s.travel pen n
      && eqb (column_of p.pointers.destination.x) x
      && same_place p.pointers.destination.y (pos y)) 1 0) idle

  pub toggled_after : (n : ℕ) → pixel_at (after s n (begun pen memory)).memory s.brush.destination x y
      ≡ (pixel_at memory s.brush.destination x y + crossings s.travel pen x y n) % 2
  unfolding after begun positioned crossings
  toggled_after zero = omega (arith, pixel_bit s t memory pen x y across down)
  toggled_after (suc n) =
      let u : Run = after s n (begun pen memory) in
      let before : pixel u.memory ≡ (pixel memory + crossings s.travel pen x y n) % 2 = toggled_after n in
      let same : u.pen ≡ pen_at n = pen_after_lem s pen t.bounds start memory n in
      by_stepped s u (λ (v : Run). pixel v.memory ≡ (pixel memory + (crossings s.travel pen x y n + choose (crossed? n) 1 0)) % 2)
      (λ idle. omega (arith, idle_counts n (ap (λ (p : Pen). unfinished p.drawing) (sym same) ∙ idle)))
      (λ going.
      ap (λ (p : Pen). pixel (drawn s u.memory p)) same
      ∙ position_toggles n (ap (λ (p : Pen). unfinished p.drawing) (sym same) ∙ going)
      ∙ omega arith)
