-- A safe position keeps within the memory, and so do all after it: a pixel of a map lies before the map's end, and no move takes a used pointer out of its map.
use mathlib.Core.Path.{◌≡◌, refl, sym, ◌∙◌}
use mathlib.Core.Bool.{Bool, true, false, ◌&&◌, ◌||◌, and-eq-true_iff, false≢true}
use mathlib.Core.List.{List}
use Prim.Native.Nat.{ℕ, ◌+◌, ◌≤◌, ◌<◌}
use native.Mathlib.Omega.{arith}
use borrow.Author.Tests.{leb-true}
use Rattle.numbers.specs.Choose.{choose}
use Rattle.numbers.proofs.Choices.{by_test, choose_true, choose_false}
use Rattle.pixels.specs.declared.Map.{Map}
use Rattle.pixels.specs.Maps.{place_of, needed_of}
use Rattle.pixels.proofs.Maps.{place_lt}
use Rattle.parts.specs.declared.shapes.Point.{Point}
use Rattle.parts.specs.declared.drawing.Drawing.{Drawing}
use Rattle.rules.specs.Maps.{end_holds, is_inside}
use Rattle.rules.proofs.PointerLaws.{inside_x, inside_y}
use Rattle.moves.specs.declared.Pen.{Pen}
use Rattle.moves.specs.Moves.{pen_with, moved}
use Rattle.moves.specs.Inner.{pointers_inside}
use Rattle.moves.proofs.Kept.{source_in, pattern_in, pointers_moved}
use Rattle.places.specs.declared.MaskMode.{MaskMode}
use Rattle.places.specs.declared.MaskMode.TheVariants.{Enabled}
use Rattle.places.specs.declared.Flow.{Flow}
use Rattle.places.specs.declared.Setup.{Setup}
use Rattle.places.specs.Places.{is_within, mask_x, mask_y, named_mask, is_disabled, in_mask}
use Rattle.position.specs.Drawn.{source_pixel, inside_at, crossed}
use Rattle.position.specs.Within.{reads_source, Within}
use Rattle.position.specs.Inner.{pattern_read, source_read, Safe}
use Rattle.places.proofs.Columns.{within_column}
use Rattle.position.proofs.Writing.{on_map_lem}

-- ---- where the code reads

-- a pattern made from the source, and a colour taken from it, read the source pixel
pub derived_reads : (flow : Flow) → flow.derived ≡ true → reads_source flow ≡ true
derived_reads flow e = by flow.foreground flow.background flow.derived e
  where
    by : (f b d : Bool) → d ≡ true → (f || b || d) ≡ true
    by true b d e = refl
    by false true d e = refl
    by false false d e = e

pub picked_reads : (flow : Flow) (foreground : Bool) → choose foreground flow.foreground flow.background ≡ true → reads_source flow ≡ true
picked_reads flow foreground = by foreground flow.foreground flow.background flow.derived
  where
    by : (t f b d : Bool) → choose t f b ≡ true → (f || b || d) ≡ true
    by t true b d e = refl
    by t false true d e = refl
    by true false false d e = absurd (false≢true e)
    by false false false d e = absurd (false≢true e)

-- so what is read for it is the source pixel where that is asked for
pub derived_read : (s : Setup) (memory : List ℕ) (pen : Pen) → s.brush.flow.derived ≡ true → source_read s memory pen ≡ source_pixel s.travel memory pen
unfolding source_read
derived_read s memory pen e = choose_true _ 0 (derived_reads s.brush.flow e)

pub picked_read : (s : Setup) (memory : List ℕ) (pen : Pen) (foreground : Bool) (colour : ℕ)
    → choose (choose foreground s.brush.flow.foreground s.brush.flow.background) (source_read s memory pen) colour
    ≡ choose (choose foreground s.brush.flow.foreground s.brush.flow.background) (source_pixel s.travel memory pen) colour
unfolding source_read
picked_read s memory pen foreground colour =
    by_test (λ (n : ℕ). n ≡ choose (choose foreground s.brush.flow.foreground s.brush.flow.background) (source_pixel s.travel memory pen) colour)
    (choose foreground s.brush.flow.foreground s.brush.flow.background)
    (λ e. choose_true _ 0 (picked_reads s.brush.flow foreground e) ∙ sym (choose_true _ colour e))
    (λ e. sym (choose_false _ colour e))

-- without a pattern map there is no fill
unfilled : (s : Setup) (memory : List ℕ) (pen : Pen) → (s.brush.flow.fills ≡ true → s.travel.pattern.used ≡ true)
    → s.travel.pattern.used ≡ false → inside_at s memory pen ≡ false
unfolding inside_at
unfilled s memory pen crossing unused = by s.brush.flow.fills _ crossing
  where
    by : (fills turned : Bool) → (fills ≡ true → s.travel.pattern.used ≡ true) → (fills && turned) ≡ false
    by false turned h = refl
    by true turned h = absurd (false≢true (sym unused ∙ h refl))

-- so the pattern is 1 there
pub pattern_unread : (s : Setup) (memory : List ℕ) (pen : Pen) → (s.brush.flow.fills ≡ true → s.travel.pattern.used ≡ true)
    → s.travel.pattern.used ≡ false → pattern_read s memory pen ≡ record { one = true; inside = false }
unfolding pattern_read
pattern_unread s memory pen crossing unused = rw (unfilled s memory pen crossing unused, unused)

-- ---- a safe position

-- a pixel of a map that ends within the memory lies in it
pub held_within : (size : ℕ) (map : Map) (x y : ℕ) → x ≤ map.width → y ≤ map.height → end_holds size map ≡ true → place_of map x y < size
unfolding end_holds
held_within size map x y h v e = omega (arith, place_lt map x y h v, leb-true (map.base + needed_of map) size e)

-- so does the pixel of a pointer in it
inside_within : (size : ℕ) (map : Map) (p : Point ℕ) → end_holds size map ≡ true → is_inside map p ≡ true → place_of map p.x p.y < size
inside_within size map p held inside = held_within size map p.x p.y (inside_x map p inside) (inside_y map p inside) held

-- what is asked where there is a mask holds in mode 10
masked : (mode : MaskMode) (b : Bool) → mode ≡ Enabled → (is_disabled mode || b) ≡ true → b ≡ true
masked mode b e h = rw e at h

module _ (s : Setup) (size : ℕ) (pen : Pen) where
  -- in mode 10 the mask pixel inside the boundary is one of its map
  mask_inside : in_mask s.brush pen ≡ true → named_mask s.brush.mask.mode ≡ Enabled
      → (is_within s.brush.mask.map.width (mask_x s.brush pen) ≡ true) × (is_within s.brush.mask.map.height (mask_y s.brush pen) ≡ true)
  unfolding is_within mask_x mask_y in_mask
  mask_inside inside used = (and-eq-true_iff (is_within s.brush.mask.map.width (mask_x s.brush pen)) _).0 (masked (named_mask s.brush.mask.mode) _ used inside)

  pub safe_within : Safe s size pen → Within s size pen
  safe_within h =
      record {
        pattern =
            λ used.
            inside_within size s.travel.pattern.map pen.pointers.pattern (h.pattern used) (pattern_in s.travel pen h.pointers used);
        source =
            λ read.
            let used = h.used read in
            inside_within size s.travel.source.map pen.pointers.source (h.source used) (source_in s.travel pen h.pointers used);
        mask =
            λ on inside used.
            let m = mask_inside inside used in
            let across = within_column _ (mask_x s.brush pen) m.0 in
            let down = within_column _ (mask_y s.brush pen) m.1 in
            held_within size s.brush.mask.map _ _ across down (h.mask used);
        destination = λ on inside. let m = on_map_lem s.brush pen on in held_within size s.brush.destination _ _ m.0 m.1 h.destination;
      }

  -- of the pen it asks only where the used pointers lie
  safe_at : (q : Pen) → pointers_inside s.travel q ≡ true → Safe s size pen → Safe s size q
  safe_at q inside h =
      record {
        destination = h.destination;
        mask = h.mask;
        source = h.source;
        pattern = h.pattern;
        used = h.used;
        crossing = h.crossing;
        depth = h.depth;
        pointers = inside;
      }

  -- so another drawing in hand changes nothing
  pub safe_with : (d : Drawing) → Safe s size pen → Safe s size (pen_with d pen)
  unfolding pen_with
  safe_with d h = safe_at (pen_with d pen) h.pointers h

  pub safe_moved : Safe s size pen → Safe s size (moved s.travel pen)
  safe_moved h = safe_at (moved s.travel pen) (pointers_moved s.travel pen h.pointers) h

-- the pen at a position is safe where the pen before it is
pub safe_crossed : (s : Setup) (size : ℕ) (memory : List ℕ) (pen : Pen) → Safe s size pen → Safe s size (crossed s memory pen)
unfolding crossed
safe_crossed s size memory pen h = safe_with s size pen _ h
