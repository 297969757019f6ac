-- What lies behind the memory neither shows in a position nor is changed by it: each pixel that the position reads or writes lies in the memory.
use mathlib.Core.Path.{◌≡◌, refl, ap, ap₂, ◌∙◌}
use mathlib.Core.Bool.{Bool, true, false, not, ◌&&◌}
use mathlib.Core.List.{List, ◌++◌}
use Prim.Native.Nat.{ℕ}
use lib.ListN.{length}
use lib.Dec.{eqb}
use Rattle.numbers.specs.Choose.{choose}
use Rattle.pixels.proofs.Pixels.{pixel_append, put_append}
use Rattle.parts.specs.Drawings.{inside_of, with_inside}
use Rattle.moves.specs.declared.Pen.{Pen}
use Rattle.moves.specs.Moves.{pen_with}
use Rattle.places.specs.declared.Setup.{Setup}
use Rattle.places.specs.Places.{on_map, named_mask, is_enabled, in_mask, is_move, is_nulled}
use Rattle.places.proofs.ModeLaws.{enabled_lem}
use Rattle.position.specs.Fates.{destination_pixel, on_zero, is_compared, fate_of}
use Rattle.position.specs.Drawn.{source_pixel, is_one, inside_at, crossed, is_foreground, ink_of, picked, mixed_pixel, drawn}
use Rattle.position.specs.Within.{Within}
use Rattle.position.specs.Inner.{is_painted}
use Rattle.position.proofs.Writing.{fated, judged, painted_inside, put, drawn_by_lem}
use Rattle.position.proofs.Safety.{derived_reads, picked_reads}

-- a choice of which one side is asked for only where its test holds
chosen : {A : Type 0} (t : Bool) (a b c : A) → (t ≡ true → a ≡ b) → choose t a c ≡ choose t b c
chosen true a b c same = same refl
chosen false a b c same = refl

-- a test that counts only where another holds
asked_only : (t a b : Bool) → (t ≡ true → a ≡ b) → (t && a) ≡ (t && b)
asked_only true a b same = same refl
asked_only false a b same = refl

module _ (s : Setup) (memory rest : List ℕ) (pen : Pen) (h : Within s (length memory) pen) where
  one_behind : s.travel.pattern.used ≡ true → is_one s.travel (memory ++ rest) pen ≡ is_one s.travel memory pen
  unfolding is_one
  one_behind used = ap (λ (n : ℕ). not (eqb n 0)) (pixel_append memory s.travel.pattern.map _ _ rest (h.pattern used))

  -- a fill reads its pattern map
  module _ (crossing : s.brush.flow.fills ≡ true → s.travel.pattern.used ≡ true) where
    inside_behind : inside_at s (memory ++ rest) pen ≡ inside_at s memory pen
    unfolding inside_at
    inside_behind =
        asked_only s.brush.flow.fills _ _
        (λ fills. ap (λ (t : Bool). choose t (not (inside_of pen.drawing)) (inside_of pen.drawing)) (one_behind (crossing fills)))

    pub crossed_append : crossed s (memory ++ rest) pen ≡ crossed s memory pen
    unfolding crossed
    crossed_append = ap (λ (t : Bool). pen_with (with_inside t pen.drawing) pen) inside_behind

  foreground_behind : is_foreground s (memory ++ rest) pen ≡ is_foreground s memory pen
  unfolding is_foreground source_pixel
  foreground_behind =
      chosen s.travel.pattern.used _ _ _
      (λ used. ap₂ (choose s.brush.flow.fills) (inside_behind (λ fills. used)) (one_behind used))
      ∙ ap (choose s.travel.pattern.used _)
      (chosen s.brush.flow.derived _ _ true
      (λ used.
      ap (λ (n : ℕ). not (eqb n 0)) (pixel_append memory s.travel.source.map _ _ rest (h.source (derived_reads s.brush.flow used)))))

  picked_behind : picked s (memory ++ rest) pen ≡ picked s memory pen
  unfolding ink_of picked source_pixel
  picked_behind =
      let flow = s.brush.flow in
      rw foreground_behind
      (chosen (choose (is_foreground s memory pen) flow.foreground flow.background) _ _ _
      (λ taken. pixel_append memory s.travel.source.map _ _ rest (h.source (picked_reads flow (is_foreground s memory pen) taken))))

  -- ---- inside the map and the mask boundary

  module _ (on : on_map s.brush pen ≡ true) (inside : in_mask s.brush pen ≡ true) where
    zero_behind : on_zero s.brush (memory ++ rest) pen ≡ on_zero s.brush memory pen
    unfolding on_zero
    zero_behind =
        asked_only (is_enabled (named_mask s.brush.mask.mode)) _ _
        (λ used. ap (λ (n : ℕ). eqb n 0) (pixel_append memory s.brush.mask.map _ _ rest (h.mask on inside (enabled_lem _ used))))

    destination_behind : destination_pixel s.brush (memory ++ rest) pen ≡ destination_pixel s.brush memory pen
    unfolding destination_pixel
    destination_behind = pixel_append memory s.brush.destination _ _ rest (h.destination on inside)

    compared_behind : is_compared s.brush (memory ++ rest) pen ≡ is_compared s.brush memory pen
    unfolding is_compared
    compared_behind = rw destination_behind

    put_behind : put s (memory ++ rest) pen ≡ put s memory pen ++ rest
    unfolding mixed_pixel ink_of
    put_behind =
        rw (destination_behind, picked_behind, foreground_behind)
        (put_append memory s.brush.destination _ _ _ rest (h.destination on inside))

  fate_behind : fate_of s (memory ++ rest) pen ≡ fate_of s memory pen
  unfolding fate_of
  fate_behind = by (is_move s.travel pen.drawing) (is_nulled s pen) (on_map s.brush pen) (in_mask s.brush pen) refl refl
    where
      by : (moves nulled on inside : Bool) → on_map s.brush pen ≡ on → in_mask s.brush pen ≡ inside
          → fated moves nulled on inside (judged s (memory ++ rest) pen) ≡ fated moves nulled on inside (judged s memory pen)
      by true nulled on inside o i = refl
      by false true on inside o i = refl
      by false false false inside o i = refl
      by false false true false o i = refl
      by false false true true o i = rw (zero_behind o i, compared_behind o i)

  pub drawn_append : drawn s (memory ++ rest) pen ≡ drawn s memory pen ++ rest
  unfolding drawn
  drawn_append =
      let f = fate_of s memory pen in
      rw (fate_behind, drawn_by_lem s (memory ++ rest) pen f, drawn_by_lem s memory pen f)
      (by (is_painted f) (λ painted. let on = painted_inside s memory pen painted in put_behind on.0 on.1))
    where
      by : (t : Bool) → (t ≡ true → put s (memory ++ rest) pen ≡ put s memory pen ++ rest)
          → choose t (put s (memory ++ rest) pen) (memory ++ rest) ≡ choose t (put s memory pen) memory ++ rest
      by true same = same refl
      by false same = refl
