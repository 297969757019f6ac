-- One position of an outline turns its own pixel and no other: mix xor with colour 1 adds 1 to a pixel of 1 bit, and only the boundary mode, a move code
-- or the map's edge keeps a position back.
use mathlib.Core.Path.{◌≡◌, refl, sym, ap, ap₂, ◌∙◌}
use mathlib.Core.Bool.{Bool, true, false, not, ◌&&◌, ◌||◌, false≢true}
use mathlib.Core.List.{List}
use mathlib.Core.Logic.{⊎_elim}
use Prim.Native.Nat.{ℕ, ◌+◌, ◌%◌, ◌^◌, ◌≤◌, ◌<◌, zero-le}
use native.Mathlib.Omega.{arith}
use lib.Dec.{eqb}
use lib.IntN.{ℤ, pos, negsuc}
use lib.ListN.{length}
use lib.Signed.{lt_z}
use borrow.Author.Tests.{eqb-true, eq-eqb, le-leb, le-ltb}
use Rattle.numbers.specs.Choose.{choose}
use Rattle.numbers.proofs.Choices.{choose_true, choose_false, and_left, and_right, and_both}
use Rattle.pixels.specs.Maps.{bits_of, place_of}
use Rattle.pixels.specs.Pixels.{pixel_at, with_pixel}
use Rattle.pixels.proofs.Pixels.{pixel_lt, get_put_same, get_put_other}
use Rattle.mixes.specs.Mixes.{table_bit, logical, merged, mixed}
use Rattle.mixes.proofs.Binary.{last_cases}
use Rattle.parts.specs.declared.shapes.Ink.{Ink}
use Rattle.moves.specs.declared.Pen.{Pen}
use Rattle.places.specs.declared.MaskMode.TheVariants.{Disabled}
use Rattle.places.specs.declared.Mode.TheVariants.{AreaBoundary}
use Rattle.places.specs.declared.Setup.{Setup}
use Rattle.places.specs.Places.{is_within, column_of, place_x, on_map, named_mask, is_move, named_mode, is_nulled}
use Rattle.position.specs.declared.Fate.TheVariants.{Moved, Nulled, OutsideMap, Painted}
use Rattle.position.specs.Fates.{destination_pixel, fate_of}
use Rattle.position.specs.Drawn.{is_foreground, ink_of, picked, mixed_pixel, drawn_by, drawn}
use Rattle.places.proofs.Columns.{within_place}
use Rattle.position.proofs.Plain.{unbounded, unmasked, never, foreground, foreground_ink}
use Rattle.position.proofs.Writing.{on_map_lem}
use Rattle.areas.specs.Crossings.{same_place}
use Rattle.areas.proofs.Rows.{same_self, same_true}
use Rattle.areas.proofs.Reached.{Bounding}

-- how a stroke of an outline is set up
pub record Toggles (s : Setup) : Type 0 where
  pub bits : bits_of s.brush.destination.format ≡ 1
  pub depth : s.brush.depth.bits ≡ 1
  pub write : s.travel.course.read ≡ false
  pub mode : named_mode s.brush.flow.mode ≡ AreaBoundary
  pub bounds : Bounding s.travel
  pub edge : s.brush.edge ≡ pos 0
  pub mask : named_mask s.brush.mask.mode ≡ Disabled
  pub pattern : s.travel.pattern.used ≡ false
  pub derived : s.brush.flow.derived ≡ false
  pub source : s.brush.flow.foreground ≡ false
  pub mix : s.brush.colours.foreground.mix ≡ 6
  pub colour : s.brush.colours.foreground.colour % 2 ≡ 1
  pub condition : s.brush.colours.compare.condition ≡ 4
  pub plane : s.brush.depth.planes % 2 ≡ 1

-- ---- the mix

xor_one : (m c d : ℕ) → m % 2 ≡ 1 → c % 2 ≡ 1 → mixed 1 6 m c d ≡ (d + 1) % 2
unfolding table_bit logical merged mixed
xor_one m c d plane colour =
    ⊎_elim
    (λ (even : d % 2 ≡ 0). let next : (d + 1) % 2 ≡ 1 = omega arith in rw (plane, colour, even, next))
    (λ (odd : d % 2 ≡ 1). let next : (d + 1) % 2 ≡ 0 = omega arith in rw (plane, colour, odd, next))
    (last_cases d)

-- no place is left of column 0
placed : (z : ℤ) → choose (lt_z z (pos 0)) (pos 0) z ≡ pos (column_of z)
unfolding column_of
placed (pos n) = rw (le-ltb n 0 zero-le)
placed (negsuc n) = refl

module _ (s : Setup) (t : Toggles s) (memory : List ℕ) (pen : Pen) where
  place : place_x s.brush pen ≡ pos (column_of pen.pointers.destination.x)
  unfolding place_x
  place = rw t.edge (placed pen.pointers.destination.x)

  front : is_foreground s memory pen ≡ true
  front = foreground s memory pen t.pattern t.derived

  ink : ink_of s memory pen ≡ s.brush.colours.foreground
  ink = foreground_ink s memory pen front

  colour_picked : picked s memory pen ≡ s.brush.colours.foreground.colour
  unfolding picked
  colour_picked = choose_false _ _ (choose_true _ _ front ∙ t.source) ∙ ap (λ (i : Ink). i.colour) ink

  mixed_one : mixed_pixel s memory pen ≡ (destination_pixel s.brush memory pen + 1) % 2
  unfolding mixed_pixel
  mixed_one =
      let planes : ℕ = s.brush.depth.planes in
      let old : ℕ = destination_pixel s.brush memory pen in
      ap (λ (n : ℕ). mixed n (ink_of s memory pen).mix planes (picked s memory pen) old) t.depth
      ∙ ap₂ (λ code c. mixed 1 code planes c old) (ap (λ (i : Ink). i.mix) ink ∙ t.mix) colour_picked
      ∙ xor_one planes s.brush.colours.foreground.colour old t.plane t.colour

  -- ---- what keeps a position back

  abbrev moves : Bool
  moves = is_move s.travel pen.drawing

  -- memory with the pixel turned
  abbrev turned : List ℕ
  turned =
      with_pixel memory s.brush.destination (column_of (place_x s.brush pen)) (column_of pen.pointers.destination.y) (mixed_pixel s memory pen)

  drawn_turned : drawn s memory pen ≡ choose (moves || is_nulled s pen || not (on_map s.brush pen)) memory turned
  unfolding fate_of drawn_by drawn
  drawn_turned =
      rw (unbounded s memory pen t.mask, unmasked s memory pen t.mask, never s memory pen t.condition) (by moves (is_nulled s pen) (on_map s.brush pen))
    where
      by : (back nulled on : Bool)
          → drawn_by (choose back Moved (choose nulled Nulled (choose (not on) OutsideMap Painted))) s memory pen
          ≡ choose (back || nulled || not on) memory turned
      by true nulled on = refl
      by false true on = refl
      by false false true = refl
      by false false false = refl

  -- ---- the pixel of a column and row

  module _ (x y : ℕ) (across : x ≤ s.brush.destination.width) (down : y ≤ s.brush.destination.height) where
    -- the position lies there; left of the map it lies in column 0
    abbrev lies : Bool
    lies = eqb (column_of pen.pointers.destination.x) x && same_place pen.pointers.destination.y (pos y)

    abbrev pixel : List ℕ → ℕ
    pixel m = pixel_at m s.brush.destination x y

    pub pixel_bit : pixel memory < 2
    pixel_bit = rw t.bits at (pixel_lt memory s.brush.destination x y)

    column_there : lies ≡ true → column_of pen.pointers.destination.x ≡ x
    column_there e = eqb-true _ x (and_left _ (same_place pen.pointers.destination.y (pos y)) e)

    place_there : lies ≡ true → column_of (place_x s.brush pen) ≡ x
    unfolding column_of
    place_there e = ap column_of place ∙ column_there e

    row_there : lies ≡ true → pen.pointers.destination.y ≡ pos y
    row_there e = same_true pen.pointers.destination.y (pos y) (and_right (eqb (column_of pen.pointers.destination.x) x) _ e)

    -- so it is on the map
    there_on : lies ≡ true → on_map s.brush pen ≡ true
    unfolding on_map is_within
    there_on e =
        let column = column_there e in
        and_both _ _
        (ap (is_within s.brush.destination.width) place
        ∙ le-leb (column_of pen.pointers.destination.x) s.brush.destination.width (omega arith))
        (ap (is_within s.brush.destination.height) (row_there e) ∙ le-leb y s.brush.destination.height down)

    -- where it lies there the pixel is turned
    there_turned : place_of s.brush.destination x y < length memory → lies ≡ true → pixel turned ≡ (pixel memory + 1) % 2
    unfolding column_of destination_pixel
    there_turned held e =
        let row : column_of pen.pointers.destination.y ≡ y = ap column_of (row_there e) in
        let v : ℕ = mixed_pixel s memory pen in
        let same : v ≡ (pixel memory + 1) % 2 =
        mixed_one ∙ ap₂ (λ a b. (pixel_at memory s.brush.destination a b + 1) % 2) (place_there e) row in
        ap₂ (λ a b. pixel_at (with_pixel memory s.brush.destination a b v) s.brush.destination x y) (place_there e) row
        ∙ get_put_same memory s.brush.destination x y v held
        ∙ ap (λ (n : ℕ). v % 2 ^ n) t.bits
        ∙ omega arith

    -- and where it lies elsewhere on the map the pixel stays
    elsewhere_kept : on_map s.brush pen ≡ true → lies ≡ false → pixel turned ≡ pixel memory
    unfolding on_map column_of
    elsewhere_kept on e =
        get_put_other memory s.brush.destination _ _ (mixed_pixel s memory pen) x y (on_map_lem s.brush pen on).0 across
        (λ both.
        let inside = and_right (is_within s.brush.destination.width (place_x s.brush pen)) _ on in
        let row = within_place s.brush.destination.height pen.pointers.destination.y inside ∙ ap pos both.1 in
        false≢true
        (sym e ∙ and_both _ _ (eq-eqb _ x (ap column_of (sym place) ∙ both.0)) (ap (λ (z : ℤ). same_place z (pos y)) row ∙ same_self (pos y))))

    pub pixel_drawn : (drawn? : Bool) → place_of s.brush.destination x y < length memory → is_nulled s pen ≡ not drawn?
        → pixel (drawn s memory pen)
        ≡ (pixel memory
        + choose (not (moves) && drawn? && eqb (column_of pen.pointers.destination.x) x && same_place pen.pointers.destination.y (pos y)) 1 0) % 2
    pixel_drawn drawn? held e =
        ap pixel (drawn_turned ∙ ap (λ (n : Bool). choose (moves || n || not (on_map s.brush pen)) memory turned) e)
        ∙ by (moves) drawn? (on_map s.brush pen) lies refl refl
      where
        kept : pixel memory ≡ (pixel memory + 0) % 2
        kept = omega (arith, pixel_bit)

        by : (moves draws on there : Bool) → on_map s.brush pen ≡ on → lies ≡ there
            → pixel (choose (moves || not draws || not on) memory turned)
            ≡ (pixel memory
            + choose (not moves && draws && eqb (column_of pen.pointers.destination.x) x && same_place pen.pointers.destination.y (pos y)) 1 0) % 2
        by true draws on there o l = kept
        by false false on there o l = kept
        by false true false true o l = absurd (false≢true (sym o ∙ there_on l))
        by false true false false o l = rw l kept
        by false true true true o l = rw l (there_turned held l)
        by false true true false o l = rw l (elsewhere_kept o l ∙ kept)
