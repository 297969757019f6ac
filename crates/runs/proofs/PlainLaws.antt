-- A plain position that is inside paints its pixel by the blend: of its fates and choices one is left.
use Rattle.std.proofs.Common.{◌≡◌, ℕ, ◌<◌, Bool, true, false, not, ◌&&◌, eqb, ltb, List, sym, refl, ap, ◌∙◌, ltb-true, eqb-true}
use borrow.Author.Tests.{not-true}
use Rattle.numbers.specs.Choose.{choose}
use Rattle.numbers.proofs.Choices.{choose_true, choose_false, and_left, and_right, asked}
use Rattle.pixels.specs.declared.Map.{Map}
use Rattle.pixels.specs.Maps.{bits_of, start_of, place_of, shift_of}
use Rattle.pixels.specs.Pixels.{byte_at, pixel_at, with_pixel}
use Rattle.mixes.specs.declared.logical.Blend.{Blend}
use Rattle.mixes.specs.Mixes.{mixed}
use Rattle.mixes.specs.Inner.{blended}
use Rattle.rows.specs.Inner.{pixel_no, with_pixel_no}
use Rattle.parts.specs.declared.shapes.Ink.{Ink}
use Rattle.moves.specs.declared.Pen.{Pen}
use Rattle.places.specs.declared.Brush.{Brush}
use Rattle.places.specs.declared.Setup.{Setup}
use Rattle.places.specs.Places.{is_move, is_nulled, on_map, named_mask, is_enabled, in_mask}
use Rattle.position.specs.declared.Blends.{Blends}
use Rattle.position.specs.declared.Fate.{Fate}
use Rattle.position.specs.declared.Fate.TheVariants.{Moved, Nulled, OutsideMap, OutsideMask, MaskZero, Compared, Painted}
use Rattle.position.specs.Fates.{destination_pixel, on_zero, fate_of}
use Rattle.position.specs.Drawn.{source_pixel, is_one, is_foreground, ink_of, picked, mixed_pixel, drawn_by, drawn}
use Rattle.position.specs.Inner.{InkBlend, InkBlends}
use Rattle.position.proofs.Plain.{never, foreground, foreground_ink}
use Rattle.runs.specs.declared.plans.Taken.TheVariants.{Pattern}
use Rattle.runs.specs.Inner.{is_plain, is_blended, is_inked, is_expanded, pixel_number, column_at, row_at, row_op}
use Rattle.runs.proofs.StretchLaws.{and_no}

-- ---- what a plain drawing has

pub record Plained (s : Setup) : Type 0 where
  pub fills : s.brush.flow.fills ≡ false
  pub unused : s.travel.pattern.used ≡ false
  pub own : s.brush.flow.derived ≡ false
  pub mask : is_enabled (named_mask s.brush.mask.mode) ≡ false
  pub condition : s.brush.colours.compare.condition ≡ 4
  pub mix : s.brush.colours.foreground.mix < 16
  pub bits : s.brush.depth.bits ≡ bits_of s.brush.destination.format
  pub format : s.brush.flow.foreground ≡ true → s.travel.source.map.format ≡ s.brush.destination.format

pub plained : (s : Setup) → is_plain s ≡ true → is_blended s ≡ true → Plained s
plained s plain blends =
    let fills = not s.brush.flow.fills in
    let unused = not s.travel.pattern.used in
    let first = and_left (fills && unused && not s.brush.flow.derived) _ plain in
    let second = and_right (fills && unused && not s.brush.flow.derived) _ plain in
    let mixes = ltb s.brush.colours.foreground.mix 16 in
    let third = and_left (mixes && eqb s.brush.depth.bits (bits_of s.brush.destination.format)) _ blends in
    let fourth = and_right (mixes && eqb s.brush.depth.bits (bits_of s.brush.destination.format)) _ blends in
    record {
      fills = not-true _ (and_left fills unused (and_left (fills && unused) _ first));
      unused = not-true _ (and_right fills unused (and_left (fills && unused) _ first));
      own = not-true _ (and_right (fills && unused) _ first);
      mask = not-true _ (and_left (not (is_enabled (named_mask s.brush.mask.mode))) _ second);
      condition = eqb-true _ _ (and_right (not (is_enabled (named_mask s.brush.mask.mode))) _ second);
      mix = ltb-true _ _ (and_left mixes _ third);
      bits = eqb-true _ _ (and_right mixes _ third);
      format = λ takes. eqb-true _ _ (asked s.brush.flow.foreground _ fourth takes);
    }

-- ---- what a drawing through a pattern has

pub record Patterned (s : Setup) : Type 0 where
  pub fills : s.brush.flow.fills ≡ false
  pub used : s.travel.pattern.used ≡ true
  pub front : s.brush.flow.foreground ≡ false
  pub rear : s.brush.flow.background ≡ false
  pub mask : is_enabled (named_mask s.brush.mask.mode) ≡ false
  pub condition : s.brush.colours.compare.condition ≡ 4
  pub mix : s.brush.colours.foreground.mix < 16
  pub mix' : s.brush.colours.background.mix < 16
  pub bits : s.brush.depth.bits ≡ bits_of s.brush.destination.format
  pub bytes : bits_of s.brush.destination.format ≡ 8
  pub ones : bits_of s.travel.pattern.map.format ≡ 1

pub patterned : (s : Setup) → is_inked s ≡ true → is_expanded s ≡ true → Patterned s
patterned s inked expanded =
    let fills = not s.brush.flow.fills in
    let colours = not s.brush.flow.foreground && not s.brush.flow.background in
    let first = and_left ((fills && s.travel.pattern.used) && colours) _ inked in
    let second = and_right ((fills && s.travel.pattern.used) && colours) _ inked in
    let map = and_left (fills && s.travel.pattern.used) _ first in
    let inks = and_right (fills && s.travel.pattern.used) _ first in
    let mixes = ltb s.brush.colours.foreground.mix 16 && ltb s.brush.colours.background.mix 16 in
    let size = eqb s.brush.depth.bits (bits_of s.brush.destination.format) in
    let third = and_left (mixes && size) _ expanded in
    let fourth = and_right (mixes && size) _ expanded in
    record {
      fills = not-true _ (and_left fills _ map);
      used = and_right fills _ map;
      front = not-true _ (and_left (not s.brush.flow.foreground) _ inks);
      rear = not-true _ (and_right (not s.brush.flow.foreground) _ inks);
      mask = not-true _ (and_left (not (is_enabled (named_mask s.brush.mask.mode))) _ second);
      condition = eqb-true _ _ (and_right (not (is_enabled (named_mask s.brush.mask.mode))) _ second);
      mix = ltb-true _ _ (and_left (ltb s.brush.colours.foreground.mix 16) _ (and_left mixes _ third));
      mix' = ltb-true _ _ (and_right (ltb s.brush.colours.foreground.mix 16) _ (and_left mixes _ third));
      bits = eqb-true _ _ (and_right mixes _ third);
      bytes = eqb-true _ _ (and_left (eqb (bits_of s.brush.destination.format) 8) _ fourth);
      ones = eqb-true _ _ (and_right (eqb (bits_of s.brush.destination.format) 8) _ fourth);
    }

-- ---- a position that is drawn and inside

module _ (s : Setup) (q : Pen) (memory : List ℕ) (mask : is_enabled (named_mask s.brush.mask.mode) ≡ false) (condition : s.brush.colours.compare.condition ≡ 4)
    (draws : is_move s.travel q.drawing ≡ false) (shown : is_nulled s q ≡ false)
    (on : on_map s.brush q ≡ true) (inside : in_mask s.brush q ≡ true) where
  painted : fate_of s memory q ≡ Painted
  unfolding fate_of on_zero
  painted =
      let zero = and_no (is_enabled (named_mask s.brush.mask.mode)) _ mask in
      let compared = never s memory q condition in
      λ j.
      choose (draws j) Moved
      (choose (shown j) Nulled
      (choose (not (on j)) OutsideMap (choose (not (inside j)) OutsideMask (choose (zero j) MaskZero (choose (compared j) Compared Painted)))))

  -- so it is one pixel
  drawn_so : (v : ℕ) → mixed_pixel s memory q ≡ v
      → drawn s memory q ≡ with_pixel_no s.brush.destination.format s.brush.destination.base (pixel_number s.brush.destination (column_at s q) (row_at q)) v memory
  unfolding drawn drawn_by with_pixel byte_at place_of shift_of start_of
  drawn_so v mixed =
      ap (λ (f : Fate). drawn_by f s memory q) painted ∙ ap (λ (v : ℕ). with_pixel memory s.brush.destination (column_at s q) (row_at q) v) mixed

-- the destination's pixel by its number
destination_no : (s : Setup) (q : Pen) (memory : List ℕ) → let map = s.brush.destination in
    destination_pixel s.brush memory q ≡ pixel_no map.format map.base (pixel_number map (column_at s q) (row_at q)) memory
unfolding pixel_at byte_at place_of shift_of start_of destination_pixel
destination_no s q memory = refl

module _ (s : Setup) (blends : Blends) (inks : InkBlends s.brush blends) (q : Pen) (memory : List ℕ)
    (draws : is_move s.travel q.drawing ≡ false) (shown : is_nulled s q ≡ false)
    (on : on_map s.brush q ≡ true) (inside : in_mask s.brush q ≡ true) where
  abbrev map : Map
  map = s.brush.destination

  abbrev D : ℕ
  D = destination_pixel s.brush memory q

  -- what is made of a source pixel and a destination pixel
  abbrev op : ℕ → ℕ → ℕ
  op = blended (bits_of map.format) blends.foreground

  abbrev here : ℕ
  here = pixel_number map (column_at s q) (row_at q)

  -- its pixel, by the foreground's blend
  mixed_plain : Plained s → (S : ℕ) → (s.brush.flow.foreground ≡ true → S ≡ source_pixel s.travel memory q) → mixed_pixel s memory q ≡ op S D
  unfolding mixed_pixel picked
  mixed_plain plain S source =
      let b = s.brush in
      let fg = foreground s memory q plain.unused plain.own in
      let ink = foreground_ink s memory q fg in
      (λ j.
      mixed b.depth.bits (ink j).mix b.depth.planes
      (choose (choose (fg j) b.flow.foreground b.flow.background) (source_pixel s.travel memory q) (ink j).colour) D)
      ∙ ap (λ (n : ℕ). mixed b.depth.bits b.colours.foreground.mix b.depth.planes n D) (sym (taken b.flow.foreground source))
      ∙ sym (inks true plain.mix S D)
      ∙ ap (λ (n : ℕ). blended n blends.foreground S D) plain.bits
    where
      taken : (t : Bool) → (t ≡ true → S ≡ source_pixel s.travel memory q)
          → choose t S s.brush.colours.foreground.colour ≡ choose t (source_pixel s.travel memory q) s.brush.colours.foreground.colour
      taken true h = h refl
      taken false h = refl

  -- whatever it takes where the source is not taken
  pub drawn_plain : Plained s → (S : ℕ) → (s.brush.flow.foreground ≡ true → S ≡ source_pixel s.travel memory q)
      → drawn s memory q ≡ with_pixel_no map.format map.base here (op S (pixel_no map.format map.base here memory)) memory
  drawn_plain plain S source =
      drawn_so s q memory plain.mask plain.condition draws shown on inside _ (mixed_plain plain S source ∙ ap (op S) (destination_no s q memory))

  -- its pixel, by the blend of the ink that the pattern picks
  mixed_inked : Patterned s → let P = pixel_at memory s.travel.pattern.map q.pointers.pattern.x q.pointers.pattern.y in
      mixed_pixel s memory q ≡ row_op s blends Pattern P D
  unfolding mixed_pixel picked ink_of is_foreground is_one
  mixed_inked inked =
      let b = s.brush in
      let P = pixel_at memory s.travel.pattern.map q.pointers.pattern.x q.pointers.pattern.y in
      let fg : is_foreground s memory q ≡ not (eqb P 0) = choose_true _ _ inked.used ∙ choose_false _ _ inked.fills in
      ap by_ink fg ∙ pick (eqb P 0)
    where
      b : Brush
      b = s.brush

      by_ink : Bool → ℕ
      by_ink f =
          mixed b.depth.bits (choose f b.colours.foreground b.colours.background).mix b.depth.planes
          (choose (choose f b.flow.foreground b.flow.background) (source_pixel s.travel memory q) (choose f b.colours.foreground b.colours.background).colour) D

      -- an ink that takes no source pixel
      solid : (ink : Ink) (takes : Bool) (blend : Blend ℕ) → InkBlend b.depth ink takes blend → takes ≡ false → ink.mix < 16
          → mixed b.depth.bits ink.mix b.depth.planes (choose takes (source_pixel s.travel memory q) ink.colour) D
          ≡ blended (bits_of map.format) blend 0 D
      solid ink takes blend h none few =
          ap (λ (n : ℕ). mixed b.depth.bits ink.mix b.depth.planes n D)
          (choose_false (source_pixel s.travel memory q) ink.colour none ∙ sym (choose_false 0 ink.colour none))
          ∙ sym (h few 0 D)
          ∙ ap (λ (n : ℕ). blended n blend 0 D) inked.bits

      pick : (t : Bool) → by_ink (not t)
          ≡ choose t (blended (bits_of map.format) blends.background 0 D) (blended (bits_of map.format) blends.foreground 0 D)
      pick true = solid b.colours.background b.flow.background blends.background (inks false) inked.rear inked.mix'
      pick false = solid b.colours.foreground b.flow.foreground blends.foreground (inks true) inked.front inked.mix

  pub drawn_inked : Patterned s → let P = pixel_at memory s.travel.pattern.map q.pointers.pattern.x q.pointers.pattern.y in
      drawn s memory q ≡ with_pixel_no map.format map.base here (row_op s blends Pattern P (pixel_no map.format map.base here memory)) memory
  drawn_inked inked =
      let P = pixel_at memory s.travel.pattern.map q.pointers.pattern.x q.pointers.pattern.y in
      drawn_so s q memory inked.mask inked.condition draws shown on inside _ (mixed_inked inked ∙ ap (row_op s blends Pattern P) (destination_no s q memory))
