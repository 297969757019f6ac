-- The image of a valid record loads to the record: each register's bytes stand at its offset, and give back a number that fits them.
use Rattle.std.proofs.Common.{Ok}
use mathlib.Core.Path.{◌≡◌, refl, sym, ap, ◌∙◌}
use mathlib.Core.Bool.{true}
use mathlib.Core.List.{List, [], ◌∷◌}
use Prim.Native.Nat.{ℕ, ◌^◌, ◌<◌}
use native.Mathlib.Nat.{mod-eq_of_lt, le_refl}
use native.Mathlib.Omega.{arith}
use lib.Dec.{lit<}
use lib.ListN.{length, take}
use lib.IntN.{ℤ}
use mir.Syntax.{w16, w32}
use mir.Val.{to_z}
use borrow.Author.Tests.{eq-eqb}
use Rattle.numbers.specs.Bytes.{le, number_of}
use Rattle.numbers.specs.Circles.{residue}
use Rattle.numbers.proofs.CircleLaws.{residue_lt}
use Rattle.numbers.proofs.BytePartLaws.{number_low}
use Rattle.numbers.proofs.SignedBytes.{signed_residue}
use Rattle.numbers.proofs.Choices.{and_left, and_right}
use Rattle.pixels.specs.declared.Map.{Map}
use Rattle.parts.specs.declared.shapes.Point.{Point}
use Rattle.parts.specs.Registers.{others}
use Rattle.parts.specs.Reduced.{map_reduced, point_reduced, destination_reduced, spot_reduced, term_reduced, terms_reduced}
use Rattle.rules.specs.Maps.{map_at}
use Rattle.image.specs.Counters.{counters_of, drawing_of}
use Rattle.image.specs.Inner.{same_counters}
use Rattle.image.specs.Layout.{at, image_length}
use Rattle.image.specs.Bank.{other_values}
use Rattle.image.specs.Fields.{laid, counter_fields, head_fields, map_fields, maps_fields, register_fields, fields_of}
use Rattle.image.specs.Read.{counters_from, map_from, maps_from, terms_from, ink_from, colours_from, point_from, figure_from, spot_from, pointers_from, registers_from}
use Rattle.coprocessor.specs.declared.Coprocessor.{Coprocessor}
use Rattle.coprocessor.specs.Valid.{valid_of}
use Rattle.coprocessor.specs.Images.{image_of, loaded, loads, saves, saved, load_answer}
use Rattle.coprocessor.specs.Inner.{loads_by}
use Rattle.coprocessor.proofs.ImageRules.{loads_by_lem}
use Rattle.laws.specs.Held.{Held}
use Rattle.laws.proofs.ValidFields as valid
use Rattle.laws.proofs.DrawingLaws.{counters_fit, drawing_counted, counters_same}

pub length_image : (c : Coprocessor) → length (image_of c) ≡ image_length
unfolding image_of laid fields_of head_fields counter_fields maps_fields map_fields register_fields others other_values le
length_image c = refl

-- ---- the number that a field's bytes are

pub number_whole : (n x : ℕ) → x < 256 ^ n → number_of (take n (le n x)) ≡ x
number_whole n x h = number_low n n x (le_refl n) ∙ mod-eq_of_lt h

-- ---- the parts of a record, from their bytes

map_back : (m : Map) → m.base < 2 ^ 32 → map_reduced m ≡ true
    → ◌≡◌ {A = Map}
    (record {
      base = number_of (take 4 (le 4 m.base));
      width = number_of (take 2 (le 2 m.width));
      height = number_of (take 2 (le 2 m.height));
      format = number_of (take 1 (le 1 m.format));
    })
    m
map_back m h e =
    let b = valid.map_bounds m e in
    let width = number_whole 2 m.width (omega arith) in
    let height = number_whole 2 m.height (omega arith) in
    let format = number_whole 1 m.format (omega arith) in
    λ i. record { base = number_whole 4 m.base h i; width = width i; height = height i; format = format i }

four_maps : (maps : List Map) → length maps ≡ 4 → map_at maps 0 ∷ map_at maps 1 ∷ map_at maps 2 ∷ map_at maps 3 ∷ [] ≡ maps
unfolding map_at
four_maps [] e = absurd (omega arith)
four_maps (m ∷ []) e = absurd (omega arith)
four_maps (m ∷ a ∷ []) e = absurd (omega arith)
four_maps (m ∷ a ∷ b ∷ []) e = absurd (omega arith)
four_maps (m ∷ a ∷ b ∷ c ∷ []) e = refl
four_maps (m ∷ a ∷ b ∷ c ∷ d ∷ maps) e = absurd (omega arith)

point_back : (p : Point ℕ) → point_reduced p ≡ true
    → ◌≡◌ {A = Point ℕ} (record { x = number_of (take 2 (le 2 p.x)); y = number_of (take 2 (le 2 p.y)) }) p
point_back p e =
    let b = valid.point_bounds p e in
    let x = number_whole 2 p.x (omega arith) in
    let y = number_whole 2 p.y (omega arith) in
    λ i. record { x = x i; y = y i }

coordinate_back : (z : ℤ) → destination_reduced z ≡ true → to_z w16 (number_of (take 2 (le 2 (residue (2 ^ 16) z)))) ≡ z
coordinate_back z e =
    ap (to_z w16) (number_whole 2 (residue (2 ^ 16) z) (residue_lt (2 ^ 16) (lit< tt) z)) ∙ signed_residue w16 z (valid.destination_fits z e)

term_back : (z : ℤ) → term_reduced z ≡ true → to_z w32 (number_of (take 4 (le 4 (residue (2 ^ 32) z)))) ≡ z
term_back z e =
    ap (to_z w32) (number_whole 4 (residue (2 ^ 32) z) (residue_lt (2 ^ 32) (lit< tt) z)) ∙ signed_residue w32 z (valid.term_fits z e)

-- ---- the record, from its image

module _ (c : Coprocessor) (held : Held c) (v : valid_of c ≡ true) where
  counters_back : counters_from (image_of c) ≡ counters_of c.drawing
  unfolding counters_from at image_of laid fields_of head_fields counter_fields le
  counters_back =
      let k = counters_fit c.registers.figure (valid.dimensions_reduced c v) c.drawing (valid.counters_going c v) in
      let state = number_whole 1 (counters_of c.drawing).state k.state in
      let done = number_whole 2 (counters_of c.drawing).done k.done in
      let passed = number_whole 2 (counters_of c.drawing).passed k.passed in
      let count = number_whole 1 (counters_of c.drawing).count k.count in
      λ i. record { state = state i; done = done i; passed = passed i; count = count i }

  maps_back : maps_from (image_of c) ≡ c.maps
  unfolding maps_from map_from at image_of laid fields_of head_fields counter_fields maps_fields map_fields le
  maps_back =
      let map : (field : ℕ) → _ = λ k. map_back (map_at c.maps k) (held.bases k) (valid.map_reduced_lem c v k) in
      (λ i. map 0 i ∷ map 1 i ∷ map 2 i ∷ map 3 i ∷ []) ∙ four_maps c.maps held.four

  terms_back : terms_from (image_of c) ≡ c.registers.terms
  unfolding terms_from at image_of laid fields_of head_fields counter_fields maps_fields map_fields register_fields others other_values le terms_reduced
  terms_back =
      let terms = c.registers.terms in
      let r : terms_reduced terms ≡ true = valid.terms_reduced_lem c v in
      let e = term_back terms.e (search (r, and_left, and_right)) in
      let k1 = term_back terms.k1 (search (r, and_left, and_right)) in
      let k2 = term_back terms.k2 (search (r, and_left, and_right)) in
      λ i. record { e = e i; k1 = k1 i; k2 = k2 i }

  colours_back : colours_from (image_of c) ≡ c.registers.colours
  unfolding colours_from ink_from at image_of laid fields_of head_fields counter_fields maps_fields map_fields register_fields others other_values le
  colours_back =
      let k = held.colours in
      let condition = number_whole 1 c.registers.colours.compare.condition (omega (arith, valid.condition_lt c v)) in
      λ i.
      record {
        foreground = record { mix = number_whole 1 _ k.foreground_mix i; colour = number_whole 4 _ k.foreground_colour i };
        background = record { mix = number_whole 1 _ k.background_mix i; colour = number_whole 4 _ k.background_colour i };
        compare = record { condition = condition i; value = number_whole 4 _ k.compare_value i };
        planes = number_whole 4 _ k.planes i;
        carries = number_whole 4 _ k.carries i;
      }

  figure_back : figure_from (image_of c) ≡ c.registers.figure
  unfolding figure_from point_from at image_of laid fields_of head_fields counter_fields maps_fields map_fields register_fields others other_values le
  figure_back =
      let f = c.registers.figure in
      λ i.
      record {
        operations = number_whole 4 f.operations held.figure.operations i;
        steps = number_whole 4 f.steps held.figure.steps i;
        dimensions = point_back f.dimensions (valid.dimensions_reduced c v) i;
        origin = point_back f.origin (valid.origin_reduced c v) i;
      }

  pointers_back : pointers_from (image_of c) ≡ c.registers.pointers
  unfolding pointers_from point_from spot_from at image_of laid fields_of head_fields counter_fields maps_fields map_fields register_fields others other_values le
      spot_reduced
  pointers_back =
      let p = c.registers.pointers in
      let r : spot_reduced p.destination ≡ true = valid.destination_reduced_lem c v in
      let x = coordinate_back p.destination.x (search (r, and_left)) in
      let y = coordinate_back p.destination.y (search (r, and_right)) in
      λ i.
      record {
        source = point_back p.source (valid.source_reduced c v) i;
        pattern = point_back p.pattern (valid.pattern_reduced c v) i;
        destination = record { x = x i; y = y i };
      }

  registers_back : registers_from (image_of c) ≡ c.registers
  unfolding registers_from at image_of laid fields_of head_fields counter_fields le
  registers_back =
      let index = number_whole 1 c.registers.index (omega (arith, valid.index_lt c v)) in
      λ i. record { index = index i; terms = terms_back i; colours = colours_back i; figure = figure_back i; pointers = pointers_back i }

  drawing_back : drawing_of (registers_from (image_of c)).figure.operations (counters_from (image_of c)) ≡ c.drawing
  drawing_back =
      (λ i. drawing_of (registers_back i).figure.operations (counters_back i))
      ∙ drawing_counted c.registers.figure c.drawing (valid.counters_going c v)

  pub loaded_image : loaded (image_of c) ≡ c
  unfolding loaded at image_of laid fields_of head_fields le
  loaded_image =
      λ i. record { size = number_whole 4 c.size (valid.size_lt c v) i; maps = maps_back i; registers = registers_back i; drawing = drawing_back i }

  pub loads_image : loads (image_of c) ≡ true
  unfolding loads_by at image_of laid fields_of head_fields counter_fields maps_fields map_fields register_fields others other_values le number_of
  loads_image =
      let same : same_counters (counters_from (image_of c)) (counters_of (loaded (image_of c)).drawing) ≡ true =
      rw (loaded_image, counters_back) (counters_same (counters_of c.drawing)) in
      rw (← loads_by_lem (image_of c), same, loaded_image, v)

pub image_injective : (c d : Coprocessor) → Held c → Held d → valid_of c ≡ true → valid_of d ≡ true → image_of c ≡ image_of d → c ≡ d
image_injective c d hc hd vc vd e = sym (loaded_image c hc vc) ∙ ap loaded e ∙ loaded_image d hd vd

-- ---- save, then load into any coprocessor

pub load_save : (c d : Coprocessor) (b : List ℕ) → Held c → valid_of c ≡ true → length b ≡ image_length
    → load_answer d (saved c b) ≡ record { outcome = Ok tt; coprocessor = c }
unfolding saved saves load_answer
load_save c d b held v long = rw (eq-eqb (length b) image_length long, v, loads_image c held v, loaded_image c held v)
