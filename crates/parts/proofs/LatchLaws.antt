-- A group that the write does not reach stays, and what was reduced stays reduced in any write, since each of its registers does.
use mathlib.Core.Path.{◌≡◌}
use mathlib.Core.Bool.{true, false}
use Prim.Native.Nat.{ℕ, ◌+◌, ◌≤◌}
use lib.Dec.{lit≤}
use lib.IntN.{ℤ}
use Rattle.numbers.specs.declared.bytes.Write.{Write}
use Rattle.pixels.specs.declared.Map.{Map}
use Rattle.parts.specs.declared.shapes.Terms.{Terms}
use Rattle.parts.specs.declared.shapes.Point.{Point}
use Rattle.parts.specs.declared.shapes.Colours.{Colours}
use Rattle.parts.specs.declared.shapes.Figure.{Figure}
use Rattle.parts.specs.declared.shapes.Pointers.{Pointers}
use Rattle.parts.specs.declared.shapes.Registers.{Registers}
use Rattle.parts.specs.Registers as table
use Rattle.parts.specs.Registers.{Register, twelve}
use Rattle.parts.specs.Takes.{touched, taken, taken_onto}
use Rattle.parts.specs.Latches.{map_latched, terms_latched, ink_latched, compare_latched, point_latched, spot_latched}
use Rattle.parts.specs.Latches.{colours_latched, figure_latched, pointers_latched, registers_latched}
use Rattle.parts.specs.Reduced.{map_reduced, terms_reduced, colours_reduced, point_reduced, figure_reduced, spot_reduced, pointers_reduced, registers_reduced}
use Rattle.parts.proofs.TakeLaws.{taken_untouched, onto_untouched}
use Rattle.parts.proofs.ReducedLaws.{both_kept, low_taken_reduced, term_taken_reduced, destination_taken_reduced}

-- ---- a group that the write does not reach

module _ (w : Write) where
  pub map_untouched : (m : Map) → touched 9 0x14 w ≡ false → map_latched w m ≡ m
  unfolding map_latched
  map_untouched m apart =
      let stays : (r : Register) → 0x14 ≤ r.at → r.at + r.bytes ≤ 0x1D → (x : ℕ) → taken r w x ≡ x = taken_untouched 9 0x14 w apart in
      λ i.
      record {
        base = stays table.map_base (lit≤ tt) (lit≤ tt) m.base i;
        width = stays table.map_width (lit≤ tt) (lit≤ tt) m.width i;
        height = stays table.map_height (lit≤ tt) (lit≤ tt) m.height i;
        format = stays table.map_format (lit≤ tt) (lit≤ tt) m.format i;
      }

  pub terms_untouched : (t : Terms) → touched 12 0x20 w ≡ false → terms_latched w t ≡ t
  unfolding terms_latched
  terms_untouched t apart =
      let stays : (r : Register) → 0x20 ≤ r.at → r.at + r.bytes ≤ 0x2C → (z : ℤ) → taken_onto r w z ≡ z = onto_untouched 12 0x20 w apart in
      λ i.
      record {
        e = stays table.error_term (lit≤ tt) (lit≤ tt) t.e i;
        k1 = stays table.first_constant (lit≤ tt) (lit≤ tt) t.k1 i;
        k2 = stays table.second_constant (lit≤ tt) (lit≤ tt) t.k2 i;
      }

  pub colours_untouched : (c : Colours) → touched 24 0x48 w ≡ false → colours_latched w c ≡ c
  unfolding ink_latched compare_latched colours_latched
  colours_untouched c apart =
      let stays : (r : Register) → 0x48 ≤ r.at → r.at + r.bytes ≤ 0x60 → (x : ℕ) → taken r w x ≡ x = taken_untouched 24 0x48 w apart in
      let mix = stays table.foreground_mix (lit≤ tt) (lit≤ tt) c.foreground.mix in
      let colour = stays table.foreground_colour (lit≤ tt) (lit≤ tt) c.foreground.colour in
      let behind = stays table.background_mix (lit≤ tt) (lit≤ tt) c.background.mix in
      let other = stays table.background_colour (lit≤ tt) (lit≤ tt) c.background.colour in
      let condition = stays table.compare_condition (lit≤ tt) (lit≤ tt) c.compare.condition in
      let value = stays table.compare_value (lit≤ tt) (lit≤ tt) c.compare.value in
      λ i.
      record {
        foreground = record { mix = mix i; colour = colour i };
        background = record { mix = behind i; colour = other i };
        compare = record { condition = condition i; value = value i };
        planes = stays table.plane_mask (lit≤ tt) (lit≤ tt) c.planes i;
        carries = stays table.carry_mask (lit≤ tt) (lit≤ tt) c.carries i;
      }

  pub pointers_untouched : (p : Pointers) → touched 12 0x70 w ≡ false → pointers_latched w p ≡ p
  unfolding point_latched spot_latched pointers_latched
  pointers_untouched p apart =
      let stays : (r : Register) → 0x70 ≤ r.at → r.at + r.bytes ≤ 0x7C → (x : ℕ) → taken r w x ≡ x = taken_untouched 12 0x70 w apart in
      let lies : (r : Register) → 0x70 ≤ r.at → r.at + r.bytes ≤ 0x7C → (z : ℤ) → taken_onto r w z ≡ z = onto_untouched 12 0x70 w apart in
      let x = stays table.source_x (lit≤ tt) (lit≤ tt) p.source.x in
      let y = stays table.source_y (lit≤ tt) (lit≤ tt) p.source.y in
      let u = stays table.pattern_x (lit≤ tt) (lit≤ tt) p.pattern.x in
      let v = stays table.pattern_y (lit≤ tt) (lit≤ tt) p.pattern.y in
      let across = lies table.destination_x (lit≤ tt) (lit≤ tt) p.destination.x in
      let down = lies table.destination_y (lit≤ tt) (lit≤ tt) p.destination.y in
      λ i. record { source = record { x = x i; y = y i }; pattern = record { x = u i; y = v i }; destination = record { x = across i; y = down i } }

-- ---- what is reduced

pub map_latched_reduced : (w : Write) (m : Map) → map_reduced m ≡ true → map_reduced (map_latched w m) ≡ true
unfolding map_reduced map_latched
map_latched_reduced w m =
    both_kept (both_kept (low_taken_reduced 12 2 0x18 w m.width) (low_taken_reduced 12 2 0x1A w m.height))
    (low_taken_reduced 4 1 0x1C w m.format)

terms_latched_reduced : (w : Write) (t : Terms) → terms_reduced t ≡ true → terms_reduced (terms_latched w t) ≡ true
unfolding terms_reduced terms_latched
terms_latched_reduced w t =
    both_kept (both_kept (term_taken_reduced 0x20 w t.e) (term_taken_reduced 0x24 w t.k1)) (term_taken_reduced 0x28 w t.k2)

colours_latched_reduced : (w : Write) (c : Colours) → colours_reduced c ≡ true → colours_reduced (colours_latched w c) ≡ true
unfolding colours_reduced colours_latched compare_latched
colours_latched_reduced w c = low_taken_reduced 3 1 0x4A w c.compare.condition

point_latched_reduced : (at : ℕ) (w : Write) (p : Point ℕ) → point_reduced p ≡ true → point_reduced (point_latched (twelve at) (twelve (at + 2)) w p) ≡ true
unfolding point_reduced point_latched
point_latched_reduced at w p = both_kept (low_taken_reduced 12 2 at w p.x) (low_taken_reduced 12 2 (at + 2) w p.y)

figure_latched_reduced : (w : Write) (f : Figure) → figure_reduced f ≡ true → figure_reduced (figure_latched w f) ≡ true
unfolding figure_reduced figure_latched
figure_latched_reduced w f = both_kept (point_latched_reduced 0x60 w f.dimensions) (point_latched_reduced 0x6C w f.origin)

spot_latched_reduced : (w : Write) (s : Point ℤ) → spot_reduced s ≡ true → spot_reduced (spot_latched w s) ≡ true
unfolding spot_reduced spot_latched
spot_latched_reduced w s = both_kept (destination_taken_reduced 0x78 w s.x) (destination_taken_reduced 0x7A w s.y)

pointers_latched_reduced : (w : Write) (p : Pointers) → pointers_reduced p ≡ true → pointers_reduced (pointers_latched w p) ≡ true
unfolding pointers_reduced pointers_latched
pointers_latched_reduced w p =
    both_kept (both_kept (point_latched_reduced 0x70 w p.source) (point_latched_reduced 0x74 w p.pattern))
    (spot_latched_reduced w p.destination)

pub registers_latched_reduced : (w : Write) (r : Registers) → registers_reduced r ≡ true → registers_reduced (registers_latched w r) ≡ true
unfolding registers_reduced registers_latched
registers_latched_reduced w r =
    both_kept
    (both_kept
    (both_kept
    (both_kept (low_taken_reduced 2 1 0x12 w r.index) (terms_latched_reduced w r.terms))
    (colours_latched_reduced w r.colours))
    (figure_latched_reduced w r.figure))
    (pointers_latched_reduced w r.pointers)
