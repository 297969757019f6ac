-- A pixel within the edges of the map and the mask boundary lies on the map, and inside the boundary.
use Rattle.std.proofs.Common.{◌≡◌, ℕ, ◌+◌, ◌≤◌, min, Bool, true, false, ◌&&◌, ◌||◌, ℤ, pos, ◌-ℤ◌, refl, ap, ◌∙◌, le_trans, le-leb}
use native.Mathlib.Nat.{min-le_left, min-le_right}
use lib.Signed.{lt_z}
use Rattle.numbers.specs.Choose.{choose}
use Rattle.numbers.proofs.Choices.{choose_false, and_both}
use Rattle.moves.specs.declared.Pen.{Pen}
use Rattle.places.specs.declared.Brush.{Brush}
use Rattle.places.specs.Places.{is_within, column_of, place_x, on_map, mask_x, mask_y, named_mask, is_disabled, in_mask}
use Rattle.runs.specs.Inner.{left_edge, right_edge, top_edge, bottom_edge}
use Rattle.runs.proofs.PlaceLaws.{edge_below, within_mask}

module _ (b : Brush) (q : Pen) (x y : ℕ) (edge : lt_z b.edge (pos 0) ≡ true) (here : q.pointers.destination.x ≡ pos x)
    (there : q.pointers.destination.y ≡ pos y) (columns : (left_edge b ≤ x) × (x ≤ right_edge b)) (rows : (top_edge b ≤ y) × (y ≤ bottom_edge b)) where
  place_in : place_x b q ≡ pos x
  unfolding place_x
  place_in = (λ j. choose (lt_z (here j) b.edge) b.edge (here j)) ∙ choose_false b.edge (pos x) (edge_below b.edge x edge)

  pub column_in_lem : column_of (place_x b q) ≡ x
  unfolding column_of
  column_in_lem = ap column_of place_in

  pub row_in_lem : column_of q.pointers.destination.y ≡ y
  unfolding column_of
  row_in_lem = ap column_of there

  pub width_in : x ≤ b.destination.width
  width_in = le_trans columns.1 (le_trans (min-le_left _ _) (min-le_left _ _))

  pub height_in : y ≤ b.destination.height
  height_in = le_trans rows.1 (le_trans (min-le_left _ _) (min-le_left _ _))

  pub on_in : on_map b q ≡ true
  unfolding on_map is_within
  on_in =
      and_both (is_within b.destination.width (place_x b q)) _
      (ap (is_within b.destination.width) place_in ∙ le-leb x b.destination.width width_in)
      (ap (is_within b.destination.height) there ∙ le-leb y b.destination.height height_in)

  pub inside_in : in_mask b q ≡ true
  unfolding in_mask mask_x mask_y
  inside_in = by (is_disabled (named_mask b.mask.mode)) columns.0 columns.1 rows.0 rows.1
    where
      by : (t : Bool) → choose t 0 b.mask.origin.x ≤ x → x ≤ min (min b.destination.width 6143) (choose t 6143 (b.mask.origin.x + b.mask.map.width))
          → choose t 0 b.mask.origin.y ≤ y → y ≤ min (min b.destination.height 6143) (choose t 6143 (b.mask.origin.y + b.mask.map.height))
          → (t || (is_within b.mask.map.width (mask_x b q) && is_within b.mask.map.height (mask_y b q))) ≡ true
      by true left right top bottom = refl
      by false left right top bottom =
          and_both (is_within b.mask.map.width (mask_x b q)) _
          (ap (λ (z : ℤ). is_within b.mask.map.width (z -ℤ pos b.mask.origin.x)) place_in
          ∙ within_mask x b.mask.origin.x b.mask.map.width left (le_trans right (min-le_right _ _)))
          (ap (λ (z : ℤ). is_within b.mask.map.height (z -ℤ pos b.mask.origin.y)) there
          ∙ within_mask y b.mask.origin.y b.mask.map.height top (le_trans bottom (min-le_right _ _)))
