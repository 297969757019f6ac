-- Where the positions of a stretch lie: each one column further than the one before, inside the map and the mask boundary.
use Rattle.std.proofs.Common.{◌≡◌, ℕ, zero, suc, ◌+◌, ◌-◌, ◌<◌, ◌≤◌, min, Bool, true, false, ◌&&◌, ◌||◌, ℤ, pos, negsuc, ◌-ℤ◌, sym, refl, ap, ◌∙◌, le_trans, arith, ltb-true, le-leb}
use mathlib.Core.Bool.{false≢true}
use native.Mathlib.Nat.{min-le_left, min-le_right}
use lib.Signed.{lt_z}
use Rattle.numbers.specs.Choose.{choose}
use Rattle.numbers.proofs.CircleLaws.{sub_cases}
use Rattle.numbers.proofs.Choices.{by_test, choose_false, and_both, and_left, and_right}
use Rattle.rows.specs.Inner.{along}
use Rattle.moves.specs.declared.Turn.{Turn}
use Rattle.moves.specs.declared.Turn.TheVariants.{Stay, Forth, Back}
use Rattle.moves.specs.declared.Pen.{Pen}
use Rattle.moves.specs.Turns.{turned_by, circled_by}
use Rattle.moves.specs.Inner.{columns_passed}
use Rattle.moves.proofs.ColumnLaws.{circled_forth, circled_back, turned_forth, turned_back}
use Rattle.places.specs.declared.Brush.{Brush}
use Rattle.places.specs.declared.Setup.{Setup}
use Rattle.places.specs.Places.{is_within, column_of, place_x, on_map, mask_x, mask_y, named_mask, is_disabled, in_mask}
use Rattle.places.proofs.Columns.{within_place}
use Rattle.runs.specs.Inner.{columns_on, left_edge, right_edge, goes_across, goes_back, Spans, column_at}

-- of two tests neither holds
pub neither : (a b : Bool) → (a || b) ≡ false → (a ≡ false) × (b ≡ false)
neither true b e = absurd (false≢true (sym e))
neither false b e = (refl, e)

-- ---- spans

pub spans_fewer : (back : Bool) (here j k low high : ℕ) → j ≤ k → Spans back here k low high → Spans back here j low high
spans_fewer true here j k low high less h = (omega (arith, h.0), h.1)
spans_fewer false here j k low high less h = (h.0, omega (arith, h.1))

pub spans_wider : (back : Bool) (here k low high wider : ℕ) → high ≤ wider → Spans back here k low high → Spans back here k low wider
spans_wider true here k low high wider more h = (h.0, omega (arith, h.1))
spans_wider false here k low high wider more h = (h.0, omega (arith, h.1))

-- the i-th place of a span
pub spans_at : (back : Bool) (here k low high i : ℕ) → i < k → Spans back here k low high → (low ≤ along back here i) × (along back here i ≤ high)
spans_at true here k low high i less h = (omega (arith, h.0), omega (arith, h.1))
spans_at false here k low high i less h = (omega (arith, h.0), omega (arith, h.1))

-- the last column that may be painted is one of the map
pub right_in : (b : Brush) → right_edge b ≤ b.destination.width
right_in b = le_trans (min-le_left _ _) (min-le_left _ _)

-- ---- pointers in a row

-- a pointer of a map that does not wrap
pub turned_along : (t : Turn) (x k last i : ℕ) → goes_across t ≡ true → i < k → Spans (goes_back t) x k 0 last → turned_by t i last x ≡ along (goes_back t) x i
turned_along Stay x k last i across less h = absurd (false≢true across)
turned_along Forth x k last i across less h = turned_forth x i last (omega (arith, h.1))
turned_along Back x k last i across less h = turned_back x i last (omega (arith, h.0)) h.1

-- the destination's
pub circled_along : (t : Turn) (x k low high i : ℕ) → goes_across t ≡ true → i < k → high ≤ 6143 → Spans (goes_back t) x k low high
    → circled_by t i (pos x) ≡ pos (along (goes_back t) x i)
circled_along Stay x k low high i across less top h = absurd (false≢true across)
circled_along Forth x k low high i across less top h = circled_forth x i (omega (arith, h.1))
circled_along Back x k low high i across less top h = circled_back x i (omega (arith, h.0)) (omega (arith, h.1))

-- ---- the destination

-- a negative edge is below every column
pub edge_below : (edge : ℤ) (n : ℕ) → lt_z edge (pos 0) ≡ true → lt_z (pos n) edge ≡ false
edge_below (pos e) n below = absurd (let h = ltb-true e 0 below in omega arith)
edge_below (negsuc e) n below = refl

-- and no column
edge_outside : (last : ℕ) (edge : ℤ) → lt_z edge (pos 0) ≡ true → is_within last edge ≡ true → ⊥
unfolding is_within
edge_outside last (pos e) below within = let h = ltb-true e 0 below in omega arith
edge_outside last (negsuc e) below within = false≢true within

-- on the map the destination's X is not below the edge
pub on_column : (b : Brush) (pen : Pen) → lt_z b.edge (pos 0) ≡ true → on_map b pen ≡ true → pen.pointers.destination.x ≡ pos (column_of (place_x b pen))
unfolding on_map place_x
on_column b pen edge on =
    let x = pen.pointers.destination.x in
    by_test (λ (z : ℤ). is_within b.destination.width z ≡ true → x ≡ pos (column_of z)) (lt_z x b.edge)
    (λ less within. absurd (edge_outside b.destination.width b.edge edge within)) (λ more within. within_place b.destination.width x within)
    (and_left (is_within b.destination.width (place_x b pen)) _ on)

-- nor is its Y below 0
pub on_row : (b : Brush) (pen : Pen) → on_map b pen ≡ true → pen.pointers.destination.y ≡ pos (column_of pen.pointers.destination.y)
unfolding on_map
on_row b pen on = within_place b.destination.height _ (and_right (is_within b.destination.width (place_x b pen)) _ on)

-- a column from the mask's first to its last is within the mask
pub within_mask : (n origin last : ℕ) → origin ≤ n → n ≤ origin + last → is_within last (pos n -ℤ pos origin) ≡ true
unfolding is_within
within_mask n zero last low high = le-leb (n + 0) last (omega arith)
within_mask n (suc origin) last low high =
    sub_cases (λ (z : ℤ). is_within last z ≡ true) n (suc origin) (λ less. absurd (omega arith)) (λ more. le-leb (n - suc origin) last (omega arith))

module _ (s : Setup) (pen : Pen) (k : ℕ) (edge : lt_z s.brush.edge (pos 0) ≡ true) (across : goes_across s.travel.course.x ≡ true)
    (on : on_map s.brush pen ≡ true) (inside : in_mask s.brush pen ≡ true)
    (spans : Spans (goes_back s.travel.course.x) (column_at s pen) k (left_edge s.brush) (right_edge s.brush)) where
  abbrev b : Brush
  b = s.brush

  abbrev back : Bool
  back = goes_back s.travel.course.x

  -- the i-th column
  abbrev col : ℕ → ℕ
  col i = along back (column_at s pen) i

  -- the pen there
  abbrev at : ℕ → Pen
  at i = columns_on s.travel i pen

  module _ (i : ℕ) (less : i < k) where
    left_le : left_edge b ≤ col i
    left_le = (spans_at back (column_at s pen) k (left_edge b) (right_edge b) i less spans).0

    right_le : col i ≤ right_edge b
    right_le = (spans_at back (column_at s pen) k (left_edge b) (right_edge b) i less spans).1

    column_in_lem : col i ≤ b.destination.width
    column_in_lem = le_trans right_le (right_in b)

    there : (at i).pointers.destination.x ≡ pos (col i)
    unfolding columns_passed
    there =
        ap (circled_by s.travel.course.x i) (on_column b pen edge on)
        ∙ circled_along s.travel.course.x (column_at s pen) k (left_edge b) (right_edge b) i across less (le_trans (min-le_left _ _) (min-le_right _ _)) spans

    pub place_at_lem : place_x b (at i) ≡ pos (col i)
    unfolding place_x
    place_at_lem =
        (λ j. choose (lt_z (there j) b.edge) b.edge (there j)) ∙ choose_false b.edge (pos (col i)) (edge_below b.edge (col i) edge)

    pub column_at_lem : column_at s (at i) ≡ col i
    unfolding column_of
    column_at_lem = ap column_of place_at_lem

    pub on_at : on_map b (at i) ≡ true
    unfolding on_map is_within columns_passed
    on_at =
        and_both (is_within b.destination.width (place_x b (at i))) _
        (ap (is_within b.destination.width) place_at_lem ∙ le-leb (col i) b.destination.width column_in_lem)
        (and_right (is_within b.destination.width (place_x b pen)) _ on)

    pub inside_at_lem : in_mask b (at i) ≡ true
    unfolding in_mask mask_x mask_y columns_passed
    inside_at_lem = by (is_disabled (named_mask b.mask.mode)) left_le right_le inside
      where
        by : (t : Bool) → choose t 0 b.mask.origin.x ≤ col i
            → col i ≤ min (min b.destination.width 6143) (choose t 6143 (b.mask.origin.x + b.mask.map.width))
            → (t || (is_within b.mask.map.width (mask_x b pen) && is_within b.mask.map.height (mask_y b pen))) ≡ true
            → (t || (is_within b.mask.map.width (mask_x b (at i)) && is_within b.mask.map.height (mask_y b (at i)))) ≡ true
        by true low high h = refl
        by false low high h =
            and_both (is_within b.mask.map.width (mask_x b (at i))) _
            (ap (λ (z : ℤ). is_within b.mask.map.width (z -ℤ pos b.mask.origin.x)) place_at_lem
            ∙ within_mask (col i) b.mask.origin.x b.mask.map.width low (le_trans high (min-le_right _ _)))
            (and_right (is_within b.mask.map.width (mask_x b pen)) _ h)
