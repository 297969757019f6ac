-- A position changes at most the byte of its destination pixel: of all fates only `Painted` puts a pixel, and that one lies on the map.
use mathlib.Core.Path.{◌≡◌, refl, sym, ◌∙◌}
use mathlib.Core.Bool.{Bool, true, false, not, false≢true, and-eq-true_iff}
use mathlib.Core.List.{List}
use Prim.Native.Nat.{ℕ, ◌≤◌, ◌<◌}
use lib.ListN.{length, get_or}
use Rattle.numbers.specs.Choose.{choose}
use Rattle.numbers.proofs.Choices.{by_test}
use Rattle.pixels.specs.Maps.{place_of}
use Rattle.pixels.specs.Pixels.{with_pixel}
use Rattle.pixels.proofs.Pixels.{length_put, byte_put_other, byte_put_lt}
use Rattle.moves.specs.declared.Pen.{Pen}
use Rattle.places.specs.declared.Brush.{Brush}
use Rattle.places.specs.declared.Setup.{Setup}
use Rattle.places.specs.Places.{is_within, column_of, place_x, on_map, in_mask, is_move, is_nulled}
use Rattle.places.proofs.Columns.{within_column}
use Rattle.position.specs.declared.Fate.{Fate}
use Rattle.position.specs.declared.Fate.TheVariants.{Moved, Nulled, OutsideMap, OutsideMask, MaskZero, Compared, Painted}
use Rattle.position.specs.Fates.{on_zero, is_compared, fate_of}
use Rattle.position.specs.Drawn.{mixed_pixel, drawn_by, drawn}
use Rattle.std.specs.Prelude.{Result, Ok, Err}
use Rattle.position.specs.Inner.{is_painted, foreseen_of}

-- the destination's column and row
abbrev column : Brush → Pen → ℕ
column b pen = column_of (place_x b pen)

abbrev row : Pen → ℕ
row pen = column_of pen.pointers.destination.y

-- a position on the map is a pixel of it
pub on_map_lem : (b : Brush) (pen : Pen) → on_map b pen ≡ true → (column b pen ≤ b.destination.width) × (row pen ≤ b.destination.height)
unfolding on_map
on_map_lem b pen e =
    let h = (and-eq-true_iff (is_within b.destination.width (place_x b pen)) _).0 e in
    (within_column _ (place_x b pen) h.0, within_column _ pen.pointers.destination.y h.1)

-- the fate of a position that moves, is nulled, or lies outside its map or the mask boundary, and otherwise
abbrev pub fated : Bool → Bool → Bool → Bool → Fate → Fate
fated moves nulled on inside f = choose moves Moved (choose nulled Nulled (choose (not on) OutsideMap (choose (not inside) OutsideMask f)))

module _ (s : Setup) (memory : List ℕ) (pen : Pen) where
  -- ---- what is foreseen, and what becomes of it

  -- where a position may be painted, the mask and the compare condition tell
  abbrev pub judged : Fate
  judged = choose (on_zero s.brush memory pen) MaskZero (choose (is_compared s.brush memory pen) Compared Painted)

  -- a position that nothing keeps back is inside its map and the mask boundary, and then judged; another has the fate that is foreseen
  by_foreseen : (P : Result Unit Fate → Fate → Type 0) → (on_map s.brush pen ≡ true → in_mask s.brush pen ≡ true → P (Ok tt) judged)
      → ((f : Fate) → is_painted f ≡ false → P (Err f) f)
      → P (foreseen_of s pen) (fate_of s memory pen)
  unfolding foreseen_of fate_of
  by_foreseen P free held = by (is_move s.travel pen.drawing) (is_nulled s pen) (on_map s.brush pen) (in_mask s.brush pen) refl refl
    where
      by : (moves nulled on inside : Bool) → on_map s.brush pen ≡ on → in_mask s.brush pen ≡ inside
          → P (choose moves (Err Moved) (choose nulled (Err Nulled) (choose (not on) (Err OutsideMap) (choose (not inside) (Err OutsideMask) (Ok tt)))))
          (fated moves nulled on inside judged)
      by true nulled on inside o i = held Moved refl
      by false true on inside o i = held Nulled refl
      by false false false inside o i = held OutsideMap refl
      by false false true false o i = held OutsideMask refl
      by false false true true o i = free o i

  pub free : foreseen_of s pen ≡ Ok tt → (on_map s.brush pen ≡ true) × (in_mask s.brush pen ≡ true) × (fate_of s memory pen ≡ judged)
  free =
      by_foreseen (λ a b. a ≡ Ok tt → (on_map s.brush pen ≡ true) × (in_mask s.brush pen ≡ true) × (b ≡ judged))
      (λ on inside e. (on, inside, refl)) (λ f no e. absurd (cc))

  pub kept_back : (f : Fate) → foreseen_of s pen ≡ Err f → (f ≡ fate_of s memory pen) × (is_painted f ≡ false)
  kept_back f =
      by_foreseen (λ a b. a ≡ Err f → (f ≡ b) × (is_painted f ≡ false)) (λ on inside e. absurd (cc)) (λ g no e. (cc, cc))

  -- a painted position is inside its map and the mask boundary
  pub painted_inside : is_painted (fate_of s memory pen) ≡ true → (on_map s.brush pen ≡ true) × (in_mask s.brush pen ≡ true)
  painted_inside =
      by_foreseen (λ a b. is_painted b ≡ true → (on_map s.brush pen ≡ true) × (in_mask s.brush pen ≡ true))
      (λ on inside e. (on, inside)) (λ f no e. absurd (false≢true (sym no ∙ e)))

  -- it was foreseen as one that may be painted, and is not on a 0 mask pixel
  pub painted_open : is_painted (fate_of s memory pen) ≡ true → (foreseen_of s pen ≡ Ok tt) × (on_zero s.brush memory pen ≡ false)
  painted_open =
      by_foreseen (λ a b. is_painted b ≡ true → (a ≡ Ok tt) × (on_zero s.brush memory pen ≡ false))
      (λ on inside e. (refl, by (on_zero s.brush memory pen) (is_compared s.brush memory pen) e)) (λ f no e. absurd (false≢true (sym no ∙ e)))
    where
      by : (zero compared : Bool) → is_painted (choose zero MaskZero (choose compared Compared Painted)) ≡ true → zero ≡ false
      by true compared e = absurd (false≢true e)
      by false compared e = refl

  pub painted_on_map : is_painted (fate_of s memory pen) ≡ true → on_map s.brush pen ≡ true
  painted_on_map e = (painted_inside e).0

  -- ---- what is drawn

  -- memory with the destination pixel mixed
  abbrev pub put : List ℕ
  put = with_pixel memory s.brush.destination (column s.brush pen) (row pen) (mixed_pixel s memory pen)

  pub drawn_by_lem : (f : Fate) → drawn_by f s memory pen ≡ choose (is_painted f) put memory
  unfolding drawn_by
  drawn_by_lem Moved = refl
  drawn_by_lem Nulled = refl
  drawn_by_lem OutsideMap = refl
  drawn_by_lem OutsideMask = refl
  drawn_by_lem MaskZero = refl
  drawn_by_lem Compared = refl
  drawn_by_lem Painted = refl

  -- what holds of memory, and of memory with the pixel mixed where that is painted, holds of what is drawn
  pub by_fate : (P : List ℕ → Type 0) → P memory → (is_painted (fate_of s memory pen) ≡ true → P put) → P (drawn s memory pen)
  unfolding drawn
  by_fate P old new = rw (drawn_by_lem (fate_of s memory pen)) (by_test P (is_painted (fate_of s memory pen)) new (λ no. old))

  pub length_drawn : length (drawn s memory pen) ≡ length memory
  length_drawn = by_fate (λ (m : List ℕ). length m ≡ length memory) refl (λ e. length_put memory _ _ _ _)

  -- every byte but the destination pixel's stays
  pub drawn_elsewhere : (j : ℕ) → (j ≡ place_of s.brush.destination (column s.brush pen) (row pen) → ⊥)
      → get_or (drawn s memory pen) j 0 ≡ get_or memory j 0
  drawn_elsewhere j ne = by_fate (λ (m : List ℕ). get_or m j 0 ≡ get_or memory j 0) refl (λ e. byte_put_other memory _ _ _ _ j ne)

  -- a byte of no pixel of the destination map stays
  pub drawn_other : (j : ℕ)
      → ((x y : ℕ) → x ≤ s.brush.destination.width → y ≤ s.brush.destination.height → j ≡ place_of s.brush.destination x y → ⊥)
      → get_or (drawn s memory pen) j 0 ≡ get_or memory j 0
  drawn_other j ne =
      by_fate (λ (m : List ℕ). get_or m j 0 ≡ get_or memory j 0) refl
      (λ e. let h = on_map_lem s.brush pen (painted_on_map e) in byte_put_other memory _ _ _ _ j (ne _ _ h.0 h.1))

  -- bytes stay bytes
  pub drawn_bytes : ((j : ℕ) → get_or memory j 0 < 256) → (j : ℕ) → get_or (drawn s memory pen) j 0 < 256
  drawn_bytes h = by_fate (λ (m : List ℕ). (j : ℕ) → get_or m j 0 < 256) h (λ e. byte_put_lt memory _ _ _ _ h)
