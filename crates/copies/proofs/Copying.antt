-- Each position of a copy puts its source pixel into its destination pixel, and leaves the source's map and every other pixel of the destination's as they
-- are; so by induction on the positions done each is there.
use mathlib.Core.Path.{◌≡◌, refl, sym, ap, ap₂, ◌∙◌}
use mathlib.Core.Bool.{true, false}
use mathlib.Core.List.{List}
use mathlib.Core.Logic.{⊎_elim}
use Prim.Native.Nat.{ℕ, zero, suc, ◌+◌, ◌-◌, ◌*◌, ◌/◌, ◌%◌, ◌^◌, ◌≤◌, ◌<◌}
use native.Mathlib.Nat.{mod-lt, mod-eq_of_lt, div-add-mod', div-lt_iff_lt-mul}
use native.Mathlib.Omega.{arith}
use lib.IntN.{ℤ, pos, negsuc}
use lib.ListN.{length}
use lib.Signed.{lt_z}
use borrow.Author.Tests.{leb-true, le-ltb}
use Rattle.numbers.specs.Choose.{choose}
use Rattle.numbers.proofs.Choices.{choose_true, and_left, and_right, and_both}
use Rattle.numbers.proofs.Order.{eq_or_ne}
use Rattle.pixels.specs.declared.Map.{Map}
use Rattle.pixels.specs.Maps.{bits_of, place_of, Apart}
use Rattle.pixels.specs.Pixels.{pixel_at, with_pixel}
use Rattle.pixels.proofs.Pixels.{pixel_lt, put_get, get_put_same, get_put_other}
use Rattle.mixes.specs.Mixes.{mixed}
use Rattle.mixes.proofs.Mixed.{mixed_source}
use Rattle.parts.specs.declared.shapes.Ink.{Ink}
use Rattle.parts.specs.declared.shapes.Point.{Point}
use Rattle.parts.specs.declared.shapes.Pointers.{Pointers}
use Rattle.parts.specs.declared.drawing.Drawing.TheVariants.{Block}
use Rattle.parts.specs.Reduced.{destination_reduced}
use Rattle.parts.proofs.ReducedLaws.{destination_circle_reduced}
use Rattle.rules.proofs.PointerLaws.{inside_x, inside_y}
use Rattle.moves.specs.declared.Pen.{Pen}
use Rattle.moves.specs.Decoded.{sign_of}
use Rattle.moves.proofs.TurnLaws.{turned_in}
use Rattle.moves.proofs.CircledLaws.{OnCircle, circled_on, circled_apart}
use Rattle.places.specs.declared.MaskMode.TheVariants.{Disabled}
use Rattle.places.specs.declared.Setup.{Setup}
use Rattle.places.specs.Places.{is_within, column_of, place_x, on_map, named_mask, is_move, is_first, is_last, on_boundary, named_mode, nulled_by, is_nulled}
use Rattle.places.proofs.Columns.{within_column, within_place}
use Rattle.places.proofs.ModeLaws.{none_left}
use Rattle.position.specs.declared.Fate.TheVariants.{Painted}
use Rattle.position.specs.Fates.{destination_pixel, fate_of}
use Rattle.position.specs.Drawn.{source_pixel, is_foreground, ink_of, picked, mixed_pixel, drawn_by, drawn}
use Rattle.position.proofs.Plain.{unbounded, unmasked, never, foreground, foreground_ink}
use Rattle.position.proofs.Writing.{on_map_lem, painted_on_map, by_fate}
use Rattle.runs.specs.Runs.{Run, positioned, stepped, after}
use Rattle.runs.proofs.RunLaws.{length_after, pixels_after}
use Rattle.copies.proofs.Positions.{Blocks, source_at, destination_at, At, on_position, at_position}

-- how a copy is set up
pub record Copies (s : Setup) : Type 0 where
  pub edge : s.brush.edge ≡ negsuc 2047
  pub mask : named_mask s.brush.mask.mode ≡ Disabled
  pub condition : s.brush.colours.compare.condition ≡ 4
  pub pattern : s.travel.pattern.used ≡ false
  pub derived : s.brush.flow.derived ≡ false
  pub source : s.brush.flow.foreground ≡ true
  pub mix : s.brush.colours.foreground.mix ≡ 3
  pub size : bits_of s.travel.source.map.format ≡ bits_of s.brush.destination.format
  pub depth : s.brush.depth.bits ≡ bits_of s.brush.destination.format
  pub planes : s.brush.depth.planes ≡ 2 ^ bits_of s.brush.destination.format - 1
  pub apart : Apart s.travel.source.map s.brush.destination

-- a place on the circle is not left of it
placed : (z : ℤ) → OnCircle z → choose (lt_z z (negsuc 2047)) (negsuc 2047) z ≡ z
unfolding destination_reduced
placed z on = by z (rw on at (destination_circle_reduced z))
  where
    by : (z : ℤ) → destination_reduced z ≡ true → choose (lt_z z (negsuc 2047)) (negsuc 2047) z ≡ z
    by (pos n) e = refl
    by (negsuc n) e = rw (le-ltb 2047 n (leb-true n 2047 (search (e, and_left))))

module _ (s : Setup) (k : Copies s) (memory : List ℕ) (pen : Pen) where
  abbrev bits : ℕ
  bits = bits_of s.brush.destination.format

  front : is_foreground s memory pen ≡ true
  front = foreground s memory pen k.pattern k.derived

  -- what is put is the source pixel
  copied_pixel : mixed_pixel s memory pen ≡ source_pixel s.travel memory pen
  unfolding mixed_pixel picked source_pixel
  copied_pixel =
      let taken : ℕ = source_pixel s.travel memory pen in
      let old : ℕ = destination_pixel s.brush memory pen in
      ap₂ (λ n m. mixed n (ink_of s memory pen).mix m (picked s memory pen) old) k.depth k.planes
      ∙ ap₂ (λ code v. mixed bits code (2 ^ bits - 1) v old) (ap (λ (i : Ink). i.mix) (foreground_ink s memory pen front) ∙ k.mix)
      (choose_true _ _ (choose_true _ _ front ∙ k.source))
      ∙ mixed_source bits taken old
      ∙ mod-eq_of_lt (rw k.size at (pixel_lt memory s.travel.source.map pen.pointers.source.x pen.pointers.source.y))

  module _ (column row : ℕ) (e : pen.drawing ≡ Block false column row) where
    stays : is_move s.travel pen.drawing ≡ false
    unfolding is_move
    stays = ap (is_move s.travel) e

    whole : is_nulled s pen ≡ false
    unfolding is_nulled nulled_by is_first is_last on_boundary
    whole = ap (nulled_by s pen.e) e ∙ none_left (named_mode s.brush.flow.mode)

    -- on the map it is painted
    painted : on_map s.brush pen ≡ true → fate_of s memory pen ≡ Painted
    unfolding fate_of
    painted on = rw (stays, whole, on, unbounded s memory pen k.mask, unmasked s memory pen k.mask, never s memory pen k.condition)

    put_there : on_map s.brush pen ≡ true
        → drawn s memory pen
        ≡ with_pixel memory s.brush.destination (column_of (place_x s.brush pen)) (column_of pen.pointers.destination.y) (source_pixel s.travel memory pen)
    unfolding drawn drawn_by
    put_there on =
        ap (λ f. drawn_by f s memory pen) (painted on)
        ∙ ap (with_pixel memory s.brush.destination (column_of (place_x s.brush pen)) (column_of pen.pointers.destination.y)) copied_pixel

-- ---- all positions

module _ (s : Setup) (p : Pointers) (k : Copies s) (b : Blocks s p) (xbit ybit : ℕ)
    (right : s.travel.course.x ≡ sign_of xbit) (down : s.travel.course.y ≡ sign_of ybit)
    (few : s.travel.figure.dimensions.x < 8192) (few' : s.travel.figure.dimensions.y < 8192) where
  abbrev from : Map
  from = s.travel.source.map

  abbrev to : Map
  to = s.brush.destination

  abbrev row_size : ℕ
  row_size = s.travel.figure.dimensions.x + 1

  -- a pen there lies at its destination, and takes the source pixel
  place_at_lem : (pen : Pen) (column row : ℕ) → At s p column row pen → place_x s.brush pen ≡ (destination_at s p column row).x
  unfolding place_x
  place_at_lem pen column row at =
      let x : pen.pointers.destination.x ≡ (destination_at s p column row).x = ap (λ (q : Point ℤ). q.x) at.destination in
      rw (k.edge, x) (placed _ (circled_on s.travel.course.x column p.destination.x b.across))

  row_at_lem : (pen : Pen) (column row : ℕ) → At s p column row pen → pen.pointers.destination.y ≡ (destination_at s p column row).y
  row_at_lem pen column row at = ap (λ (q : Point ℤ). q.y) at.destination

  -- two positions lie at one place only if they are one
  one_place : (column row column' row' : ℕ) → column < row_size → column' < row_size
      → row ≤ s.travel.figure.dimensions.y → row' ≤ s.travel.figure.dimensions.y
      → (destination_at s p column row).x ≡ (destination_at s p column' row').x → (destination_at s p column row).y ≡ (destination_at s p column' row').y
      → (column ≡ column') × (row ≡ row')
  one_place column row column' row' h h' v v' e f = (
    circled_apart s.travel.course.x p.destination.x b.across xbit column column' right (omega arith) (omega arith) e,
    circled_apart s.travel.course.y p.destination.y b.down ybit row row' down (omega arith) (omega arith) f,
  )

  module _ (t : Run) (start : t.pen.drawing ≡ Block false 0 0) (first : t.pen.pointers ≡ p)
      (held : (x y : ℕ) → x ≤ to.width → y ≤ to.height → place_of to x y < length t.memory) where
    -- the column and row of a position's number
    digits_of : (m : ℕ) → m < (s.travel.figure.dimensions.y + 1) * row_size
        → (m % row_size < row_size) × (m / row_size ≤ s.travel.figure.dimensions.y)
    digits_of m less =
        let down' : m / row_size < s.travel.figure.dimensions.y + 1 =
        (div-lt_iff_lt-mul {k = row_size} {x = m} {y = s.travel.figure.dimensions.y + 1} (omega arith)).1 less in
        (mod-lt m (omega arith), omega arith)

    at_number : (m : ℕ) → m < (s.travel.figure.dimensions.y + 1) * row_size → At s p (m % row_size) (m / row_size) (after s m t).pen
    at_number m less =
        let digits = digits_of m less in
        let across' : m % row_size < row_size = digits.0 in
        rw (div-add-mod' m row_size) at (at_position s p b t start first (m % row_size) (m / row_size) (omega arith) digits.1)

    -- the pixel of a column and row, and what is to be there
    module _ (column row : ℕ) (h : column < row_size) (v : row ≤ s.travel.figure.dimensions.y)
        (across : is_within to.width (destination_at s p column row).x ≡ true) (lower : is_within to.height (destination_at s p column row).y ≡ true) where
      abbrev x : ℕ
      x = column_of (destination_at s p column row).x

      abbrev y : ℕ
      y = column_of (destination_at s p column row).y

      abbrev wanted : ℕ
      wanted = pixel_at t.memory from (source_at s p column row).x (source_at s p column row).y

      abbrev number : ℕ
      number = row * row_size + column

      -- the position itself puts it there
      position_copies : pixel_at (stepped s (after s number t)).memory to x y ≡ wanted
      unfolding positioned on_map source_pixel
      position_copies =
          let u : Run = after s number t in
          let at : At s p column row u.pen = at_position s p b t start first column row (omega arith) v in
          let place = place_at_lem u.pen column row at in
          let row_there = row_at_lem u.pen column row at in
          let on : on_map s.brush u.pen ≡ true = and_both _ _ (ap (is_within to.width) place ∙ across) (ap (is_within to.height) row_there ∙ lower) in
          let inside = b.inside in
          let taken : source_pixel s.travel u.memory u.pen ≡ wanted =
          ap (λ (q : Point ℕ). pixel_at u.memory from q.x q.y) at.source
          ∙ pixels_after s from k.apart number t (source_at s p column row).x (source_at s p column row).y
          (turned_in from.width s.travel.course.x column p.source.x (inside_x from p.source inside))
          (turned_in from.height s.travel.course.y row p.source.y (inside_y from p.source inside)) in
          ap (λ (w : Run). pixel_at w.memory to x y) (on_position s p b u column row at)
          ∙ ap (λ (m : List ℕ). pixel_at m to x y) (put_there s k u.memory u.pen column row at.drawing on)
          ∙ ap₂ (λ (a c : ℤ). pixel_at (with_pixel u.memory to (column_of a) (column_of c) (source_pixel s.travel u.memory u.pen)) to x y)
          place row_there
          ∙ get_put_same u.memory to x y _ (rw (length_after s number t) (held x y (within_column _ _ across) (within_column _ _ lower)))
          ∙ ap (λ (n : ℕ). n % 2 ^ bits_of to.format) taken
          ∙ mod-eq_of_lt (rw k.size at (pixel_lt t.memory from (source_at s p column row).x (source_at s p column row).y))

      -- another position lies elsewhere
      keeps_apart : (m column' row' : ℕ) → row' * row_size + column' ≡ m → column' < row_size → row' ≤ s.travel.figure.dimensions.y
          → (pen : Pen) → At s p column' row' pen → on_map s.brush pen ≡ true
          → (column_of (place_x s.brush pen) ≡ x) × (column_of pen.pointers.destination.y ≡ y)
          → m ≡ number
      unfolding on_map
      keeps_apart m column' row' same h' v' pen at on both =
          let inside-x' = within_place to.width (place_x s.brush pen) (and_left _ (is_within to.height pen.pointers.destination.y) on) in
          let inside-y' = within_place to.height pen.pointers.destination.y (and_right (is_within to.width (place_x s.brush pen)) _ on) in
          let there =
          one_place column' row' column row h' h v' v
          (sym (place_at_lem pen column' row' at) ∙ inside-x' ∙ ap pos both.0 ∙ sym (within_place to.width _ across))
          (sym (row_at_lem pen column' row' at) ∙ inside-y' ∙ ap pos both.1 ∙ sym (within_place to.height _ lower)) in
          sym same ∙ ap₂ (λ a c. c * row_size + a) there.0 there.1

      -- so no other takes it away
      position_keeps : (m : ℕ) → m < (s.travel.figure.dimensions.y + 1) * row_size → (m ≡ number → ⊥)
          → pixel_at (stepped s (after s m t)).memory to x y ≡ pixel_at (after s m t).memory to x y
      unfolding positioned
      position_keeps m less other =
          let u : Run = after s m t in
          let digits = digits_of m less in
          let at = at_number m less in
          ap (λ (w : Run). pixel_at w.memory to x y) (on_position s p b u (m % row_size) (m / row_size) at)
          ∙ by_fate s u.memory u.pen (λ (n : List ℕ). pixel_at n to x y ≡ pixel_at u.memory to x y) refl
          (λ painted.
          let on = painted_on_map s u.memory u.pen painted in
          get_put_other u.memory to _ _ _ x y (on_map_lem s.brush u.pen on).0 (within_column _ _ across)
          (λ both. other (keeps_apart m (m % row_size) (m / row_size) (div-add-mod' m row_size) digits.0 digits.1 u.pen at on both)))

      pub copied_after : (n : ℕ) → number < n → n ≤ (s.travel.figure.dimensions.y + 1) * row_size → pixel_at (after s n t).memory to x y ≡ wanted
      unfolding after
      copied_after zero less all = absurd (omega arith)
      copied_after (suc m) less all =
          ⊎_elim (λ (same : m ≡ number). rw same position_copies)
          (λ (other : m ≡ number → ⊥). position_keeps m (omega arith) other ∙ copied_after m (omega (arith, other)) (omega arith))
          (eq_or_ne m number)

    -- a copy whose destination pixels hold what they are to hold changes no byte
    module _ (agrees : (column row : ℕ) → column < row_size → row ≤ s.travel.figure.dimensions.y
        → pixel_at t.memory from (source_at s p column row).x (source_at s p column row).y
        ≡ pixel_at t.memory to (column_of (destination_at s p column row).x) (column_of (destination_at s p column row).y)) where
      pub nothing_changed : (n : ℕ) → n ≤ (s.travel.figure.dimensions.y + 1) * row_size → (after s n t).memory ≡ t.memory
      unfolding after positioned source_pixel
      nothing_changed zero all = refl
      nothing_changed (suc m) all =
          let u : Run = after s m t in
          let same : u.memory ≡ t.memory = nothing_changed m (omega arith) in
          let digits = digits_of m (omega arith) in
          let at = at_number m (omega arith) in
          let place = place_at_lem u.pen (m % row_size) (m / row_size) at in
          let row_there = row_at_lem u.pen (m % row_size) (m / row_size) at in
          let found : mixed_pixel s u.memory u.pen
          ≡ pixel_at u.memory to (column_of (place_x s.brush u.pen)) (column_of u.pen.pointers.destination.y) =
          copied_pixel s k u.memory u.pen
          ∙ ap (λ (q : Point ℕ). pixel_at u.memory from q.x q.y) at.source
          ∙ rw same (agrees (m % row_size) (m / row_size) digits.0 digits.1)
          ∙ sym (ap₂ (λ (x y : ℤ). pixel_at u.memory to (column_of x) (column_of y)) place row_there) in
          ap (λ (w : Run). w.memory) (on_position s p b u (m % row_size) (m / row_size) at)
          ∙ by_fate s u.memory u.pen (λ (n : List ℕ). n ≡ u.memory) refl
          (λ painted. ap (with_pixel u.memory to _ _) found ∙ put_get u.memory to _ _)
          ∙ same
