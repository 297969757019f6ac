-- A transfer of a whole map leaves each pixel of the one in the other; so after one there and one back the bytes are the first, since a byte is told by its
-- pixels, and pixels that are put where they are change nothing.
use mathlib.Core.Path.{◌≡◌, sym, ap, ap₂, ◌∙◌}
use mathlib.Core.Bool.{true}
use mathlib.Core.List.{List}
use Prim.Native.Nat.{ℕ, ◌+◌, ◌*◌, ◌/◌, ◌%◌, ◌≤◌, ◌<◌}
use native.Mathlib.Nat.{zero-add}
use native.Mathlib.Omega.{arith}
use lib.Arith.{digits_lt}
use lib.IntN.{ℤ, pos}
use lib.ListN.{length, get_or}
use borrow.Author.Tests.{le-leb, lt-ltb}
use Rattle.numbers.proofs.CircleLaws.{forth_inside}
use Rattle.pixels.specs.declared.Map.{Map}
use Rattle.pixels.specs.Maps.{bits_of, place_of}
use Rattle.pixels.specs.Pixels.{pixel_at}
use Rattle.pixels.proofs.Bytes.{bytes_same}
use Rattle.parts.specs.declared.shapes.Point.{Point}
use Rattle.parts.specs.Reduced.{destination_reduced}
use Rattle.parts.proofs.ReducedLaws.{destination_circle_fixed}
use Rattle.rules.specs.Operations.{octant_of}
use Rattle.rules.specs.Totals.{total_of}
use Rattle.moves.specs.Turns.{turned_by, circled_by}
use Rattle.moves.specs.Decoded.{sign_of}
use Rattle.places.specs.Places.{is_within, column_of}
use Rattle.coprocessor.specs.declared.Coprocessor.{Coprocessor}
use Rattle.coprocessor.specs.Runs.{whole_of, run_memory}
use Rattle.coprocessor.proofs.KnownRuns.{run_length}
use Rattle.copies.specs.Copies.{from_map, to_map, from_place, to_place, Transfer}
use Rattle.copies.proofs.Copied.{columns_few, rows_few, block_copied, block_unchanged, run_bytes_lem, run_source, run_other}

module _ (a b : Map) (c : Coprocessor) (t : Transfer a b c) where
  columns : c.registers.figure.dimensions.x ≡ a.width
  columns = ap (λ (p : Point ℕ). p.x) t.dimensions

  rows : c.registers.figure.dimensions.y ≡ a.height
  rows = ap (λ (p : Point ℕ). p.y) t.dimensions

  -- from a corner to the right or down, so many steps lead to the column or row of that number
  column_in_lem : (bit k last first width : ℕ) → bit ≡ 0 → first ≡ 0 → last ≡ width → k ≤ width → turned_by (sign_of bit) k last first ≡ k
  unfolding sign_of turned_by
  column_in_lem bit k last first width e f g h =
      rw (e, f, g) (forth_inside (width + 1) k 0 (omega arith) ∙ zero-add k)

  place_on : (bit k : ℕ) (first : ℤ) → bit ≡ 0 → first ≡ pos 0 → k < 4096 → circled_by (sign_of bit) k first ≡ pos k
  unfolding sign_of circled_by destination_reduced
  place_on bit k first e f few =
      rw (e, f, zero-add k) (destination_circle_fixed (pos k) (lt-ltb k 6144 (omega arith)))

  module _ (x y : ℕ) (across : x ≤ a.width) (down : y ≤ a.height) where
    abbrev octant : ℕ
    octant = octant_of c.registers.figure.operations

    from_x : (from_place c x y).x ≡ x
    unfolding from_place
    from_x =
        column_in_lem (octant / 4 % 2) x (from_map c).width c.registers.pointers.source.x a.width
        t.right (ap (λ (p : Point ℕ). p.x) t.first) (ap (λ (m : Map). m.width) t.from) across

    from_y : (from_place c x y).y ≡ y
    unfolding from_place
    from_y =
        column_in_lem (octant / 2 % 2) y (from_map c).height c.registers.pointers.source.y a.height
        t.down (ap (λ (p : Point ℕ). p.y) t.first) (ap (λ (m : Map). m.height) t.from) down

    to_x : (to_place c x y).x ≡ pos x
    unfolding to_place
    to_x =
        place_on (octant / 4 % 2) x c.registers.pointers.destination.x
        t.right (ap (λ (p : Point ℤ). p.x) t.corner) (omega (arith, columns, columns_few c t.copy))

    to_y : (to_place c x y).y ≡ pos y
    unfolding to_place
    to_y =
        place_on (octant / 2 % 2) y c.registers.pointers.destination.y
        t.down (ap (λ (p : Point ℤ). p.y) t.corner) (omega (arith, rows, rows_few c t.copy))

    -- 02, 101: a transfer leaves each pixel of the one map in the other
    pub transferred : (memory : List ℕ) → length memory ≡ c.size → pixel_at (run_memory c memory (whole_of c)) b x y ≡ pixel_at memory a x y
    unfolding is_within column_of total_of
    transferred memory whole =
        let inside : is_within (to_map c).width (to_place c x y).x ≡ true =
        ap₂ is_within (ap (λ (m : Map). m.width) t.to ∙ t.columns) to_x ∙ le-leb x a.width across in
        let lower : is_within (to_map c).height (to_place c x y).y ≡ true =
        ap₂ is_within (ap (λ (m : Map). m.height) t.to ∙ t.rows) to_y ∙ le-leb y a.height down in
        let less : y * (c.registers.figure.dimensions.x + 1) + x < whole_of c =
        rw (ap (total_of c.registers.figure) t.copy.start) (digits_lt (omega (arith, rows)) (omega (arith, columns))) in
        let copied =
        block_copied c t.copy memory whole x y (omega (arith, columns)) (omega (arith, rows)) inside lower (whole_of c) less (omega arith) in
        rw (t.from, t.to, from_x, from_y, to_x, to_y) at copied

-- 02, 101: from map a into map b, and from there, as its pixels still are, into a map like a: every byte that the pixels fill is as it was in a at first,
-- whatever the order of b
module _ (a b a' : Map) (there back : Coprocessor) (t : Transfer a b there) (u : Transfer b a' back) (format : a'.format ≡ a.format)
    (memory between : List ℕ) (whole : length memory ≡ there.size) (whole' : length between ≡ back.size)
    (kept : (x y : ℕ) → x ≤ b.width → y ≤ b.height → pixel_at between b x y ≡ pixel_at (run_memory there memory (whole_of there)) b x y) where
  pub pixels_back : (x y : ℕ) → x ≤ a.width → y ≤ a.height → pixel_at (run_memory back between (whole_of back)) a' x y ≡ pixel_at memory a x y
  pixels_back x y h v =
      let across : x ≤ b.width = omega (arith, t.columns) in
      let down : y ≤ b.height = omega (arith, t.rows) in
      transferred b a' back u x y across down between whole' ∙ kept x y across down ∙ transferred a b there t x y h v memory whole

  pub bytes_back : ((j : ℕ) → get_or memory j 0 < 256) → ((j : ℕ) → get_or between j 0 < 256)
      → (j : ℕ) → j * 8 + 8 ≤ (a.width + 1) * (a.height + 1) * bits_of a.format
      → get_or (run_memory back between (whole_of back)) (a'.base + j) 0 ≡ get_or memory (a.base + j) 0
  bytes_back bytes bytes' j full =
      sym
      (bytes_same memory (run_memory back between (whole_of back)) a a' bytes (run_bytes_lem back u.copy between whole' bytes' (whole_of back))
      (u.columns ∙ t.columns) format (λ x y h v. sym (pixels_back x y h v)) j full)

-- 02, 101: from map a into map b and back at once: every byte that is not of b is as it was at first, those of a with the bits that its pixels leave over
module _ (a b : Map) (there back : Coprocessor) (t : Transfer a b there) (u : Transfer b a back) (size : there.size ≡ back.size)
    (memory : List ℕ) (whole : length memory ≡ there.size) where
  -- the memory between
  abbrev middle : List ℕ
  middle = run_memory there memory (whole_of there)

  middle_whole : length middle ≡ back.size
  middle_whole = run_length there t.copy.valid memory whole (whole_of there) ∙ whole ∙ size

  -- there its own pixels are in the first map still
  middle_first : (x y : ℕ) → x ≤ a.width → y ≤ a.height → pixel_at middle a x y ≡ pixel_at memory a x y
  middle_first x y = rw t.from at (run_source there t.copy memory whole (whole_of there) x y)

  back_changes_nothing : run_memory back middle (whole_of back) ≡ middle
  unfolding column_of
  back_changes_nothing =
      block_unchanged back u.copy middle middle_whole
      (λ x y h v.
      let across : x ≤ b.width = omega (arith, columns b a back u) in
      let down : y ≤ b.height = omega (arith, rows b a back u) in
      let across' : x ≤ a.width = omega (arith, t.columns) in
      let down' : y ≤ a.height = omega (arith, t.rows) in
      rw (u.from, u.to, from_x b a back u x y across down, from_y b a back u x y across down, to_x b a back u x y across down, to_y b a back u x y across down)
      (transferred a b there t x y across' down' memory whole ∙ sym (middle_first x y across' down'))) (whole_of back) (omega arith)

  pub there_and_back : (j : ℕ) → ((x y : ℕ) → x ≤ b.width → y ≤ b.height → j ≡ place_of b x y → ⊥)
      → get_or (run_memory back middle (whole_of back)) j 0 ≡ get_or memory j 0
  there_and_back j none =
      ap (λ (m : List ℕ). get_or m j 0) back_changes_nothing ∙ run_other there t.copy memory whole j (rw t.to none) (whole_of there)
