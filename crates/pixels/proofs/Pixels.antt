-- A pixel is what was put there and no other pixel or byte sees that: it is a field of one byte, and that byte alone is set.
use mathlib.Core.Path.{◌≡◌, refl}
use mathlib.Core.List.{List, ◌++◌}
use mathlib.Core.Logic.{⊎_elim}
use Prim.Native.Nat.{ℕ, ◌+◌, ◌%◌, ◌^◌, ◌≤◌, ◌<◌}
use lib.ListN.{length, get_or, length-set, get_or-append, get_or-eq_default}
use lib.Seq.{set-append_left, set_out, set-get_or, get_or-set_same, get_or-set_other}
use Rattle.numbers.specs.Fields.{field, with_field}
use Rattle.numbers.proofs.Fields.{field_lt, field_zero, field_with_same, field_with_other, with_field_lt, with_field_self}
use Rattle.numbers.proofs.Order.{lt_or_le, eq_or_ne}
use Rattle.pixels.specs.declared.Map.{Map}
use Rattle.pixels.specs.Maps.{bits_of, place_of, shift_of}
use Rattle.pixels.specs.Pixels.{byte_at, pixel_at, with_pixel}
use Rattle.pixels.specs.Inner.{cell_at}
use Rattle.pixels.proofs.Maps.{in_byte, shifts_apart}

-- ---- a pixel

module _ (memory : List ℕ) (map : Map) (x y : ℕ) where
  pub pixel_lt : pixel_at memory map x y < 2 ^ bits_of map.format
  unfolding pixel_at
  pixel_lt = field_lt (shift_of map x y) (bits_of map.format) (byte_at memory map x y)

  -- its bits lie within one byte
  pub cell_in_byte : (cell_at memory map x y).shift + (cell_at memory map x y).bits ≤ 8
  unfolding cell_at
  cell_in_byte = in_byte map x y

  -- and that byte is in the memory where the pixel lies there
  pub cell_in_memory : place_of map x y < length memory → (cell_at memory map x y).at < length memory
  unfolding cell_at
  cell_in_memory h = h

  pub pixel_beyond : length memory ≤ place_of map x y → pixel_at memory map x y ≡ 0
  unfolding byte_at pixel_at
  pixel_beyond h = rw (get_or-eq_default memory 0 h, field_zero (shift_of map x y) (bits_of map.format))

  -- what lies behind the memory does not show in a pixel of it
  pub pixel_append : (rest : List ℕ) → place_of map x y < length memory → pixel_at (memory ++ rest) map x y ≡ pixel_at memory map x y
  unfolding byte_at pixel_at
  pixel_append rest h = rw (get_or-append memory rest 0 (place_of map x y) h)

  -- putting what is there changes nothing
  pub put_get : with_pixel memory map x y (pixel_at memory map x y) ≡ memory
  unfolding byte_at pixel_at with_pixel
  put_get = rw (with_field_self, set-get_or)

-- ---- memory with another pixel

module _ (memory : List ℕ) (map : Map) (x y v : ℕ) where
  pub length_put : length (with_pixel memory map x y v) ≡ length memory
  unfolding with_pixel
  length_put = simp length-set

  pub put_beyond : length memory ≤ place_of map x y → with_pixel memory map x y v ≡ memory
  unfolding with_pixel
  put_beyond h = set_out memory (place_of map x y) _ h

  -- what lies behind the memory stays
  pub put_append : (rest : List ℕ) → place_of map x y < length memory → with_pixel (memory ++ rest) map x y v ≡ with_pixel memory map x y v ++ rest
  unfolding byte_at with_pixel
  put_append rest h = rw (get_or-append memory rest 0 (place_of map x y) h) (set-append_left memory rest (place_of map x y) _ h)

  -- every other byte stays
  pub byte_put_other : (j : ℕ) → (j ≡ place_of map x y → ⊥) → get_or (with_pixel memory map x y v) j 0 ≡ get_or memory j 0
  unfolding with_pixel
  byte_put_other j ne = get_or-set_other memory (place_of map x y) j _ 0 ne

  -- so does every pixel, of any map, that lies in another byte
  pub get_put_elsewhere : (map' : Map) (x' y' : ℕ) → (place_of map' x' y' ≡ place_of map x y → ⊥)
      → pixel_at (with_pixel memory map x y v) map' x' y' ≡ pixel_at memory map' x' y'
  unfolding byte_at pixel_at
  get_put_elsewhere map' x' y' ne = rw (byte_put_other (place_of map' x' y') ne)

  -- what holds of the pixel's byte before, and of that byte with the pixel in it, holds of it after
  byte_put : (P : ℕ → Type 0) → P (byte_at memory map x y)
      → P (with_field (shift_of map x y) (bits_of map.format) v (byte_at memory map x y))
      → P (byte_at (with_pixel memory map x y v) map x y)
  unfolding byte_at with_pixel
  byte_put P old new =
      ⊎_elim (λ lt. rw (get_or-set_same memory (place_of map x y) _ 0 lt) new) (λ ge. rw (set_out memory (place_of map x y) _ ge) old)
      (lt_or_le (place_of map x y) (length memory))

  -- bytes stay bytes
  pub byte_put_lt : ((j : ℕ) → get_or memory j 0 < 256) → (j : ℕ) → get_or (with_pixel memory map x y v) j 0 < 256
  unfolding byte_at
  byte_put_lt h j =
      let p = place_of map x y in
      ⊎_elim (λ e. rw e (byte_put (λ (b : ℕ). b < 256) (h p) (with_field_lt _ _ v _ 8 (in_byte map x y) (h p))))
      (λ ne. rw (byte_put_other j ne) (h j)) (eq_or_ne j p)

  pub get_put_same : place_of map x y < length memory
      → pixel_at (with_pixel memory map x y v) map x y ≡ v % 2 ^ bits_of map.format
  unfolding byte_at pixel_at with_pixel
  get_put_same h =
      rw get_or-set_same (field_with_same (shift_of map x y) (bits_of map.format) v (byte_at memory map x y))

  -- every other pixel of the map stays
  pub get_put_other : (x' y' : ℕ) → x ≤ map.width → x' ≤ map.width → ((x ≡ x') × (y ≡ y') → ⊥)
      → pixel_at (with_pixel memory map x y v) map x' y' ≡ pixel_at memory map x' y'
  unfolding byte_at pixel_at
  get_put_other x' y' h h' ne =
      let s = shift_of map x' y' in
      let n = bits_of map.format in
      let b = byte_at memory map x y in
      ⊎_elim
      (λ e.
      rw e
      (byte_put (λ (b' : ℕ). field s n b' ≡ field s n b) refl
      (field_with_other (shift_of map x y) n v b s n (shifts_apart map x y x' y' h h' ne e))))
      (get_put_elsewhere map x' y') (eq_or_ne (place_of map x' y') (place_of map x y))
