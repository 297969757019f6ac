-- Worked examples of maps and pixels, each shown by computing it.
use mathlib.Core.Path.{◌≡◌, refl}
use mathlib.Core.List.{List, [], ◌∷◌, map}
use Prim.Native.Nat.{ℕ, ◌-◌}
use Rattle.numbers.specs.Fields.{field, with_field}
use Rattle.pixels.specs.declared.Map.{Map}
use Rattle.pixels.specs.Maps.{bits_of, start_of, place_of, shift_of, needed_of}
use Rattle.pixels.specs.Pixels.{byte_at, pixel_at, with_pixel}

-- a map at byte 0, of this width, height and format
abbrev sized : ℕ → ℕ → ℕ → Map
sized width height format = record { base = 0; width = width - 1; height = height - 1; format = format }

-- the pixels of the map's row y in these columns
abbrev row_of : List ℕ → Map → ℕ → List ℕ → List ℕ
row_of memory m y = map (λ (x : ℕ). pixel_at memory m x y)

-- ---- pixels in their bytes, in Intel order

-- a byte of 1-bit pixels, lowest bit first: 177 is 10110001 in binary
one_bit : row_of (177 ∷ []) (sized 8 1 0) 0 (0 ∷ 1 ∷ 2 ∷ 3 ∷ 4 ∷ 5 ∷ 6 ∷ 7 ∷ []) ≡ 1 ∷ 0 ∷ 0 ∷ 0 ∷ 1 ∷ 1 ∷ 0 ∷ 1 ∷ []
unfolding field bits_of start_of place_of shift_of byte_at pixel_at
one_bit = refl

-- 228 is 11 10 01 00 in binary
two_bits : row_of (228 ∷ []) (sized 4 1 1) 0 (0 ∷ 1 ∷ 2 ∷ 3 ∷ []) ≡ 0 ∷ 1 ∷ 2 ∷ 3 ∷ []
unfolding field bits_of start_of place_of shift_of byte_at pixel_at
two_bits = refl

-- pixel 1 is the high half of byte 0, pixel 2 the low half of byte 1: 165 is 10 and 5, 60 is 3 and 12
four_bits : row_of (165 ∷ 60 ∷ []) (sized 4 1 2) 0 (0 ∷ 1 ∷ 2 ∷ 3 ∷ []) ≡ 5 ∷ 10 ∷ 12 ∷ 3 ∷ []
unfolding field bits_of start_of place_of shift_of byte_at pixel_at
four_bits = refl

eight_bits : row_of (165 ∷ 60 ∷ []) (sized 2 1 3) 0 (0 ∷ 1 ∷ []) ≡ 165 ∷ 60 ∷ []
unfolding field bits_of start_of place_of shift_of byte_at pixel_at
eight_bits = refl

-- ---- the same bytes in Motorola order, highest bits first; the bits of a pixel keep their order

one_bit_motorola : row_of (177 ∷ []) (sized 8 1 8) 0 (0 ∷ 1 ∷ 2 ∷ 3 ∷ 4 ∷ 5 ∷ 6 ∷ 7 ∷ []) ≡ 1 ∷ 0 ∷ 1 ∷ 1 ∷ 0 ∷ 0 ∷ 0 ∷ 1 ∷ []
unfolding field bits_of start_of place_of shift_of byte_at pixel_at
one_bit_motorola = refl

-- 210 is 11 01 00 10 in binary
two_bits_motorola : row_of (210 ∷ []) (sized 4 1 9) 0 (0 ∷ 1 ∷ 2 ∷ 3 ∷ []) ≡ 3 ∷ 1 ∷ 0 ∷ 2 ∷ []
unfolding field bits_of start_of place_of shift_of byte_at pixel_at
two_bits_motorola = refl

four_bits_motorola : row_of (165 ∷ 60 ∷ []) (sized 4 1 10) 0 (0 ∷ 1 ∷ 2 ∷ 3 ∷ []) ≡ 10 ∷ 5 ∷ 3 ∷ 12 ∷ []
unfolding field bits_of start_of place_of shift_of byte_at pixel_at
four_bits_motorola = refl

eight_bits_motorola : row_of (165 ∷ 60 ∷ []) (sized 2 1 11) 0 (0 ∷ 1 ∷ []) ≡ 165 ∷ 60 ∷ []
unfolding field bits_of start_of place_of shift_of byte_at pixel_at
eight_bits_motorola = refl

-- ---- rows, and beyond the memory

-- rows follow each other with no gap: of three columns, row 2 is bits 6 to 8, here 1, 0 and 1
third_row : row_of (64 ∷ 1 ∷ []) (sized 3 3 0) 2 (0 ∷ 1 ∷ 2 ∷ []) ≡ 1 ∷ 0 ∷ 1 ∷ []
unfolding field bits_of start_of place_of shift_of byte_at pixel_at
third_row = refl

-- beyond the memory pixels are 0
beyond : row_of (165 ∷ []) (sized 4 1 2) 0 (1 ∷ 2 ∷ 3 ∷ []) ≡ 10 ∷ 0 ∷ 0 ∷ []
unfolding field bits_of start_of place_of shift_of byte_at pixel_at
beyond = refl

-- ---- memory with another pixel

put_one_bit : with_pixel (0 ∷ 255 ∷ []) (sized 16 1 0) 11 0 0 ≡ 0 ∷ 247 ∷ []
unfolding with_field bits_of start_of place_of shift_of byte_at with_pixel
put_one_bit = refl

-- of 255 a 4-bit pixel takes 15
put_high_half : with_pixel (5 ∷ 9 ∷ []) (sized 4 1 2) 1 0 255 ≡ 245 ∷ 9 ∷ []
unfolding with_field bits_of start_of place_of shift_of byte_at with_pixel
put_high_half = refl

put_motorola : with_pixel (5 ∷ 9 ∷ []) (sized 4 1 10) 1 0 255 ≡ 15 ∷ 9 ∷ []
unfolding with_field bits_of start_of place_of shift_of byte_at with_pixel
put_motorola = refl

put_beyond : with_pixel (5 ∷ 9 ∷ []) (sized 8 1 2) 4 0 15 ≡ 5 ∷ 9 ∷ []
unfolding with_field bits_of start_of place_of shift_of byte_at with_pixel
put_beyond = refl

-- ---- bytes needed

-- 8 by 8 pixels of 1, 2, 4 and 8 bits, and of 4 bits in Motorola order
squares : map (λ (format : ℕ). needed_of (sized 8 8 format)) (0 ∷ 1 ∷ 2 ∷ 3 ∷ 10 ∷ []) ≡ 8 ∷ 16 ∷ 32 ∷ 64 ∷ 32 ∷ []
unfolding bits_of needed_of
squares = refl

-- 9 bits need two bytes
rounded_up : needed_of (sized 3 3 0) ≡ 2
unfolding bits_of needed_of
rounded_up = refl
