-- Worked examples: each compare condition, the mask's pixels, the two orders, each direction, each corner of a block, last null; the bytes are worked by hand from 01 and 003.
use Rattle.std.specs.Prelude.{ℕ, ◌+◌, ◌*◌, List, [], ◌∷◌, ◌++◌}
use Rattle.cases.specs.Calls.{Act, Play, zeros, write, read, run, memory}
use Rattle.cases.specs.Cases.{mapped, inked}

-- ---- what is compared

-- a level line of AA hex over three bytes, under this plane mask, compare condition and value
unfoldable pub compared : (planes condition value : ℕ) (before after : List ℕ) → Play
compared planes condition value before after =
    record {
      bytes = before;
      calls =
          mapped 1 0 2 0 3
          ++ inked 3 planes 0xAA
          ++ (write 0x4A 1 condition ∷ write 0x4C 4 value
          ∷ write 0x20 4 0xFFFFFFFF ∷ write 0x60 2 2
          ∷ write 0x7C 4 0x05018000
          ∷ run 9 3
          ∷ memory after
          ∷ []);
    }

-- 01, Conditions 0 to 7: of a byte below, at and above 7F hex those stay of which the condition is true; 80 hex is above it only if no bit is a sign
unfoldable pub conditions : List Play
conditions =
    compared 0xFF 0 0x7F (0x10 ∷ 0x7F ∷ 0x80 ∷ []) (0x10 ∷ 0x7F ∷ 0x80 ∷ [])
    ∷ compared 0xFF 1 0x7F (0x10 ∷ 0x7F ∷ 0x80 ∷ []) (0xAA ∷ 0xAA ∷ 0x80 ∷ [])
    ∷ compared 0xFF 2 0x7F (0x10 ∷ 0x7F ∷ 0x80 ∷ []) (0xAA ∷ 0x7F ∷ 0xAA ∷ [])
    ∷ compared 0xFF 3 0x7F (0x10 ∷ 0x7F ∷ 0x80 ∷ []) (0x10 ∷ 0xAA ∷ 0xAA ∷ [])
    ∷ compared 0xFF 4 0x7F (0x10 ∷ 0x7F ∷ 0x80 ∷ []) (0xAA ∷ 0xAA ∷ 0xAA ∷ [])
    ∷ compared 0xFF 5 0x7F (0x10 ∷ 0x7F ∷ 0x80 ∷ []) (0xAA ∷ 0x7F ∷ 0x80 ∷ [])
    ∷ compared 0xFF 6 0x7F (0x10 ∷ 0x7F ∷ 0x80 ∷ []) (0x10 ∷ 0xAA ∷ 0x80 ∷ [])
    ∷ compared 0xFF 7 0x7F (0x10 ∷ 0x7F ∷ 0x80 ∷ []) (0x10 ∷ 0x7F ∷ 0xAA ∷ [])
    ∷ []

-- docs/DIFFERENCES.md, D1: under mask 0F the digits 7, 9 and 1 are compared with 7, where whole bytes would not be equal, and F1 hex would be greater
unfoldable pub masked_conditions : List Play
masked_conditions =
    compared 0x0F 2 0x27 (0x17 ∷ 0x19 ∷ 0xF1 ∷ []) (0x17 ∷ 0x1A ∷ 0xFA ∷ [])
    ∷ compared 0x0F 1 0x27 (0x17 ∷ 0x19 ∷ 0xF1 ∷ []) (0x1A ∷ 0x19 ∷ 0xFA ∷ [])
    ∷ []

-- ---- the mask's pixels

-- 01, One position: the mask, 2 by 2 pixels from column 1 on, has a 1 at its upper right and lower left, so (2,0) and (1,1) alone are written
unfoldable pub mask_pixels : Play
mask_pixels =
    record {
      bytes = zeros 8 ++ (0x06 ∷ []);
      calls =
          mapped 1 0 3 1 3
          ++ mapped 0 8 1 1 0
          ++ inked 3 0xFF 0xAA
          ++ (write 0x60 2 3 ∷ write 0x62 2 1
          ∷ write 0x6C 2 1
          ∷ write 0x7C 4 0x08018080
          ∷ run 9 8
          ∷ memory (0 ∷ 0 ∷ 0xAA ∷ 0 ∷ 0 ∷ 0xAA ∷ 0 ∷ 0 ∷ 0x06 ∷ [])
          ∷ []);
    }

-- ---- orders

-- a copy of four pixels of 2 bits through a pattern and a mask, each map of four pixels in one byte of its own and in this format
unfoldable pub ordered : (source destination pattern mask : ℕ) (before after : List ℕ) → Play
ordered source destination pattern mask before after =
    record {
      bytes = before;
      calls =
          mapped 2 0 3 0 source
          ++ mapped 1 1 3 0 destination
          ++ mapped 3 2 3 0 pattern
          ++ mapped 0 3 3 0 mask
          ++ inked 3 0xFF 0
          ++ (write 0x60 2 3 ∷ write 0x7C 4 0x28213080 ∷ run 9 4 ∷ memory after ∷ []);
    }

-- 003, Memory map; 02, 101: the pixels 0, 1, 2, 3 over four 3s, where the pattern 1, 1, 0, 1 puts 0 for the third and the mask 0, 1, 1, 1 keeps the first:
-- 3, 1, 0, 3, from Intel to Motorola order and back, with a pattern in the one and a mask in the other
unfoldable pub orders : List Play
orders =
    ordered 1 9 8 0 (0xE4 ∷ 0xFF ∷ 0xD0 ∷ 0x0E ∷ []) (0xE4 ∷ 0xD3 ∷ 0xD0 ∷ 0x0E ∷ [])
    ∷ ordered 9 1 0 8 (0x1B ∷ 0xFF ∷ 0x0B ∷ 0x70 ∷ []) (0x1B ∷ 0xC7 ∷ 0x0B ∷ 0x70 ∷ [])
    ∷ []

-- ---- directions and corners

-- one step from (1,1) in this direction, drawn in a colour of its own
unfoldable pub towards : ℕ → List Act
towards direction =
    write 0x58 4 (0x10 + direction) ∷ write 0x78 4 0x10001 ∷ write 0x2F 1 (direction * 32 + 0x11) ∷ run 9 2 ∷ []

-- 01, Codes: 0 right, 1 up right, then anticlockwise; so each neighbour of the middle has its direction's colour, and the middle the last
unfoldable pub compass : Play
compass =
    record {
      bytes = zeros 9;
      calls =
          mapped 1 0 2 2 3
          ++ inked 3 0xFF 0
          ++ (write 0x7C 4 0x04018000 ∷ [])
          ++ towards 0
          ++ towards 1
          ++ towards 2
          ++ towards 3
          ++ towards 4
          ++ towards 5
          ++ towards 6
          ++ towards 7
          ++ (memory (0x13 ∷ 0x12 ∷ 0x11 ∷ 0x14 ∷ 0x17 ∷ 0x10 ∷ 0x15 ∷ 0x16 ∷ 0x17 ∷ []) ∷ []);
    }

-- 01, PxBlt: from whichever corner all three pointers start with its signs, the same pixels are copied through the same pattern; X returns, Y is a row beyond
unfoldable pub cornered : (octant x y end : ℕ) → Play
cornered octant x y end =
    record {
      bytes = 0x11 ∷ 0x12 ∷ 0x13 ∷ 0x21 ∷ 0x22 ∷ 0x23 ∷ 0x31 ∷ 0x32 ∷ 0x33 ∷ zeros 9 ++ (0x8B ∷ 0x01 ∷ []);
      calls =
          mapped 2 0 2 2 3
          ++ mapped 1 9 2 2 3
          ++ mapped 3 18 2 2 0
          ++ inked 3 0xFF 0
          ++ (write 0x60 2 2 ∷ write 0x62 2 2
          ∷ write 0x70 2 x ∷ write 0x72 2 y
          ∷ write 0x74 2 x ∷ write 0x76 2 y
          ∷ write 0x78 2 x ∷ write 0x7A 2 y
          ∷ write 0x7C 4 (0x28213000 + octant)
          ∷ run 9 9
          ∷ memory (0x11 ∷ 0x12 ∷ 0x13 ∷ 0x21 ∷ 0x22 ∷ 0x23 ∷ 0x31 ∷ 0x32 ∷ 0x33
          ∷ 0x11 ∷ 0x12 ∷ 0 ∷ 0x21 ∷ 0 ∷ 0 ∷ 0 ∷ 0x32 ∷ 0x33 ∷ 0x8B ∷ 0x01 ∷ [])
          ∷ read 0x78 2 x ∷ read 0x7A 2 end
          ∷ []);
    }

-- 003, PxBlt Direction: to the left from the top right corner, up from the bottom left one, and both from the bottom right one
unfoldable pub corners : List Play
corners = cornered 0 0 0 3 ∷ cornered 4 2 0 3 ∷ cornered 2 0 2 0xFFFF ∷ cornered 6 2 2 0xFFFF ∷ []

-- ---- last null

-- 01, The functions: last null holds for each code; two codes that go right by one add 1 to their first pixels, and the pixel between them is added to once
unfoldable pub each_end_nulled : Play
each_end_nulled =
    record {
      bytes = zeros 3;
      calls =
          mapped 1 0 2 0 3
          ++ inked 0x12 0xFF 1
          ++ (write 0x7C 4 0x04018020 ∷ write 0x2E 2 0x1111 ∷ run 9 4 ∷ memory (1 ∷ 1 ∷ 0 ∷ []) ∷ []);
    }

-- all of them
unfoldable pub examples : List Play
examples = conditions ++ masked_conditions ++ orders ++ (mask_pixels ∷ compass ∷ each_end_nulled ∷ corners)
