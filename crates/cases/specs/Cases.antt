-- The worked cases of 01 as one table; registers that a case does not speak of are set so that something is drawn.
use Rattle.std.specs.Prelude.{ℕ, List, [], ◌∷◌, ◌++◌}
use Rattle.cases.specs.Calls.{Act, Play, Case, zeros, write, refused, read, run, memory, state}

-- ---- what the cases share

-- a map's registers: 0 is M, 1 is A, 2 is B
unfoldable pub mapped : (index base width height format : ℕ) → List Act
mapped index base width height format =
    write 0x12 1 index ∷ write 0x14 4 base ∷ write 0x18 2 width ∷ write 0x1A 2 height ∷ write 0x1C 1 format ∷ []

-- a foreground mix and colour under a plane mask; the compare condition is never true
unfoldable pub inked : (mix planes colour : ℕ) → List Act
inked mix planes colour = write 0x48 1 mix ∷ write 0x50 4 planes ∷ write 0x58 4 colour ∷ write 0x4A 1 4 ∷ []

-- a line of dimension 0 over one pixel of this format: S is the foreground colour, D the memory
unfoldable pub mixes : (format mix planes s d result : ℕ) → Play
mixes format mix planes s d result =
    record {
      bytes = d ∷ [];
      calls =
          mapped 1 0 0 0 format
          ++ inked mix planes s
          ++ (write 0x7C 4 0x05018000 ∷ run 9 1 ∷ memory (result ∷ []) ∷ []);
    }

-- a line of dimension 0 in this drawing mode over the byte 55 hex
unfoldable pub dot : (operations result : ℕ) → Play
dot operations result =
    record {
      bytes = 0x55 ∷ [];
      calls =
          mapped 1 0 0 0 3
          ++ inked 3 0xFF 0xAA
          ++ (write 0x60 2 0 ∷ write 0x7C 4 operations ∷ run 9 1 ∷ memory (result ∷ []) ∷ state 0 ∷ []);
    }

-- rows of 24 pixels of 1 bit, of which only the last 8 are not 0
unfoldable pub rows : List ℕ → List ℕ
rows [] = []
rows (b ∷ bs) = 0 ∷ 0 ∷ b ∷ rows bs

-- step codes from (17,10) on a blank map of 24 by 11 pixels: how many positions they have, the place and state at the end, and the rows then
unfoldable pub codes : (offset length steps positions x y end : ℕ) → List ℕ → Play
codes offset length steps positions x y end seen =
    record {
      bytes = zeros 33;
      calls =
          mapped 1 0 23 10 0
          ++ inked 3 1 1
          ++ (write 0x78 2 17 ∷ write 0x7A 2 10
          ∷ write 0x7C 4 0x04018000
          ∷ write offset length steps
          ∷ run 20 positions
          ∷ read 0x78 2 x ∷ read 0x7A 2 y
          ∷ state end
          ∷ memory (rows seen)
          ∷ []);
    }

-- 8 by 8 bytes from this base on in 64 bytes, and the write that starts
unfoldable pub based : ℕ → Act → Play
based base start = record { bytes = zeros 64; calls = mapped 1 base 7 7 3 ++ (start ∷ []) }

-- ---- the table

-- 01, Cases, 1: S F0, D 3C hex: and 30, xor CC, S and not D C0
unfoldable pub case1 : Case
case1 =
    record {
      number = 1;
      plays = mixes 3 0x1 0xFF 0xF0 0x3C 0x30 ∷ mixes 3 0x6 0xFF 0xF0 0x3C 0xCC ∷ mixes 3 0x2 0xFF 0xF0 0x3C 0xC0 ∷ [];
    }

-- 01, Cases, 2: 8 bits, S 200, D 100: add 255, D - S 0; 4 bits, 9 + 9: 15
unfoldable pub case2 : Case
case2 =
    record {
      number = 2;
      plays = mixes 3 0x12 0xFF 200 100 255 ∷ mixes 3 0x13 0xFF 200 100 0 ∷ mixes 2 0x12 0xF 9 9 15 ∷ [];
    }

-- 01, Cases, 3: plane mask 0F, D 55, mix S with AA: 5A hex
unfoldable pub case3 : Case
case3 = record { number = 3; plays = mixes 3 0x3 0x0F 0xAA 0x55 0x5A ∷ [] }

-- 01, Cases, 4: E -1, K1 2, K2 -4, dimension 3, octant 0, from (0,0): (0,0) (1,0) (2,1) (3,1); E ends -1
unfoldable pub case4 : Case
case4 =
    record {
      number = 4;
      plays =
          record {
            bytes = zeros 8;
            calls =
                mapped 1 0 3 1 3
                ++ inked 3 0xFF 0xAA
                ++ (write 0x20 4 0xFFFFFFFF ∷ write 0x24 4 2 ∷ write 0x28 4 0xFFFFFFFC
                ∷ write 0x60 2 3
                ∷ write 0x78 2 0 ∷ write 0x7A 2 0
                ∷ write 0x7C 4 0x05018000
                ∷ run 1 1 ∷ memory (0xAA ∷ 0 ∷ 0 ∷ 0 ∷ 0 ∷ 0 ∷ 0 ∷ 0 ∷ [])
                ∷ run 1 1 ∷ memory (0xAA ∷ 0xAA ∷ 0 ∷ 0 ∷ 0 ∷ 0 ∷ 0 ∷ 0 ∷ [])
                ∷ run 1 1 ∷ memory (0xAA ∷ 0xAA ∷ 0 ∷ 0 ∷ 0 ∷ 0 ∷ 0xAA ∷ 0 ∷ [])
                ∷ run 9 1 ∷ memory (0xAA ∷ 0xAA ∷ 0 ∷ 0 ∷ 0 ∷ 0 ∷ 0xAA ∷ 0xAA ∷ [])
                ∷ read 0x20 4 0xFFFFFFFF ∷ read 0x78 2 3 ∷ read 0x7A 2 1
                ∷ state 0
                ∷ []);
          }
          ∷ [];
    }

-- 01, Cases, 5: dimension 0: one position; first null writes nothing
unfoldable pub case5 : Case
case5 = record { number = 5; plays = dot 0x05018000 0xAA ∷ dot 0x05018010 0x55 ∷ [] }

-- 01, Cases, 6: code 35 hex at (17,10): six positions, ends (22,5)
unfoldable pub case6 : Case
case6 =
    record {
      number = 6;
      plays = codes 0x2F 1 0x35 6 22 5 0 (0 ∷ 0 ∷ 0 ∷ 0 ∷ 0 ∷ 0x40 ∷ 0x20 ∷ 0x10 ∷ 0x08 ∷ 0x04 ∷ 0x02 ∷ []) ∷ [];
    }

-- 01, Cases, 7: steps FFFF0035 hex: six positions, then stop
unfoldable pub case7 : Case
case7 =
    record {
      number = 7;
      plays = codes 0x2C 4 0xFFFF0035 6 22 5 2 (0 ∷ 0 ∷ 0 ∷ 0 ∷ 0 ∷ 0x40 ∷ 0x20 ∷ 0x10 ∷ 0x08 ∷ 0x04 ∷ 0x02 ∷ []) ∷ [];
    }

-- 01, Cases, 8: code 20 hex: one position, no write, no stop
unfoldable pub case8 : Case
case8 = record { number = 8; plays = codes 0x2F 1 0x20 1 17 10 0 (zeros 11) ∷ [] }

-- 01, Cases, 9: destination X written 1800 hex reads F800
unfoldable pub case9 : Case
case9 =
    record { number = 9; plays = record { bytes = zeros 1; calls = write 0x78 2 0x1800 ∷ read 0x78 2 0xF800 ∷ [] } ∷ [] }

-- 01, Cases, 10: source width register 2: X 3 reads pixel 0
unfoldable pub case10 : Case
case10 =
    record {
      number = 10;
      plays =
          record {
            bytes = 0x11 ∷ 0x22 ∷ 0x33 ∷ 0 ∷ [];
            calls =
                mapped 1 3 0 0 3
                ++ mapped 2 0 2 0 3
                ++ inked 3 0xFF 0
                ++ (write 0x70 2 3 ∷ write 0x7C 4 0x25218000 ∷ run 9 1 ∷ memory (0x11 ∷ 0x22 ∷ 0x33 ∷ 0x11 ∷ []) ∷ read 0x70 2 0 ∷ []);
          }
          ∷ [];
    }

-- 01, Cases, 11: mask origin X 2, width register 1: columns 2 and 3 only
unfoldable pub case11 : Case
case11 =
    record {
      number = 11;
      plays =
          record {
            bytes = zeros 8;
            calls =
                mapped 1 0 7 0 3
                ++ mapped 0 0 1 0 0
                ++ inked 3 0xFF 0xAA
                ++ (write 0x20 4 0xFFFFFFFF ∷ write 0x60 2 7
                ∷ write 0x6C 2 2
                ∷ write 0x7C 4 0x05018040
                ∷ run 9 8
                ∷ memory (0 ∷ 0 ∷ 0xAA ∷ 0xAA ∷ 0 ∷ 0 ∷ 0 ∷ 0 ∷ [])
                ∷ []);
          }
          ∷ [];
    }

-- 01, Cases, 12: 8 by 8 bytes at base 0 in 64 bytes: accepted; base 1: refusal 8
unfoldable pub case12 : Case
case12 = record { number = 12; plays = based 0 (write 0x7C 4 0x05018000) ∷ based 1 (refused 0x7C 4 0x05018000 8) ∷ [] }

-- 01, Cases, the bench program: its input, and the memory that it prints
unfoldable pub sample : Case
sample =
    record {
      number = 13;
      plays =
          record {
            bytes = zeros 64;
            calls =
                write 0x12 1 1
                ∷ write 0x18 4 0x70007
                ∷ write 0x1C 1 3
                ∷ write 0x20 4 0xFFFFFFFF
                ∷ write 0x24 4 2
                ∷ write 0x28 4 0xFFFFFFFC
                ∷ write 0x48 1 3
                ∷ write 0x4A 1 4
                ∷ write 0x50 4 0xFF
                ∷ write 0x58 4 0xAA
                ∷ write 0x60 2 3
                ∷ write 0x7C 4 0x05018000
                ∷ run 2 2
                ∷ run 9 2
                ∷ memory (0xAA ∷ 0xAA ∷ 0 ∷ 0 ∷ 0 ∷ 0 ∷ 0 ∷ 0 ∷ 0 ∷ 0 ∷ 0xAA ∷ 0xAA ∷ 0 ∷ 0 ∷ 0 ∷ 0 ∷ zeros 48)
                ∷ [];
          }
          ∷ [];
    }

-- 01, Cases: the first twelve, and the bench sample after them
unfoldable pub cases : List Case
cases =
    case1
    ∷ case2
    ∷ case3
    ∷ case4
    ∷ case5
    ∷ case6
    ∷ case7
    ∷ case8
    ∷ case9
    ∷ case10
    ∷ case11
    ∷ case12
    ∷ sample
    ∷ []
