-- 01, Easy ways to draw it wrong, and other mistakes that somebody could make: a play for each that tells the right answer from the wrong one.
use Rattle.std.specs.Prelude.{ℕ, ◌+◌, List, [], ◌∷◌, ◌++◌}
use Rattle.cases.specs.Calls.{Act, Play, zeros, write, refused, read, unread, run, carried, altered, unsaved, unloaded, fresh, memory, state}
use Rattle.cases.specs.Cases.{mapped, inked, codes}

-- ---- drawings

-- 01, The functions, Codes: 20 hex is a position that does not draw, and no stop
unfoldable pub still_code : Play
still_code = codes 0x2C 4 0x00001020 2 17 10 2 (zeros 10 ++ (0x02 ∷ []))

-- a map of so many bytes in a row, all of memory, and a mix and colour
unfoldable pub row : (width mix colour : ℕ) → List Act
row width mix colour = mapped 1 0 width 0 3 ++ inked mix 0xFF colour

-- 01, Registers: only codes in that write are run, not those of an earlier one
unfoldable pub earlier_codes : Play
earlier_codes =
    record {
      bytes = zeros 4;
      calls = row 3 3 0xAA ++ (write 0x7C 4 0x04018000 ∷ write 0x2C 2 0x1010 ∷ write 0x2F 1 0x10 ∷ run 9 1 ∷ state 0 ∷ []);
    }

-- 01, One position: nothing is written outside the map; its one pixel, added to, is not drawn a second time
unfoldable pub not_tiled : Play
not_tiled =
    record {
      bytes = zeros 1;
      calls = row 0 0x12 1 ++ (write 0x20 4 0xFFFFFFFF ∷ write 0x60 2 1 ∷ write 0x7C 4 0x05018000 ∷ run 9 2 ∷ memory (1 ∷ []) ∷ []);
    }

-- 01, The functions: first null holds for each code; the second code's first pixel is not added to again
unfoldable pub each_code_nulled : Play
each_code_nulled =
    record {
      bytes = zeros 3;
      calls = row 2 0x12 1 ++ (write 0x7C 4 0x04018010 ∷ write 0x2E 2 0x1111 ∷ run 9 4 ∷ memory (0 ∷ 1 ∷ 1 ∷ []) ∷ []);
    }

-- 01, The functions: write forms move source X by +1, also where the line goes to the left
unfoldable pub source_forth : Play
source_forth =
    record {
      bytes = 0x11 ∷ 0x22 ∷ 0x33 ∷ 0 ∷ 0 ∷ [];
      calls =
          mapped 2 0 2 0 3
          ++ mapped 1 3 1 0 3
          ++ inked 3 0xFF 0
          ++ (write 0x20 4 0xFFFFFFFF ∷ write 0x60 2 1
          ∷ write 0x78 2 1
          ∷ write 0x7C 4 0x25218004
          ∷ run 9 2
          ∷ memory (0x11 ∷ 0x22 ∷ 0x33 ∷ 0x22 ∷ 0x11 ∷ [])
          ∷ []);
    }

-- docs/DIFFERENCES.md, D3: in a read form the pattern steps by the line, as the source does
unfoldable pub pattern_along : Play
pattern_along =
    record {
      bytes = 0x01 ∷ 0 ∷ 0 ∷ [];
      calls =
          mapped 3 0 0 1 0
          ++ mapped 1 1 1 0 3
          ++ inked 3 0xFF 0xAA
          ++ (write 0x49 1 3 ∷ write 0x5C 4 0x55
          ∷ write 0x20 4 0xFFFFFFFF ∷ write 0x60 2 1
          ∷ write 0x7C 4 0x03013001
          ∷ run 9 2
          ∷ memory (0x01 ∷ 0xAA ∷ 0x55 ∷ [])
          ∷ []);
    }

-- docs/DIFFERENCES.md, D4: an inverting block steps the destination's Y the other way, not the source's
unfoldable pub destination_inverted : Play
destination_inverted =
    record {
      bytes = 0x11 ∷ 0x22 ∷ 0 ∷ 0 ∷ [];
      calls =
          mapped 2 0 0 1 3
          ++ mapped 1 2 0 1 3
          ++ inked 3 0xFF 0
          ++ (write 0x62 2 1 ∷ write 0x7A 2 1 ∷ write 0x7C 4 0x29218000 ∷ run 9 2 ∷ memory (0x11 ∷ 0x22 ∷ 0x22 ∷ 0x11 ∷ []) ∷ []);
    }

-- 01, The functions, PxBlt: at each row's end X returns
unfoldable pub row_returned : Play
row_returned =
    record {
      bytes = zeros 4;
      calls =
          mapped 1 0 1 1 3
          ++ inked 3 0xFF 0xAA
          ++ (write 0x60 2 1 ∷ write 0x62 2 1 ∷ write 0x7C 4 0x08018000 ∷ run 9 4 ∷ memory (0xAA ∷ 0xAA ∷ 0xAA ∷ 0xAA ∷ []) ∷ []);
    }

-- 01, The functions, Line: E is reduced as in a write; 8,191 and 1 is -8,192
unfoldable pub error_reduced : Play
error_reduced =
    record {
      bytes = zeros 2;
      calls = row 1 3 0xAA ++ (write 0x20 4 0x1FFF ∷ write 0x28 4 1 ∷ write 0x60 2 1 ∷ write 0x7C 4 0x05018000 ∷ run 9 2 ∷ read 0x20 4 0xFFFFE000 ∷ []);
    }

-- 01, How tight the promises are: a position draws as well as moves, and the next is not drawn with it
unfoldable pub one_position : Play
one_position =
    record {
      bytes = zeros 2;
      calls =
          row 1 3 0xAA
          ++ (write 0x20 4 0xFFFFFFFF ∷ write 0x60 2 1
          ∷ write 0x7C 4 0x05018000
          ∷ run 1 1 ∷ memory (0xAA ∷ 0 ∷ []) ∷ read 0x78 2 1
          ∷ run 9 1 ∷ memory (0xAA ∷ 0xAA ∷ []) ∷ state 0
          ∷ run 9 0
          ∷ []);
    }

-- ---- area boundaries and fills

-- the line of case 4 in drawing mode 11, in this octant from this row on, over four by two bytes
unfoldable pub boundary : (octant y : ℕ) → List Act
boundary octant y =
    mapped 1 0 3 1 3
    ++ inked 3 0xFF 0xAA
    ++ (write 0x20 4 0xFFFFFFFF ∷ write 0x24 4 2 ∷ write 0x28 4 0xFFFFFFFC
    ∷ write 0x60 2 3
    ∷ write 0x7A 2 y
    ∷ write 0x7C 4 (0x05018030 + octant)
    ∷ [])

-- 003, Area Boundary Drawing: going down, the last of each horizontal run, and not the last position
unfoldable pub boundary_down : Play
boundary_down = record { bytes = zeros 8; calls = boundary 0 0 ++ (run 9 4 ∷ memory (0 ∷ 0xAA ∷ zeros 6) ∷ []) }

-- 003, Area Boundary Drawing: going up, the first of each horizontal run, and not the first position
unfoldable pub boundary_up : Play
boundary_up = record { bytes = zeros 8; calls = boundary 2 1 ++ (run 9 4 ∷ memory (0 ∷ 0 ∷ 0xAA ∷ zeros 5) ∷ []) }

-- 003, Area Boundary Drawing: a level line draws nothing
unfoldable pub boundary_level : Play
boundary_level =
    record {
      bytes = zeros 2;
      calls = row 1 3 0xAA ++ (write 0x20 4 0xFFFFFFFF ∷ write 0x60 2 1 ∷ write 0x7C 4 0x05018030 ∷ run 9 2 ∷ memory (zeros 2) ∷ []);
    }

-- 003, Area Boundary Drawing: each code is a line of its own; up and down again both cross the upper row
unfoldable pub boundary_codes : Play
boundary_codes =
    record {
      bytes = zeros 2;
      calls =
          mapped 1 0 0 1 3
          ++ inked 0x12 0xFF 1
          ++ (write 0x7A 2 1 ∷ write 0x7C 4 0x04018030 ∷ write 0x2E 2 0xD151 ∷ run 9 4 ∷ memory (2 ∷ 0 ∷ []) ∷ []);
    }

-- 003, Area Outline Scissoring; docs/DIFFERENCES.md, D5: a crossing to the left of the map is drawn in column 0
unfoldable pub boundary_left : Play
boundary_left =
    record {
      bytes = zeros 2;
      calls =
          mapped 1 0 0 1 3
          ++ inked 3 0xFF 0xAA
          ++ (write 0x20 4 0xFFFFFFFF ∷ write 0x60 2 1
          ∷ write 0x78 2 0xFFFF
          ∷ write 0x7C 4 0x05018031
          ∷ run 9 2
          ∷ memory (0xAA ∷ 0 ∷ [])
          ∷ []);
    }

-- a fill by the outline in the first byte, four pixels in a row, of as many bytes behind it; nothing is drawn outside
unfoldable pub fill : (rows : ℕ) → List Act
fill rows =
    mapped 2 0 3 rows 0
    ++ mapped 1 1 3 rows 3
    ++ inked 3 0xFF 0xAA
    ++ (write 0x49 1 5 ∷ write 0x60 2 3 ∷ write 0x62 2 rows ∷ write 0x7C 4 0x0A012000 ∷ [])

-- 003, Area Fill: the opening pixel is filled and the closing one not; 02, 102: each row starts outside
unfoldable pub filled_by_rows : Play
filled_by_rows =
    record {
      bytes = 0x52 ∷ zeros 8;
      calls = fill 1 ++ (run 9 8 ∷ memory (0x52 ∷ 0 ∷ 0xAA ∷ 0xAA ∷ 0xAA ∷ 0xAA ∷ 0xAA ∷ 0 ∷ 0 ∷ []) ∷ []);
    }

-- 003, Area Fill: the pattern may be the destination: each outline pixel is read before it is drawn over
unfoldable pub filled_in_place : Play
filled_in_place =
    record {
      bytes = 0x0A ∷ [];
      calls = mapped 1 0 3 0 0 ++ inked 3 1 1 ++ (write 0x60 2 3 ∷ write 0x7C 4 0x0A011000 ∷ run 9 4 ∷ memory (0x06 ∷ []) ∷ []);
    }

-- 02, 102, point 3: a fill cut in mid row and carried to another coprocessor goes on inside
unfoldable pub cut_fill : Play
cut_fill =
    record {
      bytes = 0x0A ∷ zeros 4;
      calls = fill 0 ++ (run 2 2 ∷ state 3 ∷ carried 64 ∷ state 3 ∷ run 9 2 ∷ memory (0x0A ∷ 0 ∷ 0xAA ∷ 0xAA ∷ 0 ∷ []) ∷ []);
    }

-- 02, 102, point 3: a line cut where it rose to another row, and carried, draws the first of the run there
unfoldable pub cut_boundary : Play
cut_boundary =
    record { bytes = zeros 8; calls = boundary 2 1 ++ (run 2 2 ∷ carried 64 ∷ state 3 ∷ run 9 2 ∷ memory (0 ∷ 0 ∷ 0xAA ∷ zeros 5) ∷ []) }

-- 02, 102: state 3 loads for a fill only in mid row
unfoldable pub inside_at_start : Play
inside_at_start = record { bytes = zeros 5; calls = fill 0 ++ (altered 9 3 10 ∷ run 1 1 ∷ altered 9 3 0 ∷ state 3 ∷ []) }

-- 02, 102: and for a line in mode 11 only once a position is done, also for one that goes down, where the next step clears it
unfoldable pub risen_at_start : Play
risen_at_start =
    record {
      bytes = zeros 8;
      calls = boundary 0 0 ++ (altered 9 3 10 ∷ run 1 1 ∷ altered 9 3 0 ∷ state 3 ∷ run 1 1 ∷ state 1 ∷ []);
    }

-- 02, 102: a fill to the left is refused, and so is one whose pattern is no map
unfoldable pub fill_refused : Play
fill_refused = record { bytes = zeros 1; calls = row 0 3 0xAA ++ (refused 0x7C 4 0x0A011004 5 ∷ refused 0x7C 4 0x0A018000 5 ∷ []) }

-- ---- registers and starts

-- 01, Numbers a call answers with: the lowest number, so an unfinished drawing before an unlisted byte; reads go on
unfoldable pub lowest_number : Play
lowest_number =
    record {
      bytes = zeros 2;
      calls = row 1 3 0xAA ++ (write 0x60 2 1 ∷ write 0x7C 4 0x05018000 ∷ refused 0x00 1 0 2 ∷ read 0x60 2 1 ∷ unread 0x13 1 3 ∷ unread 0x79 2 1 ∷ []);
    }

-- 01, Registers: 48 to 4A are listed, and 4B is not
unfoldable pub unlisted_byte : Play
unlisted_byte = record { bytes = zeros 1; calls = refused 0x48 4 3 3 ∷ read 0x48 1 0 ∷ [] }

-- 01, refusal 5: code 0 in a used map field is no map; a refused write stores nothing
unfoldable pub code_zero : Play
code_zero = record { bytes = zeros 1; calls = row 0 3 0xAA ++ (refused 0x7C 4 0x05008000 5 ∷ read 0x7C 4 0 ∷ []) }

-- 01, Numbers a call answers with: the mask map counts as used only when enabled, so in mode 01 its format is not looked at
unfoldable pub mask_boundary : Play
mask_boundary =
    record { bytes = zeros 1; calls = mapped 0 0 0 0 3 ++ row 0 3 0xAA ++ (refused 0x7C 4 0x05018080 7 ∷ write 0x7C 4 0x05018040 ∷ run 9 1 ∷ []) }

-- 02, 101: pixel code 4 is refused, with the order bit and without it; that bit alone is not, and its image loads
unfoldable pub order_taken : Play
order_taken =
    record {
      bytes = zeros 1;
      calls =
          mapped 1 0 0 0 0x0C
          ++ inked 3 0xFF 0xAA
          ++ (refused 0x7C 4 0x05018000 7
          ∷ write 0x1C 1 4 ∷ refused 0x7C 4 0x05018000 7
          ∷ write 0x1C 1 0x0B ∷ write 0x7C 4 0x05018000 ∷ carried 1 ∷ run 9 1 ∷ memory (0xAA ∷ [])
          ∷ []);
    }

-- 01, Registers: a first code 00 ends at once with no position, flagged as stopped
unfoldable pub first_code_stops : Play
first_code_stops = record { bytes = zeros 1; calls = row 0 3 0xAA ++ (write 0x7C 4 0x04018000 ∷ write 0x2F 1 0 ∷ state 2 ∷ run 9 0 ∷ memory (0 ∷ []) ∷ []) }

-- 01, Maps and pointers: a used source pointer becomes its remainder at the start, an unused pattern pointer stays
unfoldable pub pointers_turned : Play
pointers_turned =
    record {
      bytes = zeros 2;
      calls =
          mapped 2 0 1 0 3
          ++ mapped 1 0 1 0 3
          ++ inked 3 0xFF 0
          ++ (write 0x70 2 3 ∷ write 0x74 2 3 ∷ write 0x7C 4 0x25218000 ∷ read 0x70 2 1 ∷ read 0x74 2 3 ∷ []);
    }

-- ---- fresh states and images

-- 01, What the board draws: memory is of 1 to 1,048,576 bytes
unfoldable pub sizes : Play
sizes = record { bytes = zeros 1; calls = fresh 0 9 ∷ fresh 1048576 0 ∷ fresh 1048577 9 ∷ [] }

-- 01, State image: 115 bytes, with their mark; what is refused changes nothing
unfoldable pub no_image : Play
no_image =
    record { bytes = zeros 1; calls = write 0x50 4 0xFF ∷ unsaved 114 10 ∷ unloaded (zeros 115) 10 ∷ read 0x50 4 0xFF ∷ [] }

-- 01, How tight the promises are, point 3: a line cut after its first position and carried to a coprocessor of another size goes on where it was
unfoldable pub cut_line : Play
cut_line =
    record {
      bytes = zeros 2;
      calls =
          row 1 3 0xAA
          ++ (write 0x20 4 0xFFFFFFFF ∷ write 0x60 2 1
          ∷ write 0x7C 4 0x05018000
          ∷ run 1 1 ∷ carried 64 ∷ state 1
          ∷ memory (0xAA ∷ 0 ∷ [])
          ∷ run 9 1 ∷ memory (0xAA ∷ 0xAA ∷ []) ∷ read 0x78 2 1 ∷ state 0
          ∷ []);
    }

-- 01, Easy ways to draw it wrong, and others: all of them
unfoldable pub mistakes : List Play
mistakes =
    still_code
    ∷ earlier_codes
    ∷ not_tiled
    ∷ each_code_nulled
    ∷ source_forth
    ∷ pattern_along
    ∷ destination_inverted
    ∷ row_returned
    ∷ error_reduced
    ∷ one_position
    ∷ boundary_down
    ∷ boundary_up
    ∷ boundary_level
    ∷ boundary_codes
    ∷ boundary_left
    ∷ filled_by_rows
    ∷ filled_in_place
    ∷ cut_fill
    ∷ cut_boundary
    ∷ inside_at_start
    ∷ risen_at_start
    ∷ fill_refused
    ∷ lowest_number
    ∷ unlisted_byte
    ∷ code_zero
    ∷ mask_boundary
    ∷ order_taken
    ∷ first_code_stops
    ∷ pointers_turned
    ∷ sizes
    ∷ no_image
    ∷ cut_line
    ∷ []
