-- docs/DECISIONS.md, 40: that the coprocessor draws: for every function, pixel size and mix a drawing of one position, and what it does to memory.
use Rattle.std.specs.Prelude.{ℕ, zero, suc, ◌+◌, ◌*◌, Bool, true, ◌&&◌, ◌||◌, List, [], ◌∷◌, ◌++◌, get_or, eqb}
use Rattle.numbers.specs.Choose.{choose}
use Rattle.cases.specs.Calls.{Act, Play, write, run, memory, changed, played}

-- docs/DECISIONS.md, 40: by mix, from 0 on, a source pixel that makes another of the destination pixel
abbrev pub sources : List ℕ
sources = 0 ∷ 0 ∷ 1 ∷ 0 ∷ 1 ∷ 1 ∷ 1 ∷ 1 ∷ 1 ∷ 0 ∷ 0 ∷ 0 ∷ 1 ∷ 0 ∷ 1 ∷ 0 ∷ 1 ∷ 0 ∷ 1 ∷ 1 ∷ 1 ∷ 0 ∷ []

-- docs/DECISIONS.md, 40: by mix, the destination pixel
abbrev pub destinations : List ℕ
destinations = 1 ∷ 1 ∷ 1 ∷ 1 ∷ 1 ∷ 0 ∷ 0 ∷ 0 ∷ 1 ∷ 1 ∷ 0 ∷ 1 ∷ 1 ∷ 0 ∷ 1 ∷ 0 ∷ 0 ∷ 1 ∷ 0 ∷ 1 ∷ 1 ∷ 1 ∷ []

-- 01, Registers: a write covering 7F starts the function, and one covering 2F draw and step, here by a code of one drawn position; 02, 102: a fill
-- has a pattern map
unfoldable pub start_for : ℕ → List Act
start_for function =
    choose (eqb function 10) (write 0x12 1 2 ∷ write 0x14 4 1 ∷ write 0x7C 4 0x0A012000 ∷ [])
    (write 0x7C 4 (function * 0x1000000 + 0x18000)
    ∷ choose (eqb function 2 || eqb function 4) (write 0x2F 1 0x10 ∷ []) [])

-- a map of one pixel, one position on it, and a byte 1 behind it for a fill's pattern; mix 5 is D, which alone leaves every pixel as it is
unfoldable pub live : (function format mix : ℕ) → Play
live function format mix =
    record {
      bytes = get_or destinations mix 0 ∷ 1 ∷ [];
      calls =
          write 0x12 1 1
          ∷ write 0x1C 1 format
          ∷ write 0x48 1 mix
          ∷ write 0x4A 1 4
          ∷ write 0x50 4 0xFF
          ∷ write 0x58 4 (get_or sources mix 0)
          ∷ start_for function
          ++ (run 9 1 ∷ choose (eqb mix 5) memory changed (get_or destinations mix 0 ∷ 1 ∷ []) ∷ []);
    }

-- all mixes below n
unfoldable pub by_mix : (function format n : ℕ) → List Play
by_mix function format zero = []
by_mix function format (suc n) = live function format n ∷ by_mix function format n

-- all mixes, in all four sizes
unfoldable pub by_size : ℕ → List Play
by_size function = by_mix function 0 22 ++ by_mix function 1 22 ++ by_mix function 2 22 ++ by_mix function 3 22

-- all functions that draw
unfoldable pub every_drawing : List Play
every_drawing = by_size 2 ++ by_size 3 ++ by_size 4 ++ by_size 5 ++ by_size 8 ++ by_size 9 ++ by_size 10

-- whether all of these are played so
unfoldable pub all_played : List Play → Bool
all_played [] = true
all_played (p ∷ ps) = played p && all_played ps
