-- What the bench program prints for an input.
use Rattle.std.specs.Prelude.{List, [], ◌∷◌, ◌++◌, ℕ, ◌+◌, replicate, ltb, eqb}
use Rattle.numbers.specs.Choose.{choose}
use Rattle.coprocessor.specs.declared.Coprocessor.{Coprocessor}
use Rattle.coprocessor.specs.Fresh.{fresh_of}
use Rattle.console.specs.Commands.{line_command}
use Rattle.console.specs.Texts.{answer_text, memory_text}
use Rattle.console.specs.Answers.{told_of, memory_after}

-- docs/DECISIONS.md, 44: a byte before these lines goes into the first; where there is none, it is a line that lacks its newline
unfoldable pub byte_before : ℕ → List (List ℕ) → List (List ℕ)
byte_before byte [] = (byte ∷ []) ∷ []
byte_before byte (line ∷ lines) = (byte ∷ line) ∷ lines

-- 01, the bench program: the lines of an input, each ended by a newline (10)
unfoldable pub lines_of : List ℕ → List (List ℕ)
lines_of [] = []
lines_of (byte ∷ bytes) = choose (eqb byte 10) ([] ∷ lines_of bytes) (byte_before byte (lines_of bytes))

-- 01, the bench program: the bench between two lines: the record, the memory, and the number of the next line
pub record BenchState : Type 0 where
  pub board : Coprocessor
  pub memory : List ℕ
  pub line : ℕ

-- docs/DECISIONS.md, 44: every line is counted; the last number of 64 bits stays
unfoldable pub line_after : ℕ → ℕ
line_after line = choose (ltb line 18446744073709551615) (line + 1) line

-- 01, the bench program: the bench after a line, whose command is done; docs/DECISIONS.md, 44: more than 256 bytes are neither
unfoldable pub state_after : List ℕ → BenchState → BenchState
state_after line s =
    record {
      board = (told_of (line_command 256 line) s.board s.memory).coprocessor;
      memory = memory_after (line_command 256 line) s.board s.memory;
      line = line_after s.line;
    }

-- 01, the bench program: what a line prints
unfoldable pub line_text : List ℕ → BenchState → List ℕ
line_text line s = answer_text (told_of (line_command 256 line) s.board s.memory).answer s.line

-- 01, the bench program: the bench after all these lines, one after the other
unfoldable pub state_after_all : List (List ℕ) → BenchState → BenchState
state_after_all [] s = s
state_after_all (line ∷ lines) s = state_after_all lines (state_after line s)

-- 01, the bench program: what all these lines print
unfoldable pub text_of_all : List (List ℕ) → BenchState → List ℕ
text_of_all [] s = []
text_of_all (line ∷ lines) s = line_text line s ++ text_of_all lines (state_after line s)

-- 01, the bench program: a fresh state over 64 zero bytes, before line 1
unfoldable pub first_state : BenchState
first_state = record { board = fresh_of 64; memory = replicate 64 0; line = 1 }

-- 01, the bench program: what each line prints, then memory
unfoldable pub printed : List ℕ → List ℕ
printed input =
    text_of_all (lines_of input) first_state ++ memory_text (state_after_all (lines_of input) first_state).memory
