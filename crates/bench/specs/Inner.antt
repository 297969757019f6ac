-- How the program goes byte by byte: what its functions promise each other. That it prints what `printed` says is proved (proofs/PrintedLaws.antt).
use Rattle.std.specs.Prelude.{List, [], ◌∷◌, ◌++◌, ℕ, length, replicate, set, ltb, eqb}
use Rattle.numbers.specs.Choose.{choose}
use Rattle.coprocessor.specs.declared.Coprocessor.{Coprocessor}
use Rattle.coprocessor.specs.Fresh.{fresh_answer}
use Rattle.console.specs.Answers.{told_of, memory_after}
use Rattle.console.specs.Gathered.{count_after, command_in}
use Rattle.console.specs.Texts.{answer_text, memory_text}
use Rattle.bench.specs.declared.session.Bench.{Bench}
use Rattle.bench.specs.Text.{waiting}
use Rattle.bench.specs.Printed.{line_after}

-- the bench between two bytes: the record, the memory, the line under way in its buffer, that line's number, and the text that waits
pub record Session : Type 0 where
  pub board : Coprocessor
  pub memory : List ℕ
  pub buffer : List ℕ
  pub count : ℕ
  pub line : ℕ
  pub text : List ℕ

unfoldable pub session_of : Bench → Session
session_of bench =
    record {
      board = bench.board;
      memory = bench.memory;
      buffer = bench.line.bytes;
      count = bench.line.count;
      line = bench.number;
      text = waiting bench.text;
    }

-- before the first byte: over 64 zero bytes, with nothing in the buffer and no text that waits
unfoldable pub first_session : Session
first_session =
    record {
      board = (fresh_answer 64).coprocessor;
      memory = replicate 64 0;
      buffer = replicate 256 0;
      count = 0;
      line = 1;
      text = [];
    }

-- at a line's end its command is done, its answer waits, and the next line begins
unfoldable pub line_ended : Session → Session
line_ended s =
    record {
      board = (told_of (command_in s.buffer s.count) s.board s.memory).coprocessor;
      memory = memory_after (command_in s.buffer s.count) s.board s.memory;
      buffer = s.buffer;
      count = 0;
      line = line_after s.line;
      text = s.text ++ answer_text (told_of (command_in s.buffer s.count) s.board s.memory).answer s.line;
    }

-- any other byte goes into the line
unfoldable pub byte_gathered : ℕ → Session → Session
byte_gathered byte s =
    record {
      board = s.board;
      memory = s.memory;
      buffer = set s.buffer s.count byte;
      count = count_after (length s.buffer) s.count;
      line = s.line;
      text = s.text;
    }

-- a newline (10) ends the line
unfoldable pub byte_taken : ℕ → Session → Session
byte_taken byte s = choose (eqb byte 10) (line_ended s) (byte_gathered byte s)

-- all these bytes, one after the other
unfoldable pub bytes_taken : List ℕ → Session → Session
bytes_taken [] s = s
bytes_taken (byte ∷ bytes) s = bytes_taken bytes (byte_taken byte s)

-- at the input's end the line is done, if it has any byte
unfoldable pub last_ended : Session → Session
last_ended s = choose (ltb 0 s.count) (line_ended s) s

-- with this text waiting instead
unfoldable pub with_text : List ℕ → Session → Session
with_text text s =
    record { board = s.board; memory = s.memory; buffer = s.buffer; count = s.count; line = s.line; text = text }

-- at the input's end memory is shown after the last line
unfoldable pub input_ended : Session → Session
input_ended s = with_text ((last_ended s).text ++ memory_text (last_ended s).memory) (last_ended s)
