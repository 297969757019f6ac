-- The bytes of an input, taken one by one, print what its lines print: a line is gathered in the buffer until its newline comes, and is its command there.
use mathlib.Core.Path.{◌≡◌, refl, sym, ap, ◌∙◌}
use mathlib.Core.Bool.{Bool, true, false}
use mathlib.Core.List.{List, [], ◌∷◌, ◌++◌, append-nil, append_assoc}
use Prim.Native.Nat.{ℕ}
use lib.ListN.{length, replicate}
use lib.Dec.{eqb}
use borrow.Author.Tests.{lt-ltb}
use Rattle.coprocessor.specs.Fresh.{size_holds, fresh_answer}
use Rattle.console.specs.Commands.{line_command}
use Rattle.console.specs.Gathered.{command_in}
use Rattle.console.proofs.GatherLaws.{buffer_after, counts_after, buffer_length, line_gathered, buffer_last, counts_last, counts_some}
use Rattle.bench.specs.Printed.{byte_before, lines_of, BenchState, state_after, line_text, state_after_all, text_of_all, first_state, printed}
use Rattle.bench.specs.Inner.{Session, first_session, line_ended, byte_gathered, byte_taken, bytes_taken, last_ended, with_text, input_ended}
use Rattle.bench.specs.Played.{begun, first_progress}

-- ---- the lines of an input

-- these bytes before the lines
unfoldable bytes_before : List ℕ → List (List ℕ) → List (List ℕ)
bytes_before [] lines = lines
bytes_before (byte ∷ bytes) lines = byte_before byte (bytes_before bytes lines)

before_last : (came : List ℕ) (b : ℕ) (lines : List (List ℕ)) → bytes_before (came ++ (b ∷ [])) lines ≡ bytes_before came (byte_before b lines)
unfolding bytes_before
before_last [] b lines = refl
before_last (c ∷ came) b lines = ap (byte_before c) (before_last came b lines)

before_newline : (came : List ℕ) (lines : List (List ℕ)) → bytes_before came ([] ∷ lines) ≡ came ∷ lines
unfolding bytes_before byte_before
before_newline [] lines = refl
before_newline (c ∷ came) lines = rw (before_newline came lines)

before_end : (b : ℕ) (came : List ℕ) → bytes_before (b ∷ came) [] ≡ (b ∷ came) ∷ []
unfolding bytes_before byte_before
before_end b [] = refl
before_end b (c ∷ came) = rw (before_end c came)

-- ---- a session that holds the line so far

-- a session between two lines
abbrev pub state_of : Session → BenchState
state_of s = record { board = s.board; memory = s.memory; line = s.line }

-- the bench, with these bytes of the next line in the buffer, and this text waiting
abbrev session_at : List ℕ → List ℕ → BenchState → List ℕ → Session
session_at buffer came s text =
    record {
      board = s.board;
      memory = s.memory;
      buffer = buffer_after buffer 0 came;
      count = counts_after 256 0 came;
      line = s.line;
      text = text;
    }

-- these bytes and the input's end make of the session what the lines make of the bench, and print the same
record Follows (bytes : List ℕ) (session : Session) (lines : List (List ℕ)) (s : BenchState) : Type 0 where
  left : state_of (last_ended (bytes_taken bytes session)) ≡ state_after_all lines s
  text : (last_ended (bytes_taken bytes session)).text ≡ session.text ++ text_of_all lines s

module _ (buffer came : List ℕ) (s : BenchState) (text : List ℕ) (room : length buffer ≡ 256) where
  command_at : command_in (buffer_after buffer 0 came) (counts_after 256 0 came) ≡ line_command 256 came
  command_at = rw room at (line_gathered buffer came)

  -- where the line ends it is done
  ended_at : line_ended (session_at buffer came s text) ≡ session_at (buffer_after buffer 0 came) [] (state_after came s) (text ++ line_text came s)
  unfolding line_ended state_after line_text buffer_after counts_after
  ended_at = rw command_at

  -- and one more byte goes to the end of those that came
  gathered_at : (b : ℕ) → byte_gathered b (session_at buffer came s text) ≡ session_at buffer (came ++ (b ∷ [])) s text
  unfolding byte_gathered
  gathered_at b = rw (buffer_last buffer 0 came b, counts_last 256 0 came b, buffer_length buffer 0 came, room)

  -- ---- one byte

  follows_newline : (b : ℕ) (bytes : List ℕ) → eqb b 10 ≡ true
      → Follows bytes (session_at (buffer_after buffer 0 came) [] (state_after came s) (text ++ line_text came s)) (lines_of bytes) (state_after came s)
      → Follows (b ∷ bytes) (session_at buffer came s text) (bytes_before came (lines_of (b ∷ bytes))) s
  unfolding lines_of byte_taken bytes_taken state_after_all text_of_all
  follows_newline b bytes newline rest =
      record {
        left = rw (newline, before_newline came (lines_of bytes), ended_at) rest.left;
        text = rw (newline, before_newline came (lines_of bytes), ended_at) (rest.text ∙ append_assoc text (line_text came s) _);
      }

  follows_other : (b : ℕ) (bytes : List ℕ) → eqb b 10 ≡ false
      → Follows bytes (session_at buffer (came ++ (b ∷ [])) s text) (bytes_before (came ++ (b ∷ [])) (lines_of bytes)) s
      → Follows (b ∷ bytes) (session_at buffer came s text) (bytes_before came (lines_of (b ∷ bytes))) s
  unfolding lines_of byte_taken bytes_taken
  follows_other b bytes other rest =
      record {
        left = rw (other, ← before_last came b (lines_of bytes), gathered_at b) rest.left;
        text = rw (other, ← before_last came b (lines_of bytes), gathered_at b) rest.text;
      }

  follows_by : (b : ℕ) (bytes : List ℕ) (t : Bool) → eqb b 10 ≡ t
      → ((buffer came : List ℕ) (s : BenchState) (text : List ℕ) → length buffer ≡ 256
      → Follows bytes (session_at buffer came s text) (bytes_before came (lines_of bytes)) s)
      → Follows (b ∷ bytes) (session_at buffer came s text) (bytes_before came (lines_of (b ∷ bytes))) s
  unfolding bytes_before
  follows_by b bytes true newline rest =
      follows_newline b bytes newline (rest (buffer_after buffer 0 came) [] (state_after came s) (text ++ line_text came s) (buffer_length buffer 0 came ∙ room))
  follows_by b bytes false other rest = follows_other b bytes other (rest buffer (came ++ (b ∷ [])) s text room)

-- ---- all bytes

-- at the input's end a line that has any byte is the last
follows_end : (buffer came : List ℕ) (s : BenchState) (text : List ℕ) → length buffer ≡ 256
    → Follows [] (session_at buffer came s text) (bytes_before came []) s
unfolding bytes_taken last_ended state_after_all text_of_all bytes_before counts_after
follows_end buffer [] s text room = record { left = refl; text = sym (append-nil text) }
follows_end buffer (b ∷ came) s text room =
    let some = lt-ltb 0 _ (counts_some 256 b came) in
    record {
      left = rw (some, before_end b came) (ap state_of (ended_at buffer (b ∷ came) s text room));
      text = rw (some, before_end b came, append-nil) (ap (λ (t : Session). t.text) (ended_at buffer (b ∷ came) s text room));
    }

follows : (bytes buffer came : List ℕ) (s : BenchState) (text : List ℕ) → length buffer ≡ 256
    → Follows bytes (session_at buffer came s text) (bytes_before came (lines_of bytes)) s
unfolding lines_of
follows [] buffer came s text room = follows_end buffer came s text room
follows (b ∷ bytes) buffer came s text room = follows_by buffer came s text room b bytes (eqb b 10) refl (follows bytes)

follows_input : (input : List ℕ) → Follows input first_progress.session (lines_of input) first_state
unfolding size_holds fresh_answer first_session begun first_progress first_state bytes_before buffer_after counts_after
follows_input input = follows input (replicate 256 0) [] first_state [] refl

-- the input's bytes leave what its lines leave
pub lines_taken : (input : List ℕ) → state_of (last_ended (bytes_taken input first_progress.session)) ≡ state_after_all (lines_of input) first_state
lines_taken input = (follows_input input).left

-- and print what is to be printed
pub input_printed : (input : List ℕ) → (input_ended (bytes_taken input first_progress.session)).text ≡ printed input
unfolding with_text input_ended first_session begun first_progress printed
input_printed input = rw ((follows_input input).text, ap (λ (s : BenchState). s.memory) (follows_input input).left)
