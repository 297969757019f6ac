-- How the program goes read by read, and what it promises of the whole input.
use Rattle.std.specs.Prelude.{◌≡◌, Bool, true, false, ◌&&◌, List, [], ◌++◌, ℕ, ◌-◌, length, take, ltb}
use Rattle.bench.specs.declared.session.Bench.{Bench}
use Rattle.bench.specs.Printed.{printed}
use Rattle.bench.specs.Inner.{Session, session_of, first_session, bytes_taken, with_text, input_ended}

-- whether to read again
unfoldable pub reads_on : (more : Bool) (left : ℕ) → Bool
reads_on more left = more && ltb 0 left

-- the bench between two reads: the session, whether there may be more to read, and how many reads are left
pub record Progress : Type 0 where
  pub session : Session
  pub more : Bool
  pub left : ℕ

unfoldable pub progress_of : Bench → (more : Bool) (left : ℕ) → Progress
progress_of bench more left = record { session = session_of bench; more = more; left = left }

-- before the first read: as many are left as a number of 64 bits can count
unfoldable pub begun : Session → Progress
begun session = record { session = session; more = true; left = 18446744073709551615 }

-- over 64 zero bytes, with nothing in the buffer and no text that waits
unfoldable pub first_progress : Progress
first_progress = begun first_session

-- one read: these bytes came, and what they print was handed on; none came at the input's end
unfoldable pub turned : (piece : List ℕ) → Progress → Progress
turned piece p =
    record { session = with_text [] (bytes_taken piece p.session); more = ltb 0 (length piece); left = p.left - 1 }

-- in between some bytes came into the buffer of a read, which holds these then
pub record Turned (held : List ℕ) (p q : Progress) : Type 0 where
  pub came : ℕ
  pub same : q ≡ turned (take came held) p

-- reads one after another, each where it reads on
pub data Reads (p : Progress) : Progress → Type 0 where
  none : Reads p p
  again : {q : Progress} → Reads p q → reads_on q.more q.left ≡ true → (piece : List ℕ) → Reads p (turned piece q)

-- reads from this session on to the input's end, which leave that one
pub record ReadToEnd (first end : Session) : Type 0 where
  pub last : Progress
  pub reads : Reads (begun first) last
  pub ended : reads_on last.more last.left ≡ false
  pub same : end ≡ last.session

-- the bytes that came in them
unfoldable pub heard : {p q : Progress} → Reads p q → List ℕ
heard none = []
heard (again reads on piece) = heard reads ++ piece

-- the text that was laid in them, and handed on after each
unfoldable pub told : {p q : Progress} → Reads p q → List ℕ
told none = []
told (again {q} reads on piece) = told reads ++ (bytes_taken piece q.session).text

-- the whole input: reads to its end, then the last line and the memory; and all text laid on the way is what is to be printed for the bytes that came
pub record Played (end : Session) : Type 0 where
  pub last : Progress
  pub reads : Reads first_progress last
  pub ended : reads_on last.more last.left ≡ false
  pub same : end ≡ with_text [] (input_ended last.session)
  pub right : told reads ++ (input_ended last.session).text ≡ printed (heard reads)
