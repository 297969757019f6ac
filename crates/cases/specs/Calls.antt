-- A worked case: calls on a fresh coprocessor over lent memory, each with the answer that the paper gives.
use Rattle.std.specs.Prelude.{◌≡◌, ℕ, zero, suc, Bool, true, false, not, ◌&&◌, List, [], ◌∷◌, length, set, eqb}
use Rattle.parts.specs.Refusals.{refusal_number, is_accepted}
use Rattle.coprocessor.specs.declared.Coprocessor.{Coprocessor}
use Rattle.coprocessor.specs.declared.Written.{Written}
use Rattle.coprocessor.specs.Fresh.{fresh_answer}
use Rattle.coprocessor.specs.Writes.{write_answer}
use Rattle.coprocessor.specs.Reads.{read_answer}
use Rattle.coprocessor.specs.Runs.{run_answer, run_memory}
use Rattle.image.specs.Counters.{counters_of}
use Rattle.coprocessor.specs.Images.{save_refusal, saved, load_answer}

-- 01, Cases: a call with its answer, or what is then seen
pub data Act : Type 0 where
  -- an accepted write
  write : (offset length value : ℕ) → Act
  -- a write that is refused with this number
  refused : (offset length value number : ℕ) → Act
  -- an accepted read that gives this value
  read : (offset length value : ℕ) → Act
  -- a read that is refused with this number, and gives 0
  unread : (offset length number : ℕ) → Act
  -- an accepted run that does so many positions
  run : (allowance done : ℕ) → Act
  -- the state saved into 115 bytes, and those loaded into a fresh coprocessor of this size, where the play goes on
  carried : (size : ℕ) → Act
  -- the state saved into 115 bytes with one of them changed, and what a load of these answers; the play goes on with what it leaves
  altered : (place byte number : ℕ) → Act
  -- a save into so many bytes that is refused with this number, and leaves them
  unsaved : (length number : ℕ) → Act
  -- a load of these bytes that is refused with this number
  unloaded : (bytes : List ℕ) (number : ℕ) → Act
  -- what a fresh state of this size answers
  fresh : (size number : ℕ) → Act
  -- these bytes are the memory
  memory : (bytes : List ℕ) → Act
  -- the memory is no longer these bytes
  changed : (bytes : List ℕ) → Act
  -- 01, State image: 9 state (0 idle, 1 drawing, 2 idle after stop; 02, 102: 3 drawing and inside)
  state : (number : ℕ) → Act

-- 01, Cases: the memory at first, and the calls in turn
pub record Play : Type 0 where
  pub bytes : List ℕ
  pub calls : List Act

-- a row of the table: the case's number in 01, and what is played for it
pub record Case : Type 0 where
  pub number : ℕ
  pub plays : List Play

-- the same numbers
unfoldable pub same : List ℕ → List ℕ → Bool
same [] [] = true
same [] (y ∷ ys) = false
same (x ∷ xs) [] = false
same (x ∷ xs) (y ∷ ys) = eqb x y && same xs ys

-- so many bytes 0
unfoldable pub zeros : ℕ → List ℕ
zeros zero = []
zeros (suc n) = 0 ∷ zeros n

-- what a write answers
unfoldable pub written : (offset length value : ℕ) → Coprocessor → Written
written offset length value c = write_answer (record { offset = offset; length = length; value = value }) c

-- whether each call has its answer, by what the coprocessor's calls promise
unfoldable pub answers : List Act → Coprocessor → List ℕ → Bool
answers [] c bytes = true
answers (write offset length value ∷ calls) c bytes =
    is_accepted (written offset length value c).outcome && answers calls (written offset length value c).coprocessor bytes
answers (refused offset length value number ∷ calls) c bytes =
    eqb (refusal_number (written offset length value c).outcome) number
    && answers calls (written offset length value c).coprocessor bytes
answers (read offset length value ∷ calls) c bytes =
    is_accepted (read_answer c offset length).outcome
    && eqb (read_answer c offset length).value value
    && answers calls c bytes
answers (unread offset length number ∷ calls) c bytes =
    eqb (refusal_number (read_answer c offset length).outcome) number
    && eqb (read_answer c offset length).value 0
    && answers calls c bytes
answers (run allowance done ∷ calls) c bytes =
    is_accepted (run_answer c bytes allowance).outcome
    && eqb (run_answer c bytes allowance).done done
    && answers calls (run_answer c bytes allowance).coprocessor (run_memory c bytes allowance)
answers (carried size ∷ calls) c bytes =
    is_accepted (save_refusal c (zeros 115))
    && is_accepted (load_answer (fresh_answer size).coprocessor (saved c (zeros 115))).outcome
    && answers calls (load_answer (fresh_answer size).coprocessor (saved c (zeros 115))).coprocessor bytes
answers (altered place byte number ∷ calls) c bytes =
    eqb (refusal_number (load_answer c (set (saved c (zeros 115)) place byte)).outcome) number
    && answers calls (load_answer c (set (saved c (zeros 115)) place byte)).coprocessor bytes
answers (unsaved length number ∷ calls) c bytes =
    eqb (refusal_number (save_refusal c (zeros length))) number
    && same (saved c (zeros length)) (zeros length)
    && answers calls c bytes
answers (unloaded image number ∷ calls) c bytes =
    eqb (refusal_number (load_answer c image).outcome) number && answers calls (load_answer c image).coprocessor bytes
answers (fresh size number ∷ calls) c bytes = eqb (refusal_number (fresh_answer size).outcome) number && answers calls c bytes
answers (memory seen ∷ calls) c bytes = same bytes seen && answers calls c bytes
answers (changed before ∷ calls) c bytes = not (same bytes before) && answers calls c bytes
answers (state number ∷ calls) c bytes = eqb (counters_of c.drawing).state number && answers calls c bytes

-- whether a fresh coprocessor over the memory plays so
unfoldable pub played : Play → Bool
played p =
    is_accepted (fresh_answer (length p.bytes)).outcome
    && answers p.calls (fresh_answer (length p.bytes)).coprocessor p.bytes

-- each of these is played so
unfoldable pub Played : List Play → Type 0
Played [] = Unit {0}
Played (p ∷ ps) = (played p ≡ true) × Played ps

-- every case holds; they are numbered from n on
unfoldable pub HoldFrom : ℕ → List Case → Type 0
HoldFrom n [] = Unit {0}
HoldFrom n (case ∷ cases) = (case.number ≡ n) × (Played case.plays × HoldFrom (suc n) cases)
