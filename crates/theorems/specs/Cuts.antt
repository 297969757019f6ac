-- A drawing cut as often as one likes, carried from one coprocessor to another, and tried with calls that are refused: what may happen to it, and
-- what that leaves.
use Rattle.std.specs.Prelude.{ℕ, ◌+◌, ◌≤◌, min, ◌≡◌, Bool, true, false, ◌&&◌, List, [], ◌∷◌, ◌↔◌, length}
use Rattle.numbers.specs.declared.bytes.Write.{Write}
use Rattle.parts.specs.Refusals.{is_accepted}
use Rattle.parts.specs.Drawings.{unfinished}
use Rattle.image.specs.Layout.{image_length}
use Rattle.coprocessor.specs.declared.Coprocessor.{Coprocessor}
use Rattle.coprocessor.specs.Writes.{write_answer}
use Rattle.coprocessor.specs.Runs.{run_answer, run_memory}
use Rattle.coprocessor.specs.Images.{save_refusal, saved, load_answer}

-- docs/DECISIONS.md, 38: all that a fitter may do between two runs
pub data Event : Type 0 where
  -- 01, The functions: a run, over the drawing's memory, by an allowance
  run : (allowance : ℕ) → Event
  -- 01, State image: the state saved into a buffer of 115 bytes, and that loaded into another coprocessor, whatever it held
  moved_to : (other : Coprocessor) (buffer : List ℕ) → length buffer ≡ image_length → Event
  -- 01, Registers: a read
  read : (offset length : ℕ) → Event
  -- 01, State image: a save into any buffer, accepted or refused
  save : (buffer : List ℕ) → Event
  -- 01, Registers: a write
  write : (w : Write) → Event
  -- 01, refusal 9: a run lent another memory
  lent : (other : List ℕ) (allowance : ℕ) → Event
  -- 01, State image: a load of any bytes
  load : (bytes : List ℕ) → Event
  -- 01, The functions: a run of another coprocessor over the drawing's memory
  others : (other : Coprocessor) (allowance : ℕ) → Event

-- docs/DECISIONS.md, 38: where a drawing stands: its coprocessor, its memory, the positions done since, and whether every run over its memory and
-- every move was accepted
pub record Stand : Type 0 where
  pub coprocessor : Coprocessor
  pub memory : List ℕ
  pub done : ℕ
  pub accepted : Bool

-- docs/DECISIONS.md, 38: before the first event
unfoldable pub standing : Coprocessor → List ℕ → Stand
standing c memory = record { coprocessor = c; memory = memory; done = 0; accepted = true }

-- docs/DECISIONS.md, 38: each event by its calls' answers; a read and a save answer no record, and a move hands the memory on with the same bytes
unfoldable pub happened : Event → Stand → Stand
happened (run allowance) s =
    record {
      coprocessor = (run_answer s.coprocessor s.memory allowance).coprocessor;
      memory = run_memory s.coprocessor s.memory allowance;
      done = s.done + (run_answer s.coprocessor s.memory allowance).done;
      accepted = s.accepted && is_accepted (run_answer s.coprocessor s.memory allowance).outcome;
    }
happened (moved_to other buffer long) s =
    record {
      coprocessor = (load_answer other (saved s.coprocessor buffer)).coprocessor;
      memory = s.memory;
      done = s.done;
      accepted = s.accepted && (is_accepted (save_refusal s.coprocessor buffer) && is_accepted (load_answer other (saved s.coprocessor buffer)).outcome);
    }
happened (read offset length) s = s
happened (save buffer) s = s
happened (write w) s =
    record { coprocessor = (write_answer w s.coprocessor).coprocessor; memory = s.memory; done = s.done; accepted = s.accepted }
happened (lent other allowance) s =
    record {
      coprocessor = (run_answer s.coprocessor other allowance).coprocessor;
      memory = s.memory;
      done = s.done + (run_answer s.coprocessor other allowance).done;
      accepted = s.accepted;
    }
happened (load bytes) s =
    record { coprocessor = (load_answer s.coprocessor bytes).coprocessor; memory = s.memory; done = s.done; accepted = s.accepted }
happened (others other allowance) s =
    record { coprocessor = s.coprocessor; memory = run_memory other s.memory allowance; done = s.done; accepted = s.accepted }

-- docs/DECISIONS.md, 38: the events one after another, the first of the list first
unfoldable pub lived : List Event → Stand → Stand
lived [] s = s
lived (e ∷ es) s = lived es (happened e s)

-- docs/PROMISES.md, Point 3: no register write accepted, no other memory drawn in, nothing else loaded, nobody else writing the memory
unfoldable pub Spares : Event → Stand → Type 0
Spares (run allowance) s = Unit {0}
Spares (moved_to other buffer long) s = Unit {0}
Spares (read offset length) s = Unit {0}
Spares (save buffer) s = Unit {0}
Spares (write w) s = is_accepted (write_answer w s.coprocessor).outcome ≡ false
Spares (lent other allowance) s = (run_answer s.coprocessor other allowance).done ≡ 0
Spares (load bytes) s = (load_answer s.coprocessor bytes).coprocessor ≡ s.coprocessor
Spares (others other allowance) s = run_memory other s.memory allowance ≡ s.memory

-- docs/PROMISES.md, Point 3: so at each event, as the drawing stands then
unfoldable pub Undisturbed : List Event → Stand → Type 0
Undisturbed [] s = Unit {0}
Undisturbed (e ∷ es) s = Spares e s × Undisturbed es (happened e s)

-- docs/DECISIONS.md, 38: what an event allows: a run over the drawing's memory its allowance, any other nothing
unfoldable pub allowance_of : Event → ℕ
allowance_of (run allowance) = allowance
allowance_of (moved_to other buffer long) = 0
allowance_of (read offset length) = 0
allowance_of (save buffer) = 0
allowance_of (write w) = 0
allowance_of (lent other allowance) = 0
allowance_of (load bytes) = 0
allowance_of (others other allowance) = 0

-- docs/DECISIONS.md, 38: the summed allowances
unfoldable pub allowed : List Event → ℕ
allowed [] = 0
allowed (e ∷ es) = allowance_of e + allowed es

-- docs/PROMISES.md, Point 3: where a drawing of so many positions stands after these events
pub record WentOn (c : Coprocessor) (memory : List ℕ) (total : ℕ) (events : List Event) (s : Stand) : Type 0 where
  -- every run over its memory and every move was accepted
  pub accepted : s.accepted ≡ true
  -- the positions done are the smaller of the summed allowances and the total
  pub count : s.done ≡ min (allowed events) total
  -- registers and memory are those of exactly that many positions, uncut
  pub registers : s.coprocessor ≡ (run_answer c memory s.done).coprocessor
  pub bytes : s.memory ≡ run_memory c memory s.done
  -- the drawing is idle exactly when all are done
  pub ended : (unfinished s.coprocessor.drawing ≡ false) ↔ (total ≤ allowed events)
