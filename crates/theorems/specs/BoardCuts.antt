-- A drawing at the calls for C: what may happen between two runs to the image and the memory that hold it, and what that leaves.
use Rattle.std.specs.Prelude.{ℕ, ◌+◌, ◌/◌, ◌%◌, ◌^◌, ◌≤◌, ◌<◌, min, ◌≡◌, Bool, true, false, ◌&&◌, List, [], ◌∷◌, ◌↔◌, eqb}
use Rattle.numbers.specs.declared.bytes.Write.{Write}
use Rattle.parts.specs.Drawings.{unfinished}
use Rattle.coprocessor.specs.Images.{loaded}
use Rattle.board.specs.Calls.{write_number, write_image, run_number, run_image, run_bytes}

-- docs/DECISIONS.md, 32: the refusal in an answer's high half, 0 for none
unfoldable pub refusal_in : ℕ → ℕ
refusal_in answer = answer / 2 ^ 32

-- docs/DECISIONS.md, 32: the value in its low half
unfoldable pub value_in : ℕ → ℕ
value_in answer = answer % 2 ^ 32

-- docs/DECISIONS.md, 38: all that a firmware may do between two runs; an allowance has 32 bits
pub data Call : Type 0 where
  -- `xga_run`, over the drawing's memory
  run : (allowance : ℕ) → allowance < 2 ^ 32 → Call
  -- the image and the memory copied byte for byte, on this board or to another, where the drawing goes on
  copy : Call
  -- `xga_read`, and `xga_load` of any bytes: neither changes what it is lent
  read : (offset length : ℕ) → Call
  load : (bytes : List ℕ) → Call
  -- `xga_write`
  write : (w : Write) → Call
  -- `xga_run` lent another memory
  lent : (other : List ℕ) (allowance : ℕ) → allowance < 2 ^ 32 → Call
  -- `xga_run` of another image, a damaged one say, over the drawing's memory
  others : (other : List ℕ) (allowance : ℕ) → Call

-- docs/DECISIONS.md, 38: where a drawing stands: its image, its memory, the positions answered since, and whether every run over its memory was accepted
pub record BoardStand : Type 0 where
  pub image : List ℕ
  pub memory : List ℕ
  pub done : ℕ
  pub accepted : Bool

-- docs/DECISIONS.md, 38: before the first call
unfoldable pub board_standing : List ℕ → List ℕ → BoardStand
board_standing image memory = record { image = image; memory = memory; done = 0; accepted = true }

-- docs/DECISIONS.md, 38: each call by its answer
unfoldable pub called : Call → BoardStand → BoardStand
called (run allowance small) s =
    record {
      image = run_image s.image s.memory allowance;
      memory = run_bytes s.image s.memory allowance;
      done = s.done + value_in (run_number s.image s.memory allowance);
      accepted = s.accepted && eqb (refusal_in (run_number s.image s.memory allowance)) 0;
    }
called copy s = s
called (read offset length) s = s
called (load bytes) s = s
called (write w) s = record { image = write_image s.image w; memory = s.memory; done = s.done; accepted = s.accepted }
called (lent other allowance small) s =
    record {
      image = run_image s.image other allowance;
      memory = s.memory;
      done = s.done + value_in (run_number s.image other allowance);
      accepted = s.accepted;
    }
called (others other allowance) s =
    record { image = s.image; memory = run_bytes other s.memory allowance; done = s.done; accepted = s.accepted }

-- docs/DECISIONS.md, 38: the calls one after another, the first of the list first
unfoldable pub called_all : List Call → BoardStand → BoardStand
called_all [] s = s
called_all (c ∷ cs) s = called_all cs (called c s)

-- docs/PROMISES.md, Point 3: no register write accepted, no other memory drawn in, nobody else writing the memory
unfoldable pub BoardSpares : Call → BoardStand → Type 0
BoardSpares (run allowance small) s = Unit {0}
BoardSpares copy s = Unit {0}
BoardSpares (read offset length) s = Unit {0}
BoardSpares (load bytes) s = Unit {0}
BoardSpares (write w) s = write_number s.image w ≡ 0 → ⊥
BoardSpares (lent other allowance small) s = value_in (run_number s.image other allowance) ≡ 0
BoardSpares (others other allowance) s = run_bytes other s.memory allowance ≡ s.memory

-- docs/PROMISES.md, Point 3: so at each call, as the drawing stands then
unfoldable pub BoardUndisturbed : List Call → BoardStand → Type 0
BoardUndisturbed [] s = Unit {0}
BoardUndisturbed (c ∷ cs) s = BoardSpares c s × BoardUndisturbed cs (called c s)

-- docs/DECISIONS.md, 38: what a call allows
unfoldable pub allowance_in : Call → ℕ
allowance_in (run allowance small) = allowance
allowance_in copy = 0
allowance_in (read offset length) = 0
allowance_in (load bytes) = 0
allowance_in (write w) = 0
allowance_in (lent other allowance small) = 0
allowance_in (others other allowance) = 0

-- docs/DECISIONS.md, 38: the summed allowances
unfoldable pub allowed_by : List Call → ℕ
allowed_by [] = 0
allowed_by (c ∷ cs) = allowance_in c + allowed_by cs

-- docs/PROMISES.md, Point 3: where a drawing of so many positions stands after these calls
pub record BoardWentOn (image memory : List ℕ) (total : ℕ) (calls : List Call) (s : BoardStand) : Type 0 where
  -- every run over its memory was accepted
  pub accepted : s.accepted ≡ true
  -- the positions answered are the smaller of the summed allowances and the total
  pub count : s.done ≡ min (allowed_by calls) total
  -- image and memory are those of one run of exactly that many positions
  pub registers : s.image ≡ run_image image memory s.done
  pub bytes : s.memory ≡ run_bytes image memory s.done
  -- the drawing is idle exactly when all are done
  pub ended : (unfinished (loaded s.image).drawing ≡ false) ↔ (total ≤ allowed_by calls)
