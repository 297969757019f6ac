-- No position reaches beyond the memory: a valid record with a drawing in hand is safe, every position keeps it so, and every call leaves a valid record.
use mathlib.Core.Path.{◌≡◌, refl, sym, ap, ◌∙◌}
use mathlib.Core.Bool.{Bool, true, false}
use mathlib.Core.List.{List, ◌++◌}
use Prim.Native.Nat.{ℕ, ◌<◌}
use lib.ListN.{length, get_or}
use Rattle.numbers.specs.declared.bytes.Write.{Write}
use Rattle.parts.specs.Refusals.{is_accepted}
use Rattle.parts.specs.Drawings.{unfinished}
use Rattle.places.specs.declared.Setup.{Setup}
use Rattle.moves.specs.declared.Pen.{Pen}
use Rattle.position.proofs.Safety.{safe_within}
use Rattle.runs.specs.Runs.{Run, begun, after}
use Rattle.runs.proofs.AfterLaws.{after_idle}
use Rattle.runs.proofs.RunLaws.{length_after, safe_after, before, behind_after}
use Rattle.coprocessor.specs.declared.Coprocessor.{Coprocessor}
use Rattle.coprocessor.specs.Valid.{valid_of}
use Rattle.coprocessor.specs.Writes.{write_refusal, write_answer}
use Rattle.coprocessor.specs.Runs.{setup_of, pen_of, ran_of, run_refusal}
use Rattle.coprocessor.specs.Images.{loaded, load_answer}
use Rattle.coprocessor.proofs.SafeLaws.{run_safe}
use Rattle.coprocessor.proofs.Opened.{opened_accepts, opened_record}
use Rattle.laws.specs.Held.{Held}
use Rattle.theorems.specs.Cuts.{Event, Stand, standing, lived, Undisturbed, allowed}
use Rattle.theorems.specs.Reach.{NoneBeyond}
use Rattle.laws.proofs.AcceptedWrites.{accepted_allowed}
use Rattle.theorems.proofs.CutLaws.{cuts}
use Rattle.laws.proofs.HeldWrites.{held_written}
use Rattle.laws.proofs.LoadedLaws.{loaded_valid, held_loaded}
use Rattle.theorems.proofs.RunCalls.{accepts, run_accepted, accepted_again}
use Rattle.laws.proofs.ValidWrites.{write_valid}

-- a drawing that is in hand after some positions was so before them
in_hand_lem : (s : Setup) (pen : Pen) (memory : List ℕ) (n : ℕ) → unfinished (after s n (begun pen memory)).pen.drawing ≡ true
    → unfinished pen.drawing ≡ true
unfolding begun
in_hand_lem s pen memory n going = by (unfinished pen.drawing) refl
  where
    by : (t : Bool) → unfinished pen.drawing ≡ t → t ≡ true
    by true e = refl
    by false e = sym e ∙ ap (λ (u : Run). unfinished u.pen.drawing) (sym (after_idle s n (begun pen memory) e)) ∙ going

-- no position of an accepted run reaches beyond the memory, whatever came before
pub run_none_beyond : (c : Coprocessor) (memory : List ℕ) → is_accepted (run_refusal c memory) ≡ true → NoneBeyond c memory
unfolding begun ran_of NoneBeyond
run_none_beyond c memory accepted n going =
    let t : Run = begun (pen_of c) memory in
    rw (length_after (setup_of c) n t)
    (safe_within _ _ _ (safe_after (setup_of c) (length memory) n t (run_safe c memory accepted (in_hand_lem (setup_of c) (pen_of c) memory n going))))

-- and whatever bytes lie behind the memory, the drawing neither sees nor changes them
pub behind_unseen : (c : Coprocessor) (memory rest : List ℕ) (n : ℕ) → is_accepted (run_refusal c memory) ≡ true
    → ran_of c (memory ++ rest) n ≡ record { pen = (ran_of c memory n).pen; memory = (ran_of c memory n).memory ++ rest; done = (ran_of c memory n).done }
unfolding begun before ran_of
behind_unseen c memory rest n accepted = by (unfinished (pen_of c).drawing) refl
  where
    t : Run
    t = begun (pen_of c) memory

    by : (u : Bool) → unfinished (pen_of c).drawing ≡ u
        → after (setup_of c) n (begun (pen_of c) (memory ++ rest)) ≡ before rest (after (setup_of c) n (begun (pen_of c) memory))
    by true going = behind_after (setup_of c) rest n t (run_safe c memory accepted going)
    by false idle = rw (after_idle (setup_of c) n (begun (pen_of c) (memory ++ rest)) idle, after_idle (setup_of c) n (begun (pen_of c) memory) idle) refl

-- so none of a valid record's drawing does, over a memory of its size
pub none_beyond : (c : Coprocessor) (memory : List ℕ) → valid_of c ≡ true → length memory ≡ c.size → NoneBeyond c memory
none_beyond c memory valid long = run_none_beyond c memory (accepts c memory long valid)

-- nor does any after events that leave the drawing undisturbed
lived_none_beyond : (c : Coprocessor) (memory : List ℕ) (events : List Event) → Held c → valid_of c ≡ true → length memory ≡ c.size
    → Undisturbed events (standing c memory)
    → NoneBeyond (lived events (standing c memory)).coprocessor (lived events (standing c memory)).memory
lived_none_beyond c memory events held valid long quiet =
    let n = allowed events in
    let accepted = accepts c memory long valid in
    rw (cuts c memory held accepted events quiet)
    (rw ((run_accepted c memory accepted n).0, (run_accepted c memory accepted n).1) (run_none_beyond _ _ (accepted_again c memory accepted n)))

-- ---- the two readable cases

-- 02, 108: after an accepted write, a start among them, and any runs, moves, reads and refused calls that follow
pub start_none_beyond : (w : Write) (c : Coprocessor) (memory : List ℕ) (events : List Event) → Held c
    → is_accepted (write_refusal w c) ≡ true → length memory ≡ (write_answer w c).coprocessor.size
    → Undisturbed events (standing (write_answer w c).coprocessor memory)
    → let s : Stand = lived events (standing (write_answer w c).coprocessor memory) in
    NoneBeyond s.coprocessor s.memory
start_none_beyond w c memory events held accepted =
    lived_none_beyond _ memory events (held_written w c held) (write_valid w c (accepted_allowed w c accepted).valid)

-- 02, 108: the same after an accepted load
pub load_none_beyond : (c : Coprocessor) (image memory : List ℕ) (events : List Event) → ((i : ℕ) → get_or image i 0 < 256)
    → is_accepted (load_answer c image).outcome ≡ true → length memory ≡ (load_answer c image).coprocessor.size
    → Undisturbed events (standing (load_answer c image).coprocessor memory)
    → let s : Stand = lived events (standing (load_answer c image).coprocessor memory) in
    NoneBeyond s.coprocessor s.memory
load_none_beyond c image memory events bytes accepted =
    let opened = opened_record c image (sym (opened_accepts c image) ∙ accepted) in
    rw opened (lived_none_beyond (loaded image) memory events (held_loaded image bytes) (loaded_valid image (sym (opened_accepts c image) ∙ accepted)))
