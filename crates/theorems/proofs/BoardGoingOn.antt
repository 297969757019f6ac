-- Point 3 at the calls for C: a call does to an image what the record's call does to the record that it loads to, so a list of calls is a life.
use mathlib.Core.Path.{◌≡◌, refl, sym, ap, ◌∙◌}
use mathlib.Core.Bool.{Bool, true, false, ◌&&◌}
use mathlib.Core.List.{List, [], ◌∷◌}
use Prim.Native.Nat.{ℕ, ◌+◌, ◌^◌, ◌<◌, min}
use lib.ListN.{length, get_or}
use lib.Dec.{eqb}
use native.Mathlib.Omega.{arith}
use borrow.Author.Tests.{eq-eqb, ne_eqb}
use Rattle.numbers.specs.declared.bytes.Write.{Write}
use Rattle.parts.specs.Refusals.{is_accepted}
use Rattle.parts.proofs.RefusalLaws.{number_accepted}
use Rattle.coprocessor.specs.declared.Coprocessor.{Coprocessor}
use Rattle.coprocessor.specs.Writes.{stored, starts_by, write_refusal, write_answer}
use Rattle.coprocessor.specs.Runs.{run_answer, run_memory}
use Rattle.coprocessor.specs.Images.{loads, loaded}
use Rattle.board.specs.Calls.{write_number, write_image, run_number, run_image}
use Rattle.theorems.specs.Totals.{total_in}
use Rattle.theorems.specs.LoadsTo.{LoadsTo}
use Rattle.theorems.specs.Cuts.{Event, Stand, standing, happened, lived, Spares, Undisturbed, allowance_of, allowed, WentOn}
use Rattle.theorems.specs.BoardCuts.{refusal_in, value_in, Call, BoardStand, board_standing, called, called_all, BoardSpares, BoardUndisturbed, allowance_in, allowed_by, BoardWentOn}
use Rattle.laws.proofs.LoadedLaws.{held_loaded}
use Rattle.theorems.proofs.GoingOn.{drawing_goes_on}
use Rattle.theorems.proofs.BoardLaws.{one_image, image_written, image_ran, image_run_answer, memory_ran}

-- ---- a call is an event

-- what a call is to the record: a copy, a load and a run of another image leave it as a read does
event_of : Call → Event
event_of (Call.run allowance small) = Event.run allowance
event_of Call.copy = Event.read 0 0
event_of (Call.read offset size) = Event.read offset size
event_of (Call.load bytes) = Event.read 0 0
event_of (Call.write w) = Event.write w
event_of (Call.lent other allowance small) = Event.lent other allowance
event_of (Call.others other allowance) = Event.read 0 0

events_of : List Call → List Event
events_of [] = []
events_of (c ∷ cs) = event_of c ∷ events_of cs

-- a board shows a drawing: its image loads to the drawing's record
record Shows (b : BoardStand) (s : Stand) : Type 0 where
  image : LoadsTo b.image s.coprocessor
  memory : b.memory ≡ s.memory
  done : b.done ≡ s.done
  accepted : b.accepted ≡ s.accepted

another : {image : List ℕ} {c d : Coprocessor} → LoadsTo image c → c ≡ d → LoadsTo image d
another h same = record { bytes = h.bytes; accepted = h.accepted; record_same = h.record_same ∙ same }

module _ (b : BoardStand) (s : Stand) (h : Shows b s) where
  -- what a run over any memory does and answers
  run_image_lem : (m n : List ℕ) (a : ℕ) → m ≡ n → LoadsTo (run_image b.image m a) (run_answer s.coprocessor n a).coprocessor
  run_image_lem m n a same =
      another (image_ran b.image m a h.image.bytes h.image.accepted) (λ i. (run_answer (h.image.record_same i) (same i) a).coprocessor)

  run_value : (m n : List ℕ) (a : ℕ) → a < 2 ^ 32 → m ≡ n → value_in (run_number b.image m a) ≡ (run_answer s.coprocessor n a).done
  run_value m n a small same =
      (image_run_answer b.image m a small h.image.accepted).1 ∙ (λ i. (run_answer (h.image.record_same i) (same i) a).done)

  run_number_lem : (m n : List ℕ) (a : ℕ) → a < 2 ^ 32 → m ≡ n → eqb (refusal_in (run_number b.image m a)) 0 ≡ is_accepted (run_answer s.coprocessor n a).outcome
  run_number_lem m n a small same =
      ap (λ (k : ℕ). eqb k 0) (image_run_answer b.image m a small h.image.accepted).0
      ∙ number_accepted (run_answer (loaded b.image) m a).outcome
      ∙ (λ i. is_accepted (run_answer (h.image.record_same i) (same i) a).outcome)

  write_image_lem : (w : Write) → LoadsTo (write_image b.image w) (write_answer w s.coprocessor).coprocessor
  write_image_lem w =
      another (image_written b.image w h.image.bytes h.image.accepted) (λ i. (write_answer w (h.image.record_same i)).coprocessor)

  write_number_lem : (w : Write) → eqb (write_number b.image w) 0 ≡ is_accepted (write_answer w s.coprocessor).outcome
  unfolding write_number
  write_number_lem w =
      rw h.image.accepted
      (number_accepted (write_answer w (loaded b.image)).outcome ∙ (λ i. is_accepted (write_answer w (h.image.record_same i)).outcome))

  -- a call that spares the drawing leaves what its event leaves
  shows_called : (c : Call) → BoardSpares c b → Shows (called c b) (happened (event_of c) s)
  unfolding called BoardSpares happened event_of
  shows_called (Call.run a small) spared =
      record {
        image = run_image_lem b.memory s.memory a h.memory;
        memory = memory_ran b.image b.memory a h.image.accepted ∙ (λ i. run_memory (h.image.record_same i) (h.memory i) a);
        done = λ i. h.done i + run_value b.memory s.memory a small h.memory i;
        accepted = λ i. h.accepted i && run_number_lem b.memory s.memory a small h.memory i;
      }
  shows_called Call.copy spared = h
  shows_called (Call.read offset size) spared = h
  shows_called (Call.load bytes) spared = h
  shows_called (Call.write w) spared = record { image = write_image_lem w; memory = h.memory; done = h.done; accepted = h.accepted }
  shows_called (Call.lent other a small) spared =
      record {
        image = run_image_lem other other a refl;
        memory = h.memory;
        done = λ i. h.done i + run_value other other a small refl i;
        accepted = h.accepted;
      }
  shows_called (Call.others other a) spared = record { image = h.image; memory = spared ∙ h.memory; done = h.done; accepted = h.accepted }

  -- and its event spares the drawing too
  spares_called : (c : Call) → BoardSpares c b → Spares (event_of c) s
  unfolding BoardSpares Spares event_of
  spares_called (Call.run a small) spared = tt
  spares_called Call.copy spared = tt
  spares_called (Call.read offset size) spared = tt
  spares_called (Call.load bytes) spared = tt
  spares_called (Call.write w) spared = sym (write_number_lem w) ∙ ne_eqb _ 0 spared
  spares_called (Call.lent other a small) spared = sym (run_value other other a small refl) ∙ spared
  spares_called (Call.others other a) spared = tt

-- ---- calls are a life

shows_all : (calls : List Call) (b : BoardStand) (s : Stand) → Shows b s → BoardUndisturbed calls b → Shows (called_all calls b) (lived (events_of calls) s)
unfolding called_all BoardUndisturbed lived events_of
shows_all [] b s h quiet = h
shows_all (c ∷ calls) b s h quiet = shows_all calls (called c b) (happened (event_of c) s) (shows_called b s h c quiet.0) quiet.1

undisturbed_all : (calls : List Call) (b : BoardStand) (s : Stand) → Shows b s → BoardUndisturbed calls b → Undisturbed (events_of calls) s
unfolding BoardUndisturbed Undisturbed events_of
undisturbed_all [] b s h quiet = tt
undisturbed_all (c ∷ calls) b s h quiet =
    (spares_called b s h c quiet.0, undisturbed_all calls (called c b) (happened (event_of c) s) (shows_called b s h c quiet.0) quiet.1)

allowance_same : (c : Call) → allowance_in c ≡ allowance_of (event_of c)
unfolding allowance_in allowance_of event_of
allowance_same (Call.run a small) = refl
allowance_same Call.copy = refl
allowance_same (Call.read offset size) = refl
allowance_same (Call.load bytes) = refl
allowance_same (Call.write w) = refl
allowance_same (Call.lent other a small) = refl
allowance_same (Call.others other a) = refl

allowed_same : (calls : List Call) → allowed_by calls ≡ allowed (events_of calls)
unfolding allowed_by allowed events_of
allowed_same [] = refl
allowed_same (c ∷ calls) = λ i. allowance_same c i + allowed_same calls i

-- ---- point 3

-- what a drawing's end says of the board that shows it
module _ (image memory : List ℕ) (c : Coprocessor) (start : LoadsTo image c) (total : ℕ) (calls : List Call) (b : BoardStand) (s : Stand) (h : Shows b s)
    (on : WentOn c memory total (events_of calls) s) where
  shown : BoardWentOn image memory total calls b
  shown =
      let from : loaded image ≡ c = start.record_same in
      record {
        accepted = h.accepted ∙ on.accepted;
        count = h.done ∙ on.count ∙ ap (λ (n : ℕ). min n total) (sym (allowed_same calls));
        registers =
            one_image h.image (on.registers ∙ (λ i. (run_answer (sym from i) memory (sym h.done i)).coprocessor))
            (image_ran image memory b.done start.bytes start.accepted);
        bytes =
            h.memory ∙ on.bytes ∙ (λ i. run_memory (sym from i) memory (sym h.done i))
            ∙ sym (memory_ran image memory b.done start.accepted);
        ended = rw (h.image.record_same, allowed_same calls) on.ended;
      }

-- an accepted write was of an image that loads
written_accepted : (image : List ℕ) (w : Write) → write_number image w ≡ 0 → (loads image ≡ true) × (is_accepted (write_refusal w (loaded image)) ≡ true)
unfolding write_number write_answer
written_accepted image w none = by (loads image) refl
  where
    by : (t : Bool) → loads image ≡ t → (loads image ≡ true) × (is_accepted (write_refusal w (loaded image)) ≡ true)
    by true e = (e, sym (number_accepted (write_refusal w (loaded image))) ∙ eq-eqb _ 0 (rw e at none))
    by false e = let ten = rw e at none in absurd (omega arith)

-- docs/PROMISES.md, Point 3, from the `xga_write` that starts the drawing
pub board_goes_on : (w : Write) (image memory : List ℕ) (calls : List Call) → ((i : ℕ) → get_or image i 0 < 256)
    → write_number image w ≡ 0 → starts_by w (stored w (loaded image)) ≡ true → length memory ≡ (loaded (write_image image w)).size
    → BoardUndisturbed calls (board_standing (write_image image w) memory)
    → BoardWentOn (write_image image w) memory (total_in (loaded (write_image image w))) calls (called_all calls (board_standing (write_image image w) memory))
unfolding standing board_standing
board_goes_on w image memory calls bytes none starts long quiet =
    let opened = written_accepted image w none in
    let c : Coprocessor = (write_answer w (loaded image)).coprocessor in
    let start : LoadsTo (write_image image w) c = image_written image w bytes opened.0 in
    let same : loaded (write_image image w) ≡ c = start.record_same in
    let begins : Shows (board_standing (write_image image w) memory) (standing c memory) =
    record { image = start; memory = refl; done = refl; accepted = refl } in
    let size = ap (λ (d : Coprocessor). d.size) same in
    let held = held_loaded image bytes in
    let events = undisturbed_all calls _ _ begins quiet in
    let on = drawing_goes_on w (loaded image) memory (events_of calls) held opened.1 starts (long ∙ size) events in
    rw same (shown (write_image image w) memory c start (total_in c) calls _ _ (shows_all calls _ _ begins quiet) on)
