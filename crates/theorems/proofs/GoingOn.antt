-- Point 3: the events of a drawing are one run of the summed allowances, and a run is that of exactly the positions that it did.
use mathlib.Core.Path.{◌≡◌, refl, ap}
use mathlib.Core.Bool.{true, false}
use mathlib.Core.List.{List}
use mathlib.Core.Logic.{◌↔◌}
use Prim.Native.Nat.{ℕ, ◌+◌, ◌≤◌, min}
use native.Mathlib.Omega.{arith}
use lib.ListN.{length}
use Rattle.numbers.specs.declared.bytes.Write.{Write}
use Rattle.parts.specs.Refusals.{is_accepted}
use Rattle.parts.specs.Drawings.{unfinished}
use Rattle.coprocessor.specs.declared.Coprocessor.{Coprocessor}
use Rattle.coprocessor.specs.declared.Drawn.{Drawn}
use Rattle.coprocessor.specs.Valid.{valid_of}
use Rattle.coprocessor.specs.Writes.{stored, starts_by, write_refusal, write_answer}
use Rattle.coprocessor.specs.Runs.{run_refusal, run_answer}
use Rattle.coprocessor.proofs.SafeLaws.{run_allowed}
use Rattle.laws.specs.Held.{Held}
use Rattle.theorems.specs.Totals.{total_in, left_in}
use Rattle.theorems.specs.Cuts.{Event, standing, lived, Undisturbed, allowed, WentOn}
use Rattle.laws.proofs.AcceptedWrites.{accepted_allowed}
use Rattle.theorems.proofs.CutLaws.{cuts}
use Rattle.laws.proofs.HeldWrites.{held_written}
use Rattle.theorems.proofs.RunCalls.{accepts, run_done, run_left, same_answer, same_memory}
use Rattle.laws.proofs.RunValid.{run_valid}
use Rattle.theorems.proofs.TotalsAtStart.{start_total, left_none}
use Rattle.laws.proofs.ValidWrites.{write_valid}

-- a run leaves the drawing idle exactly where the allowance reaches the positions left
idle_at : (c : Coprocessor) (memory : List ℕ) (n : ℕ) → is_accepted (run_refusal c memory) ≡ true
    → unfinished (run_answer c memory n).coprocessor.drawing ≡ false ↔ left_in c ≤ n
idle_at c memory n accepted =
    let end : Coprocessor = (run_answer c memory n).coprocessor in
    let none : left_in end ≡ 0 ↔ unfinished end.drawing ≡ false = left_none end (run_valid c memory n (run_allowed c memory accepted).1) in
    let fewer : left_in end + (run_answer c memory n).done ≡ left_in c = run_left c memory accepted n in
    let count : (run_answer c memory n).done ≡ min n (left_in c) = run_done c memory accepted n in
    (λ idle. let zero : left_in end ≡ 0 = none.1 idle in omega arith, λ enough. none.0 (omega arith))

-- for every valid record, with whatever positions left
pub goes_on_lem : (c : Coprocessor) (memory : List ℕ) (events : List Event) → Held c → valid_of c ≡ true → length memory ≡ c.size
    → Undisturbed events (standing c memory)
    → WentOn c memory (left_in c) events (lived events (standing c memory))
goes_on_lem c memory events held valid long quiet =
    let n = allowed events in
    let accepted = accepts c memory long valid in
    rw (cuts c memory held accepted events quiet)
    (record {
      accepted = refl;
      count = run_done c memory accepted n;
      registers = ap (λ (d : Drawn). d.coprocessor) (same_answer c memory accepted n);
      bytes = same_memory c memory accepted n;
      ended = idle_at c memory n accepted;
    })

-- docs/PROMISES.md, Point 3, from the write that starts it: the total is fixed by the dimensions or the codes that the write leaves
pub drawing_goes_on : (w : Write) (c : Coprocessor) (memory : List ℕ) (events : List Event) → Held c
    → is_accepted (write_refusal w c) ≡ true → starts_by w (stored w c) ≡ true → length memory ≡ (write_answer w c).coprocessor.size
    → Undisturbed events (standing (write_answer w c).coprocessor memory)
    → WentOn (write_answer w c).coprocessor memory (total_in (write_answer w c).coprocessor) events
    (lived events (standing (write_answer w c).coprocessor memory))
drawing_goes_on w c memory events held accepted starts long quiet =
    rw (← start_total w c accepted starts)
    (goes_on_lem _ memory events (held_written w c held) (write_valid w c (accepted_allowed w c accepted).valid) long quiet)
