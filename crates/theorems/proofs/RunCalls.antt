-- Two run calls in a row are one, and a run does the positions left up to its allowance: a valid record stays valid, so the second call is accepted
-- and goes on where the first ended.
use mathlib.Core.Path.{◌≡◌, refl, sym, ap, ◌∙◌}
use mathlib.Core.Bool.{Bool, true, false}
use mathlib.Core.List.{List}
use Prim.Native.Nat.{ℕ, ◌+◌, ◌≤◌, min}
use native.Mathlib.Omega.{arith}
use lib.ListN.{length}
use borrow.Author.Tests.{eq-eqb}
use Rattle.parts.specs.Refusals.{is_accepted}
use Rattle.moves.specs.declared.Pen.{Pen}
use Rattle.runs.specs.Runs.{Run, begun, after}
use Rattle.runs.proofs.RunLaws.{length_after, run_add, left_after, done_after, after_done}
use Rattle.parts.specs.Moved.{with_moved}
use Rattle.moves.specs.Decoded.{travel_of}
use Rattle.places.specs.Decoded.{brush_of}
use Rattle.coprocessor.specs.declared.Coprocessor.{Coprocessor}
use Rattle.coprocessor.specs.declared.Drawn.{Drawn}
use Rattle.coprocessor.specs.Valid.{valid_of}
use Rattle.coprocessor.specs.Runs.{setup_of, pen_of, with_pen, ran_of, run_refusal, run_answer, run_memory}
use Rattle.coprocessor.proofs.SafeLaws.{run_allowed}
use Rattle.theorems.specs.Totals.{left_in}
use Rattle.laws.proofs.Refused.{run_refused}
use Rattle.laws.proofs.RunValid.{setup_kept, pen_kept, with_pen_twice, with_pen_own, valid_counters, ran_valid}

-- ---- an accepted run

-- a run is accepted of every valid record over a memory of its size
pub accepts : (c : Coprocessor) (memory : List ℕ) → length memory ≡ c.size → valid_of c ≡ true → is_accepted (run_refusal c memory) ≡ true
unfolding run_refusal
accepts c memory same v = simp (eq-eqb (length memory) c.size same, v)

module _ (c : Coprocessor) (memory : List ℕ) (accepted : is_accepted (run_refusal c memory) ≡ true) where
  -- what a run of n positions answers, from what the run was
  abbrev answered : Run → Drawn
  answered t = record { outcome = run_refusal c memory; done = t.done; coprocessor = with_pen c t.pen }

  pub run_accepted : (n : ℕ) → (run_memory c memory n ≡ (ran_of c memory n).memory) × (run_answer c memory n ≡ answered (ran_of c memory n))
  unfolding run_memory run_answer
  run_accepted n = (simp accepted, simp accepted)

  -- the call that goes on is accepted too
  pub accepted_again : (n : ℕ) → is_accepted (run_refusal (with_pen c (ran_of c memory n).pen) (ran_of c memory n).memory) ≡ true
  unfolding ran_of begun with_pen
  accepted_again n =
      let allowed = run_allowed c memory accepted in
      accepts _ _ (length_after (setup_of c) n (begun (pen_of c) memory) ∙ allowed.0) (ran_valid c memory n allowed.1)

  -- ---- the positions that a run does

  pub run_done : (n : ℕ) → (run_answer c memory n).done ≡ min n (left_in c)
  unfolding ran_of setup_of travel_of brush_of pen_of
  run_done n =
      ap (λ (d : Drawn). d.done) (run_accepted n).1
      ∙ done_after (setup_of c) refl refl (pen_of c) memory n (valid_counters c (run_allowed c memory accepted).1)

  -- those left fall by those done
  pub run_left : (n : ℕ) → left_in (run_answer c memory n).coprocessor + (run_answer c memory n).done ≡ left_in c
  unfolding ran_of setup_of travel_of brush_of pen_of with_pen with_moved
  run_left n =
      ap (λ (d : Drawn). left_in d.coprocessor + d.done) (run_accepted n).1
      ∙ left_after (setup_of c) refl refl (pen_of c) memory n (valid_counters c (run_allowed c memory accepted).1)

  -- a run of exactly the positions done is the same run
  same_run : (n : ℕ) → ran_of c memory (run_answer c memory n).done ≡ ran_of c memory n
  unfolding ran_of
  same_run n =
      ap (λ (d : Drawn). ran_of c memory d.done) (run_accepted n).1 ∙ after_done (setup_of c) (pen_of c) memory n

  pub same_answer : (n : ℕ) → run_answer c memory n ≡ run_answer c memory (run_answer c memory n).done
  same_answer n = (run_accepted n).1 ∙ ap answered (sym (same_run n)) ∙ sym (run_accepted (run_answer c memory n).done).1

  pub same_memory : (n : ℕ) → run_memory c memory n ≡ run_memory c memory (run_answer c memory n).done
  same_memory n =
      (run_accepted n).0 ∙ ap (λ (t : Run). t.memory) (sym (same_run n)) ∙ sym (run_accepted (run_answer c memory n).done).0

-- no run does more positions than it may
pub done_le : (c : Coprocessor) (memory : List ℕ) (n : ℕ) → (run_answer c memory n).done ≤ n
unfolding run_answer
done_le c memory n = by (is_accepted (run_refusal c memory)) refl
  where
    by : (t : Bool) → is_accepted (run_refusal c memory) ≡ t → (run_answer c memory n).done ≤ n
    by true e = omega (arith, run_done c memory e n)
    by false e = omega (arith, (run_refused c memory n e).1)

-- a run that does no position leaves the record as it was
pub none_done : (c : Coprocessor) (memory : List ℕ) (n : ℕ) → (run_answer c memory n).done ≡ 0 → (run_answer c memory n).coprocessor ≡ c
unfolding run_answer ran_of after begun
none_done c memory n none = by (is_accepted (run_refusal c memory)) refl
  where
    by : (t : Bool) → is_accepted (run_refusal c memory) ≡ t → (run_answer c memory n).coprocessor ≡ c
    by true e =
        ap (λ (d : Drawn). d.coprocessor) (same_answer c memory e n ∙ ap (run_answer c memory) none ∙ (run_accepted c memory e 0).1)
        ∙ with_pen_own c
    by false e = (run_refused c memory n e).2

-- ---- two runs in a row

-- a run of a + b positions, after an answer d and a memory m
pub record Continued (c : Coprocessor) (memory : List ℕ) (a b : ℕ) (d : Drawn) (m : List ℕ) : Type 0 where
  pub memory_same : run_memory d.coprocessor m b ≡ run_memory c memory (a + b)
  pub record_same : (run_answer d.coprocessor m b).coprocessor ≡ (run_answer c memory (a + b)).coprocessor
  pub done_sum : d.done + (run_answer d.coprocessor m b).done ≡ (run_answer c memory (a + b)).done
  pub accepted : is_accepted (run_answer d.coprocessor m b).outcome ≡ true

-- the run that goes on, in the first one's terms
ran_on : (c : Coprocessor) (pen : Pen) (m : List ℕ) (b : ℕ) → ran_of (with_pen c pen) m b ≡ after (setup_of c) b (begun pen m)
unfolding ran_of
ran_on c pen m b = rw (setup_kept c pen, pen_kept c pen)

module _ (c : Coprocessor) (memory : List ℕ) (a b : ℕ) (accepted : is_accepted (run_refusal c memory) ≡ true) where
  continued : Continued c memory a b (answered c memory accepted (ran_of c memory a)) (ran_of c memory a).memory
  unfolding ran_of run_answer
  continued =
      let t : Run = after (setup_of c) a (begun (pen_of c) memory) in
      let again = accepted_again c memory accepted a in
      let added = run_add (setup_of c) (pen_of c) memory a b in
      let whole = run_accepted c memory accepted (a + b) in
      let second = run_accepted (with_pen c t.pen) t.memory again b in
      let on = ran_on c t.pen t.memory b in
      record {
        memory_same = second.0 ∙ ap (λ (u : Run). u.memory) on ∙ sym added.memory ∙ sym whole.0;
        record_same =
            ap (λ (d : Drawn). d.coprocessor) second.1
            ∙ ap (λ (u : Run). with_pen (with_pen c t.pen) u.pen) on
            ∙ with_pen_twice c t.pen _
            ∙ ap (with_pen c) (sym added.pen)
            ∙ ap (λ (d : Drawn). d.coprocessor) (sym whole.1);
        done_sum =
            ap (λ (d : Drawn). t.done + d.done) second.1
            ∙ ap (λ (u : Run). t.done + u.done) on
            ∙ sym added.done
            ∙ ap (λ (d : Drawn). d.done) (sym whole.1);
        accepted = again;
      }

  -- two calls are one
  pub run_run : Continued c memory a b (run_answer c memory a) (run_memory c memory a)
  run_run = rw ((run_accepted c memory accepted a).0, (run_accepted c memory accepted a).1) continued
