-- A drawing cut and carried as often as one likes ends as the uncut one: two runs in a row are one, what is saved and loaded is the same record, and
-- what else may happen changes nothing, so the events fold into one run, from the first on.
use mathlib.Core.Path.{◌≡◌, refl, sym, ap, ◌∙◌}
use mathlib.Core.Bool.{true}
use mathlib.Core.List.{List, [], ◌∷◌}
use Prim.Native.Nat.{ℕ, ◌+◌}
use native.Mathlib.Omega.{arith}
use lib.ListN.{length}
use borrow.Author.Tests.{eq-eqb}
use Rattle.numbers.specs.declared.bytes.Write.{Write}
use Rattle.parts.specs.Refusals.{is_accepted}
use Rattle.runs.specs.Runs.{begun, after}
use Rattle.image.specs.Layout.{image_length}
use Rattle.coprocessor.specs.declared.Coprocessor.{Coprocessor}
use Rattle.coprocessor.specs.Writes.{write_answer}
use Rattle.coprocessor.specs.Runs.{ran_of, run_refusal, run_answer, run_memory}
use Rattle.coprocessor.specs.Images.{saves, save_refusal}
use Rattle.coprocessor.proofs.SafeLaws.{run_allowed}
use Rattle.laws.specs.Held.{Held}
use Rattle.theorems.specs.Cuts.{Event, Stand, standing, happened, lived, Spares, Undisturbed, allowance_of, allowed}
use Rattle.laws.proofs.HeldRuns.{held_run}
use Rattle.laws.proofs.ImageLaws.{load_save}
use Rattle.laws.proofs.Refused.{write_refused}
use Rattle.laws.proofs.RunValid.{with_pen_own, run_valid}
use Rattle.theorems.proofs.RunCalls.{Continued, run_accepted, none_done, run_run}

-- ---- an event that spares the drawing

-- the drawing stands as it stood where the coprocessor and the count do
stays : (s : Stand) (c : Coprocessor) (n : ℕ) → c ≡ s.coprocessor → n ≡ s.done
    → record { coprocessor = c; memory = s.memory; done = n; accepted = s.accepted } ≡ s
stays s c n same none = λ i. record { coprocessor = same i; memory = s.memory; done = none i; accepted = s.accepted }

write_stays : (w : Write) (s : Stand) → Spares (Event.write w) s → happened (Event.write w) s ≡ s
unfolding happened Spares write_answer
write_stays w s spared = stays s _ _ (write_refused w s.coprocessor spared) refl

lent_stays : (other : List ℕ) (n : ℕ) (s : Stand) → Spares (Event.lent other n) s → happened (Event.lent other n) s ≡ s
unfolding happened Spares
lent_stays other n s none =
    stays s _ _ (none_done s.coprocessor other n none)
    (let same : s.done + (run_answer s.coprocessor other n).done ≡ s.done = omega (arith, none) in same)

-- ---- a life

module _ (c : Coprocessor) (memory : List ℕ) (held : Held c) (accepted : is_accepted (run_refusal c memory) ≡ true) where
  -- where one run of n positions leaves the drawing
  abbrev ran : ℕ → Stand
  ran n = record { coprocessor = (run_answer c memory n).coprocessor; memory = run_memory c memory n; done = (run_answer c memory n).done; accepted = true }

  run_again : (n a : ℕ) → happened (Event.run a) (ran n) ≡ ran (n + a)
  unfolding happened
  run_again n a =
      let on : Continued c memory n a (run_answer c memory n) (run_memory c memory n) = run_run c memory n a accepted in
      λ i. record { coprocessor = on.record_same i; memory = on.memory_same i; done = on.done_sum i; accepted = on.accepted i }

  moved_along : (n : ℕ) (other : Coprocessor) (buffer : List ℕ) (long : length buffer ≡ image_length) → happened (Event.moved_to other buffer long) (ran n)
      ≡ ran n
  unfolding happened saves save_refusal
  moved_along n other buffer long =
      let valid = run_valid c memory n (run_allowed c memory accepted).1 in
      let same = load_save (run_answer c memory n).coprocessor other buffer (held_run c memory n held) valid long in
      rw (eq-eqb (length buffer) image_length long, valid, same) refl

  -- no position is none
  run_none : ran 0 ≡ standing c memory
  unfolding standing ran_of after begun
  run_none = rw ((run_accepted c memory accepted 0).0, (run_accepted c memory accepted 0).1, with_pen_own c) refl

  -- an event that leaves the drawing as it was allows nothing
  unmoved : (n : ℕ) {s : Stand} → s ≡ ran n → s ≡ ran (n + 0)
  unmoved n same = same ∙ ap ran (let none : n ≡ n + 0 = omega arith in none)

  happened_on : (e : Event) (n : ℕ) → Spares e (ran n) → happened e (ran n) ≡ ran (n + allowance_of e)
  unfolding happened Spares allowance_of
  happened_on (Event.run a) n spared = run_again n a
  happened_on (Event.moved_to other buffer long) n spared = unmoved n (moved_along n other buffer long)
  happened_on (Event.read offset size) n spared = unmoved n refl
  happened_on (Event.save buffer) n spared = unmoved n refl
  happened_on (Event.write w) n spared = unmoved n (write_stays w (ran n) spared)
  happened_on (Event.lent other a) n spared = unmoved n (lent_stays other a (ran n) spared)
  happened_on (Event.load bytes) n spared = unmoved n (stays (ran n) _ _ spared refl)
  happened_on (Event.others other a) n spared =
      unmoved n (λ i. record { coprocessor = (ran n).coprocessor; memory = spared i; done = (ran n).done; accepted = true })

  lived_on : (events : List Event) (n : ℕ) → Undisturbed events (ran n) → lived events (ran n) ≡ ran (n + allowed events)
  unfolding lived allowed Undisturbed
  lived_on [] n h = unmoved n refl
  lived_on (e ∷ events) n h =
      let next : happened e (ran n) ≡ ran (n + allowance_of e) = happened_on e n h.0 in
      ap (lived events) next ∙ lived_on events (n + allowance_of e) (rw next at h.1)
      ∙ ap ran (let same : n + allowance_of e + allowed events ≡ n + (allowance_of e + allowed events) = omega arith in same)

  -- whatever happens to it undisturbed, the drawing stands where one run of the summed allowances leaves it
  pub cuts : (events : List Event) → Undisturbed events (standing c memory) → lived events (standing c memory) ≡ ran (allowed events)
  cuts events h =
      ap (lived events) (sym run_none) ∙ lived_on events 0 (rw run_none h)
      ∙ ap ran (let same : 0 + allowed events ≡ allowed events = omega arith in same)
