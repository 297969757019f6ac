-- `ran` is the positions of the set-up and the pen that the record holds, which is safe.
use mathlib.Core.Path.{◌≡◌, sym, ap, ◌∙◌}
use mathlib.Core.Bool.{true}
use Rattle.numbers.proofs.Choices.{choose_true}
use Rattle.parts.specs.Refusals.{is_accepted}
use Rattle.coprocessor.specs.Runs.{with_pen, run_refusal, ran_of, run_answer, run_memory}
use Rattle.coprocessor.proofs.SafeLaws.{run_accepted, known_safe}
use Rattle.coprocessor.proofs.known.Known.ran.Goals as goal
use Rattle.coprocessor.proofs.known.Known.ran.Goals.{After-with_pen}

-- what the positions leave, in the record's terms
left : (c : After-with_pen) → let a = c.args in
    (c.run-ran.result.pen ≡ (ran_of a.self.coprocessor a.memory.now a.allowance).pen)
    × (c.run-ran.result.done ≡ (ran_of a.self.coprocessor a.memory.now a.allowance).done)
    × (c.run-ran.new.memory ≡ (ran_of a.self.coprocessor a.memory.now a.allowance).memory)
unfolding ran_of
left c = rw (← c.setup.ensures, ← c.pen.ensures) c.run-ran.ensures

pub run-ran-requires : goal.run-ran-requires
run-ran-requires c =
    let self = c.args.self in rw (c.setup.ensures, c.pen.ensures) (known_safe self.coprocessor c.args.memory.now c.requires self.valid)

pub returns : goal.returns
unfolding run_answer run_memory
returns c =
    let self = c.args.self.coprocessor in
    let allowed = run_accepted self _ c.requires c.args.self.valid in
    let accepted : is_accepted (run_refusal self _) ≡ true = ap is_accepted allowed in
    let p = left c in (
      λ i. record {
        outcome = sym allowed i;
        done = (p.1 ∙ sym (choose_true _ 0 accepted)) i;
        coprocessor = (c.with_pen.ensures ∙ ap (with_pen self) p.0 ∙ sym (choose_true _ self accepted)) i;
      },
      p.2 ∙ sym (choose_true _ _ accepted),
    )
