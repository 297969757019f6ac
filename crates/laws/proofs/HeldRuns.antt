-- What a drawing changes, the bounds of a record's fields do not speak of; so a run keeps them.
use mathlib.Core.List.{List}
use Prim.Native.Nat.{ℕ}
use Rattle.numbers.proofs.Choices.{by_test}
use Rattle.parts.specs.Refusals.{is_accepted}
use Rattle.parts.specs.Moved.{with_moved}
use Rattle.moves.specs.declared.Pen.{Pen}
use Rattle.coprocessor.specs.declared.Coprocessor.{Coprocessor}
use Rattle.coprocessor.specs.Runs.{with_pen, run_refusal, run_answer}
use Rattle.laws.specs.Held.{Held}

pub held_pen : (c : Coprocessor) (pen : Pen) → Held c → Held (with_pen c pen)
unfolding with_pen with_moved
held_pen c pen h = record { four = h.four; bases = h.bases; colours = h.colours; figure = h.figure }

pub held_run : (c : Coprocessor) (memory : List ℕ) (n : ℕ) → Held c → Held (run_answer c memory n).coprocessor
unfolding run_answer
held_run c memory n h =
    by_test Held (is_accepted (run_refusal c memory)) (λ accepted. held_pen c _ h) (λ refused. h)
