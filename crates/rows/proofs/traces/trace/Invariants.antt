-- `rows::traces::trace` goes straight on and turns, by turns: after each, number, error term and memory are those of as many steps.
use Rattle.std.proofs.Common.{◌≡◌, ℕ, ◌≤◌}
use Rattle.rows.specs.Inner.{wholly, Alike, turns_at, traced, Reached}
use Rattle.rows.proofs.traces.trace.Given as goal

abbrev pub invariant-loop : goal.invariant-loop
invariant-loop l =
    (l.gone.done ≤ l.count)
    × (turns_at l.trail l.gone.done ≡ l.counter)
    × Reached l.trail l.gone
    × ((op : ℕ → ℕ → ℕ) → Alike l.trail.format op (wholly l.whole) → l.memory ≡ traced (op 0) l.trail l.gone.done l.initial.memory)
