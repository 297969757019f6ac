-- `rows::traces::trace` goes straight on and turns, by turns: after each, number, error term and memory are those of as many steps.
use Rattle.std.proofs.Common.{◌≡◌, ℕ, ◌<◌, ◌≤◌, List, length, refl, zero-le, arith}
use Rattle.mixes.specs.declared.logical.Blend.{Blend}
use Rattle.rows.specs.declared.Trail.{Trail}
use Rattle.rows.specs.declared.Traced.{Traced}
use Rattle.rows.specs.Inner.{wholly, Alike, error_at, number_at, turns_at, traced, Straight, Stands}
use Rattle.rows.proofs.traces.trace.Goals as goal
use Rattle.rows.proofs.traces.trace.Goals.{At-loop}

-- before it goes straight on
stands : (c : At-loop) → c.loop.counter ≤ c.args.turns → Stands c.args.trail c.args.count c.loop.gone (length c.loop.memory)
stands c most =
    let inv = c.loop.invariant in
    record {
      termed = c.requires.0;
      few = inv.0;
      reached = inv.2;
      lies = λ i less few. rw c.loop.auto.memory (c.requires.1 i less (omega (arith, inv.1)));
    }

-- and where it ends
ended : (t : Trail) (w : Blend ℕ) (count turns : ℕ) (from to : Traced) (x y z : List ℕ) → turns_at t from.done ≤ turns
    → (to.done < count → turns_at t from.done ≡ turns)
    → ((op : ℕ → ℕ → ℕ) → Alike t.format op (wholly w) → y ≡ traced (op 0) t from.done x) → Straight t w count from to y z
    → (to.done ≤ count) × (turns_at t to.done ≤ turns) × (to.at ≡ number_at t to.done) × (to.e ≡ error_at t to.done)
    × ((op : ℕ → ℕ → ℕ) → Alike t.format op (wholly w) → z ≡ traced (op 0) t to.done x)
    × (to.done < count → turns_at t to.done ≡ turns)
ended t w count turns from to x y z most all before straight =
    let goes = straight.2 in (
      straight.0,
      omega (arith, goes.turned),
      goes.reached.0,
      goes.reached.1,
      λ op alike. goes.made op x alike (before op alike),
      λ less. omega (arith, goes.turned, all less),
    )

pub loop-init : goal.loop-init
unfolding error_at number_at turns_at traced
loop-init c = (zero-le, refl, (refl, refl), λ op alike. refl)

pub straight-gone-requires : goal.straight-gone-requires
straight-gone-requires c = stands (goal.at.straight-gone-requires c).At-loop (omega arith)

pub straight-requires : goal.straight-requires
straight-requires c = stands (goal.at.straight-requires c).At-loop (omega arith)

pub bend-gone-requires : goal.bend-gone-requires
bend-gone-requires c =
    let inv = c.loop.invariant in
    let straight = c.straight-gone in
    let goes = straight.ensures.2 in
    let left : straight.result.done < c.args.count = omega (arith, straight.ensures.0, c.if-gone-count.false) in (
      c.requires.0,
      goes.reached,
      omega (arith, left),
      straight.ensures.1 left,
      rw (straight.auto.memory, c.loop.auto.memory, goes.reached.0) (c.requires.1 straight.result.done left (omega (arith, inv.1, goes.turned))),
    )

pub loop-preserved : goal.loop-preserved
loop-preserved c =
    let inv = c.loop.invariant in
    let first = c.straight-gone.ensures.2 in
    let second = c.bend-gone.ensures.1 in (
      omega (arith, c.bend-gone.ensures.0, c.straight-gone.ensures.0, c.if-gone-count.false),
      omega (arith, inv.1, first.turned, second.turned),
      second.reached,
      λ op alike. second.made op _ alike (first.made op _ alike (inv.3 op alike)),
    )

pub returns-then-gone-count : goal.returns-then-gone-count
returns-then-gone-count c =
    let inv = c.loop.invariant in
    ended _ _ _ _ _ _ _ _ _ (omega (arith, inv.1)) (λ less. omega (arith, less, c.if-gone-count.true)) inv.3 c.straight-gone.ensures

pub returns : goal.returns
returns c =
    let inv = c.loop.invariant in
    ended _ _ _ _ _ _ _ _ _ (omega (arith, inv.1)) (λ less. omega (arith, inv.1)) inv.3 c.straight.ensures
