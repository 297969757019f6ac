-- `run` is that many positions: each turn adds those that it did, and a drawing in hand stays safe.
use Rattle.std.proofs.Common.{◌≡◌, ◌+◌, ◌<◌, ◌≤◌, true, ◌&&◌, ltb, length, sym, refl, ap, ◌∙◌, subst, zero-le, arith, ltb-true}
use Rattle.numbers.proofs.Choices.{and_left, and_right}
use Rattle.parts.specs.Drawings.{unfinished}
use Rattle.moves.specs.declared.Pen.{Pen}
use Rattle.position.specs.Inner.{Safe}
use Rattle.runs.specs.Runs.{Run, begun, after}
use Rattle.runs.proofs.AfterLaws.{after_stop, parts}
use Rattle.runs.proofs.RunLaws.{after_more, safe_after}
use Rattle.runs.proofs.run.Goals as goal
use Rattle.runs.proofs.run.Goals.{After-turn-turned, In-loop-done}

-- what the loop's test says of a turn
test : (c : In-loop-done) → (c.loop-done.done < c.args.allowance) × (unfinished c.loop-done.pen.drawing ≡ true)
test c =
    let less = ltb c.loop-done.done c.args.allowance in (
      ltb-true _ _ (and_left less c.is_unfinished.result c.loop-done-test.true),
      sym c.is_unfinished.ensures ∙ and_right less c.is_unfinished.result c.loop-done-test.true,
    )

pub loop-done-init : goal.loop-done-init
unfolding after begun
loop-done-init c = (zero-le, refl, refl, c.requires)

pub turn-turned-requires : goal.turn-turned-requires
turn-turned-requires c =
    let at = c.loop-done in
    let on = test (goal.at.turn-turned-requires c).In-loop-done in
    let safe = at.invariant.3 on.1 in (
      rw at.invariant.1 safe,
      on.1,
      omega (arith, on.0),
    )

-- a turn does some, and no more than are left
few : (c : After-turn-turned) → (0 < c.turn-turned.result.done) × (c.loop-done.done + c.turn-turned.result.done ≤ c.args.allowance)
few c = (c.turn-turned.ensures.0, omega (arith, c.turn-turned.ensures.1, c.loop-done.invariant.0))

pub loop-done-preserved : goal.loop-done-preserved
unfolding begun
loop-done-preserved c =
    let at = c.loop-done in
    let turned = c.turn-turned in
    let s = c.args.setup in
    let on = test (goal.at.loop-done-preserved c).In-loop-done in
    let size = length c.args.memory.now in
    let more : after s turned.result.done (begun at.pen at.memory) ≡ record { pen = turned.result.pen; memory = _; done = turned.result.done } =
    turned.ensures.2 in (
      (few (goal.at.loop-done-preserved c).After-turn-turned).1,
      turned.auto.memory ∙ at.invariant.1,
      after_more s at.done turned.result.done _ _ _ _ _ at.invariant.2 more,
      λ going.
          subst (λ (q : Pen). Safe s size q) (ap (λ (r : Run). r.pen) more) (safe_after s size turned.result.done (begun at.pen at.memory) (at.invariant.3 on.1)),
    )

pub returns : goal.returns
returns c =
    let at = c.loop-done in
    let u : Run = record { pen = at.pen; memory = at.memory; done = at.done } in
    let stop = (λ i. ltb at.done c.args.allowance && sym c.is_unfinished.ensures i) ∙ c.loop-done-test.false in
    parts _ u (after_stop _ _ _ _ u at.invariant.2 at.invariant.0 stop)

pub overflow_sub-allowance : goal.overflow_sub-allowance
overflow_sub-allowance c = omega (arith, (test (goal.at.overflow_sub-allowance c).In-loop-done).0)

pub loop-done-smaller : goal.loop-done-smaller
loop-done-smaller c = omega (arith, few (goal.at.loop-done-smaller c).After-turn-turned)
