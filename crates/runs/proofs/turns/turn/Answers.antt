-- `turn` is some positions that are alike, or some one by one.
use Rattle.std.proofs.Common.{◌≡◌, ℕ, List, sym, ap, ◌∙◌, arith}
use Rattle.runs.specs.Runs.{Run, begun, after}
use Rattle.runs.proofs.RunLaws.{reached, after_done, done_some}
use Rattle.runs.proofs.turns.turn.Goals as goal
use Rattle.runs.proofs.turns.turn.Goals.{After-draw_alike-ran}

-- what the positions that are alike leave
alike : (c : After-draw_alike-ran) → let a = c.args in let r = c.draw_alike-ran.result in
    after a.job.now.setup r.done (begun a.pen a.memory.now) ≡ record { pen = r.pen; memory = c.draw_alike-ran.new.memory; done = r.done }
alike c = c.draw_alike-ran.ensures.1

pub returns-then-ran-gt0 : goal.returns-then-ran-gt0
returns-then-ran-gt0 c = (c.if-ran-gt0.true, c.draw_alike-ran.ensures.0, alike (goal.at.returns-then-ran-gt0 c).After-draw_alike-ran)

pub returns : goal.returns
unfolding after begun
returns c =
    let a = c.args in
    let h = c.requires in
    let n = c.alone.result in
    let m = a.memory.now in
    let ran = c.run_singly.ensures in
    let allowed = c.alone.ensures in
    let none : c.draw_alike-ran.result.done ≡ 0 = omega (arith, c.if-ran-gt0.false) in
    let same = ap (λ (k : ℕ). (after a.job.now.setup k (begun a.pen m)).memory) (sym none) ∙ ap (λ (r : Run). r.memory) (alike (goal.at.returns c).After-draw_alike-ran) in
    let by : (k : ℕ) → after a.job.now.setup k (begun a.pen m) ≡ after a.job.now.setup k (begun a.pen c.draw_alike-ran.new.memory) = λ k. ap (λ (M : List ℕ). after a.job.now.setup k (begun a.pen M)) same in
    let done = ran.1 ∙ sym (ap (λ (r : Run). r.done) (by n)) in (
      rw done (done_some a.job.now.setup a.pen m n h.1 allowed.0),
      omega (arith, done, allowed.1, (reached a.job.now.setup a.pen m n).0),
      ap (λ (k : ℕ). after a.job.now.setup k (begun a.pen m)) done
          ∙ after_done a.job.now.setup a.pen m n
          ∙ by n
          ∙ λ i. record { pen = sym ran.0 i; memory = sym ran.2 i; done = sym ran.1 i },
    )
