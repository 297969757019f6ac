-- `rows::sweeps::sweep` makes the pixels before the first whole byte, and then those from there on.
use Rattle.std.proofs.Common.{◌-◌, ◌<◌, ap, ◌∙◌, arith}
use Rattle.rows.specs.Inner as inner
use Rattle.rows.specs.Inner.{swept}
use Rattle.rows.proofs.LaneLaws.{gone_passed}
use Rattle.rows.proofs.SweepLaws.{swept_two}
use Rattle.rows.proofs.LiesLaws.{lies_fewer, lies_onward}
use Rattle.rows.proofs.sweeps.sweep.Goals as goal

pub edge-requires : goal.edge-requires
edge-requires c =
    let a = c.args in
    let l = a.lane in
    let lead = c.lead-before.ensures in
    let passed = c.gone-passed.ensures in (
      lies_fewer l _ c.lead-before.result a.count lead.0 c.requires,
      gone_passed l.back l.format l.to c.gone-passed.result passed,
      rw passed lead.2,
    )

pub sweep_bytes-requires : goal.sweep_bytes-requires
sweep_bytes-requires c =
    let a = c.args in
    let less : c.lead-before.result < a.count = c.if-before-count.true in
    rw (c.onward.ensures, c.edge.auto.memory)
    (lies_onward a.lane _ c.lead-before.result _ a.count (omega arith) (omega arith) c.requires, omega arith, c.lead-before.ensures.1 less)

pub returns-then-before-count : goal.returns-then-before-count
returns-then-before-count c = λ op alike.
    let a = c.args in
    let done = c.lead-before.result in
    (rw c.onward.ensures at c.sweep_bytes.ensures) op alike
    ∙ ap (swept op (inner.onward a.lane done) (a.count - done)) (c.edge.ensures op alike)
    ∙ swept_two op a.lane done (a.count - done) a.count a.memory.now (omega arith)
