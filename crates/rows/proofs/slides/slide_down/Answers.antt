-- `rows::slides::slide_down` makes the pixels before the first whole byte, and then those from there on.
use Rattle.std.proofs.Common.{◌-◌, ◌<◌, ap, ◌∙◌, arith}
use Rattle.rows.specs.Inner as inner
use Rattle.rows.specs.Inner.{swept}
use Rattle.rows.proofs.LaneLaws.{gone_passed}
use Rattle.rows.proofs.SweepLaws.{swept_two}
use Rattle.rows.proofs.ApartLaws.{apart_fewer, apart_onward, turned_onward}
use Rattle.rows.proofs.slides.slide_down.Goals as goal

pub slide_edge-requires : goal.slide_edge-requires
slide_edge-requires c =
    let a = c.args in
    let l = a.lane in
    let lead = c.lead-before.ensures in
    let passed = c.gone-passed.ensures in (
      apart_fewer l _ c.lead-before.result a.count lead.0 c.requires.0,
      c.requires.1,
      gone_passed l.back l.format l.to c.gone-passed.result passed,
      rw passed lead.2,
    )

pub slide_bytes-requires : goal.slide_bytes-requires
slide_bytes-requires c =
    let a = c.args in
    let h = c.requires in
    let before = c.lead-before.result in
    let less : before < a.count = c.if-before-count.true in
    rw (c.onward.ensures, c.slide_edge.auto.memory) (
      apart_onward a.lane _ before _ a.count (omega arith) (omega arith) h.0,
      turned_onward a.lane _ before a.count a.down less h.0 h.1,
      c.lead-before.ensures.1 less,
    )

pub returns-then-before-count : goal.returns-then-before-count
returns-then-before-count c = λ op alike.
    let a = c.args in
    let done = c.lead-before.result in
    let before = c.slide_edge.ensures op alike in
    (rw c.onward.ensures at c.slide_bytes.ensures) op alike
    ∙ ap (swept op (inner.onward a.lane done) (a.count - done)) before
    ∙ swept_two op a.lane done (a.count - done) a.count a.memory.now (omega arith)
