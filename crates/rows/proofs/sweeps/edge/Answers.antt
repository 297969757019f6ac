-- `rows::sweeps::edge` touches the one byte, in the field that its pixels are.
use Rattle.std.proofs.Common.{◌≡◌, ℕ, ◌*◌, ◌<◌, get_or, set, sym, ap, ◌∙◌, arith, rules}
use Rattle.numbers.specs.Fields.{field, with_field}
use Rattle.pixels.specs.Maps.{bits_of}
use Rattle.rows.specs.Inner.{wholly, swept_from, from_top}
use Rattle.rows.proofs.LaneLaws.{along_none}
use Rattle.rows.proofs.ByteLaws.{edge_low}
use Rattle.rows.proofs.EdgeLaws.{swept_edge}
use Rattle.rows.proofs.sweeps.edge.Goals as goal
use Rattle.rows.proofs.sweeps.edge.Goals.{After-bits_of}

pub returns-then-count-eq0 : goal.returns-then-count-eq0
unfolding swept_from
returns-then-count-eq0 c = λ op alike. rw c.if-count-eq0.true

-- the pixels' bits
width : (c : After-bits_of) → let a = c.args in a.count * c.bits_of.result ≡ a.count * bits_of a.lane.format
width c = ap (λ (n : ℕ). c.args.count * n) c.bits_of.ensures

some : (c : After-bits_of) → 0 < c.args.count
some c = omega (arith, c.if-count-eq0.false)

pub touch-requires : goal.touch-requires
touch-requires c =
    let a = c.args in
    let l = a.lane in
    let h = c.requires in (
      rw c.place_at.ensures (rw (along_none l.back l.from) at (h.0.source 0 (some (goal.at.touch-requires c).After-bits_of))),
      rw c.place_at-2.ensures (rw (along_none l.back l.to) at (h.0.destination 0 (some (goal.at.touch-requires c).After-bits_of))),
      rw (c.edge_from.ensures, width (goal.at.touch-requires c).After-bits_of) (edge_low (from_top l.back l.format) l.format a.passed a.count h.2),
    )

pub returns : goal.returns
returns c = λ op alike.
    let a = c.args in
    let l = a.lane in
    let m = a.memory.now in
    let h = c.requires in
    let A = c.place_at-2.ensures in
    let F = c.place_at.ensures in
    let L = c.edge_from.ensures in
    let B = width (goal.at.returns c).After-bits_of in
    c.touch.ensures
    ∙ (λ i. set m (A i) (with_field (L i) (B i) (field (L i) (B i) (wholly a.whole (get_or m (F i) 0) (get_or m (A i) 0))) (get_or m (A i) 0)))
    ∙ sym
    (swept_edge op (wholly a.whole) l alike m (λ i. search rules) a.passed (h.0.phase ∙ h.1) h.1
    (rw (along_none l.back l.to) at (h.0.destination 0 (some (goal.at.returns c).After-bits_of))) a.count h.2)
