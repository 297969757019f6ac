-- `rows::patterns::expand` inks the row from its lower end on, which is what the lane makes in any direction.
use Rattle.std.proofs.Common.{◌+◌, ◌<◌, sym, ◌∙◌, arith}
use Rattle.rows.specs.Inner.{swept_from, row_inked}
use Rattle.rows.proofs.CarryLaws.{Masks}
use Rattle.rows.proofs.MeetsLaws.{meets_beside, meets_row}
use Rattle.rows.proofs.patterns.expand.Goals as goal
use Rattle.rows.proofs.patterns.expand.Goals.{After-lowest, Start}

-- masks of bytes
masks : (c : Start) → Masks c.args.front × Masks c.args.rear
masks c = (
  record { always = omega arith; source = omega arith; destination = omega arith; both = omega arith },
  record { always = omega arith; source = omega arith; destination = omega arith; both = omega arith },
)

pub returns-then-count-eq0 : goal.returns-then-count-eq0
unfolding swept_from
returns-then-count-eq0 c = λ op inked. rw c.if-count-eq0.true

pub row-requires : goal.row-requires
row-requires c =
    let a = c.args in
    let h = c.requires in
    let some : 0 < a.count = omega (arith, c.if-count-eq0.false) in
    rw (c.lowest.ensures, c.lowest-n.ensures)
    (meets_beside a.lane a.order a.count _ h some, some)

pub returns : goal.returns
returns c = λ op inked.
    let start = c in
    let bytes = (goal.at.returns c).After-lowest.type_inv.memory in
    let a = start.args in
    let l = a.lane in
    let n = c.lowest-n.ensures in
    let to = c.lowest.ensures in
    let inks = c.inks_of.ensures in
    c.row.ensures
    ∙ (λ j. row_inked (inks j) l.source (n j) (l.destination + to j) a.count a.memory.now)
    ∙ sym
    (meets_row op a.front a.rear inked (masks (goal.at.returns c).Start).0 (masks (goal.at.returns c).Start).1 l a.order a.count a.memory.now start.requires
    (λ i. (bytes i).fits))
