-- `rows::slides::slide_bytes` makes the whole bytes, which are as many pixels, and then those that are left.
use Rattle.std.proofs.Common.{◌≡◌, ℕ, ◌-◌, ◌*◌, ◌/◌, ◌≤◌, sym, ap, ◌∙◌, div-mul-le_self, arith}
use Rattle.pixels.specs.Maps.{bits_of}
use Rattle.rows.specs.Inner as inner
use Rattle.rows.specs.Inner.{swept}
use Rattle.rows.proofs.LaneLaws.{first_passed}
use Rattle.rows.proofs.SweepLaws.{swept_two}
use Rattle.rows.proofs.LiesLaws.{first_onward, left_in_byte}
use Rattle.rows.proofs.ApartLaws.{apart_fewer, apart_onward, turned_onward}
use Rattle.rows.proofs.slides.slide_bytes.Goals as goal
use Rattle.rows.proofs.slides.slide_bytes.Goals.{After-bytes_in-bytes}

-- the pixels of the whole bytes are no more than all
few : (c : After-bytes_in-bytes) → let a = c.args in c.bytes_in-bytes.result * (8 / bits_of a.lane.format) ≤ a.count
few c = let a = c.args in rw c.bytes_in-bytes.ensures (div-mul-le_self a.count (8 / bits_of a.lane.format))

pub slide_whole-requires : goal.slide_whole-requires
slide_whole-requires c =
    let h = c.requires in
    (apart_fewer c.args.lane _ _ _ (few (goal.at.slide_whole-requires c).After-bytes_in-bytes) h.0, h.1, h.2)

pub pixels_in-done-requires : goal.pixels_in-done-requires
pixels_in-done-requires c = omega (arith, few (goal.at.pixels_in-done-requires c).After-bytes_in-bytes)

pub slide_edge-requires : goal.slide_edge-requires
slide_edge-requires c =
    let a = c.args in
    let l = a.lane in
    let h = c.requires in
    let done = c.pixels_in-done.result in
    let bytes = a.count / (8 / bits_of l.format) in
    let less = c.if-done-count.true in
    let all = c.pixels_in-done.ensures
    ∙ ap (λ (n : ℕ). n * (8 / bits_of l.format)) c.bytes_in-bytes.ensures in
    rw (c.onward.ensures, c.slide_whole.auto.memory) (
      apart_onward l _ done _ a.count (omega arith) (omega arith) h.0,
      turned_onward l _ done a.count a.down less h.0 h.1,
      first_passed l.back l.format _ (first_onward l a.count h.0.to h.2 bytes done all less),
      left_in_byte l.format a.count done all,
    )

pub returns-then-done-count : goal.returns-then-done-count
returns-then-done-count c = λ op alike.
    let a = c.args in
    let done = c.pixels_in-done.result in
    let bytes = c.slide_whole.ensures op alike in
    let all = ap (λ (n : ℕ). swept op a.lane n a.memory.now) (sym c.pixels_in-done.ensures) in
    (rw c.onward.ensures at c.slide_edge.ensures) op alike
    ∙ ap (swept op (inner.onward a.lane done) (a.count - done)) (bytes ∙ all)
    ∙ swept_two op a.lane done (a.count - done) a.count a.memory.now (omega arith)

pub returns-else-done-count : goal.returns-else-done-count
returns-else-done-count c = λ op alike.
    let a = c.args in
    let all : c.bytes_in-bytes.result * (8 / bits_of a.lane.format) ≡ a.count =
    omega (arith, few (goal.at.returns-else-done-count c).After-bytes_in-bytes, c.pixels_in-done.ensures) in
    c.slide_whole.ensures op alike ∙ ap (λ (n : ℕ). swept op a.lane n a.memory.now) all
