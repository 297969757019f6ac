-- `rows::sweeps::sweep_bytes` makes the whole bytes at once, which are as many pixels, and then those that are left.
use Rattle.std.proofs.Common.{◌≡◌, ℕ, ◌-◌, ◌*◌, ◌/◌, ◌≤◌, sym, refl, ap, ◌∙◌, div-mul-le_self, arith}
use Rattle.pixels.specs.Maps.{bits_of}
use Rattle.rows.specs.Inner as inner
use Rattle.rows.specs.Inner.{wholly, Alike, carried, swept}
use Rattle.rows.proofs.LaneLaws.{first_passed}
use Rattle.rows.proofs.CarryLaws.{wholly_lt}
use Rattle.rows.proofs.SweepLaws.{swept_two}
use Rattle.rows.proofs.LiesLaws.{lies_onward, source_reach, destination_reach, swept_whole, first_onward, left_in_byte}
use Rattle.rows.proofs.sweeps.sweep_bytes.Goals as goal
use Rattle.rows.proofs.sweeps.sweep_bytes.Goals.{After-bytes_in-bytes, After-pixels_in-done, Start}

-- the pixels of the whole bytes are no more than all
few : (c : Start) → c.args.count / (8 / bits_of c.args.lane.format) * (8 / bits_of c.args.lane.format) ≤ c.args.count
few c = div-mul-le_self c.args.count (8 / bits_of c.args.lane.format)

pub carry-requires : goal.carry-requires
carry-requires c =
    let a = c.args in
    let h = c.requires in
    rw (c.place_at-2.ensures, c.place_at.ensures, c.bytes_in-bytes.ensures)
    (source_reach a.lane _ a.count h.0 h.1 h.2 _ (few (goal.at.carry-requires c).Start), destination_reach a.lane _ a.count h.0 h.1 h.2 _ (few (goal.at.carry-requires c).Start))

pub pixels_in-done-requires : goal.pixels_in-done-requires
pixels_in-done-requires c = rw c.bytes_in-bytes.ensures (omega (arith, few (goal.at.pixels_in-done-requires c).Start))

-- what the bytes make is what their pixels do
made : (c : After-pixels_in-done) (op : ℕ → ℕ → ℕ) → let a = c.args in
    Alike a.lane.format op (wholly a.whole)
    → carried (wholly a.whole) a.lane.back c.place_at.result c.place_at-2.result c.bytes_in-bytes.result a.memory.now
    ≡ swept op a.lane c.pixels_in-done.result a.memory.now
made c op alike =
    let a = c.args in
    let h = c.requires in
    let l = a.lane in
    let from = c.place_at.ensures in
    let to = c.place_at-2.ensures in
    let bytes = c.bytes_in-bytes.ensures in
    let all = c.pixels_in-done.ensures ∙ ap (λ (n : ℕ). n * (8 / bits_of l.format)) bytes in
    (λ i. carried (wholly a.whole) l.back (from i) (to i) (bytes i) a.memory.now)
    ∙ swept_whole l _ a.count h.0 h.1 h.2 (a.count / (8 / bits_of l.format)) (few (goal.at.After-pixels_in-done c).Start) op (wholly a.whole) alike
    (wholly_lt a.whole (record { always = omega arith; source = omega arith; destination = omega arith; both = omega arith }))
    a.memory.now (λ i. ((goal.at.After-pixels_in-done c).After-bytes_in-bytes.type_inv.memory i).fits) refl
    ∙ ap (λ (n : ℕ). swept op l n a.memory.now) (sym all)

pub edge-requires : goal.edge-requires
edge-requires c =
    let a = c.args in
    let l = a.lane in
    let h = c.requires in
    let done = c.pixels_in-done.result in
    let all = c.pixels_in-done.ensures ∙ ap (λ (n : ℕ). n * (8 / bits_of l.format)) c.bytes_in-bytes.ensures in
    rw (c.onward.ensures, c.carry.auto.memory) (
      lies_onward l _ done _ a.count (omega arith) (omega arith) h.0,
      first_passed l.back l.format _ (first_onward l a.count h.0.to h.2 (a.count / (8 / bits_of l.format)) done all c.if-done-count.true),
      left_in_byte l.format a.count done all,
    )

pub returns-then-done-count : goal.returns-then-done-count
returns-then-done-count c = λ op alike.
    let a = c.args in
    let done = c.pixels_in-done.result in
    (rw c.onward.ensures at c.edge.ensures) op alike
    ∙ ap (swept op (inner.onward a.lane done) (a.count - done)) (c.carry.ensures ∙ made (goal.at.returns-then-done-count c).After-pixels_in-done op alike)
    ∙ swept_two op a.lane done (a.count - done) a.count a.memory.now (omega arith)

pub returns-else-done-count : goal.returns-else-done-count
returns-else-done-count c = λ op alike.
    let a = c.args in
    let all : c.pixels_in-done.result ≡ a.count =
    omega (arith, few (goal.at.returns-else-done-count c).Start, c.pixels_in-done.ensures ∙ ap (λ (n : ℕ). n * (8 / bits_of a.lane.format)) c.bytes_in-bytes.ensures) in
    c.carry.ensures ∙ made (goal.at.returns-else-done-count c).After-pixels_in-done op alike ∙ ap (λ (n : ℕ). swept op a.lane n a.memory.now) all
