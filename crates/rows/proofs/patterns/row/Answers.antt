-- `rows::patterns::row` inks the bytes in three parts: each begins where the one before ended, as the pattern stays.
use Rattle.std.proofs.Common.{◌≡◌, ℕ, ◌+◌, ◌-◌, ◌*◌, ◌/◌, ◌%◌, ◌<◌, ◌≤◌, ap, ◌∙◌, arith}
use Rattle.rows.specs.Inner.{row_inked}
use Rattle.rows.proofs.PatternLaws.{beside_fewer, beside_part, beside_whole, row_more, row_whole}
use Rattle.rows.proofs.patterns.row.Goals as goal
use Rattle.rows.proofs.patterns.row.Goals.{After-lead-before}

-- what is known of the bytes that are made sixteen at once
whole : (c : After-lead-before) → let a = c.args in
    (c.lead-before.result + (a.count - c.lead-before.result) / 16 * 16 ≤ a.count)
    × (0 < (a.count - c.lead-before.result) / 16 * 16 → (a.n + c.lead-before.result) % 8 ≡ 0)
whole c = (omega (arith, c.lead-before.ensures.0), λ some. c.lead-before.ensures.1 (omega arith))

-- how many are made then, and the others
abbrev done : (c : After-lead-before) → ℕ
done c = c.lead-before.result + (c.args.count - c.lead-before.result) / 16 * 16

rest : (c : After-lead-before) → done c + (c.args.count - done c) ≡ c.args.count
rest c = omega (arith, (whole c).0)

pub dots-requires : goal.dots-requires
dots-requires c =
    let a = c.args in
    let h = c.requires in
    beside_fewer a.source a.n a.at a.count _ h.0 c.lead-before.result c.lead-before.ensures.0

pub sixteens-requires : goal.sixteens-requires
sixteens-requires c =
    let a = c.args in
    let h = c.requires in
    let l = c in
    rw c.dots.auto.memory
    (beside_whole a.source a.n a.at a.count _ h.0 l.lead-before.result _ (whole (goal.at.sixteens-requires c).After-lead-before).0 (whole (goal.at.sixteens-requires c).After-lead-before).1)

pub dots-requires-2 : goal.dots-requires-2
dots-requires-2 c =
    let a = c.args in
    let h = c.requires in
    let l = c in
    rw (c.sixteens.auto.memory, c.dots.auto.memory)
    (beside_part a.source a.n a.at a.count _ h.0 (done (goal.at.dots-requires-2 c).After-lead-before) (a.count - done (goal.at.dots-requires-2 c).After-lead-before) (omega (arith, rest (goal.at.dots-requires-2 c).After-lead-before)))

pub returns : goal.returns
returns c =
    let a = c.args in
    let h = c.requires.0 in
    let l = c in
    let m = a.memory.now in
    let first = c.dots.ensures in
    let second = c.sixteens.ensures in
    let both = row_whole a.inks a.source a.n a.at a.count m h l.lead-before.result _ (whole (goal.at.returns c).After-lead-before).0 (whole (goal.at.returns c).After-lead-before).1 _ _ first second in
    row_more a.inks a.source a.n a.at a.count m h (done (goal.at.returns c).After-lead-before) (a.count - done (goal.at.returns c).After-lead-before) (omega (arith, rest (goal.at.returns c).After-lead-before)) _ _ both
    c.dots-2.ensures
    ∙ ap (λ (n : ℕ). row_inked a.inks a.source a.n a.at n m) (rest (goal.at.returns c).After-lead-before)
