-- `rows::bytes::carry` is the same by each loop: a blend that takes nothing from the source goes in any order, and one that is the source copies.
use Rattle.std.proofs.Common.{◌≡◌, ℕ, ◌<◌, ◌&&◌, false, eqb, get_or, sym, refl, ap, ◌∙◌, eqb-true, rules}
use lib.Bits.{bit_and, bit_xor, and_zero_l}
use Rattle.numbers.proofs.Choices.{and_left, and_right}
use Rattle.rows.specs.Inner.{wholly, changed}
use Rattle.rows.proofs.CarryLaws.{carried_same, carried_alone, wholly_alone, wholly_copy}
use Rattle.rows.proofs.LiesLaws.{reach_back}
use Rattle.rows.proofs.bytes.carry.Goals as goal
use Rattle.rows.proofs.bytes.carry.Goals.{After-is_copy}

pub returns-then-is_solid : goal.returns-then-is_solid
returns-then-is_solid c =
    let a = c.args in
    let w = a.whole in
    let m = a.memory.now in
    let test = sym c.is_solid.ensures ∙ c.if-is_solid.true in
    let none : w.source ≡ 0 = eqb-true _ _ (and_left (eqb w.source 0) _ test) in
    let none' : w.both ≡ 0 = eqb-true _ _ (and_right (eqb w.source 0) _ test) in
    let washed : ℕ → ℕ = λ d. bit_xor d (bit_xor w.always (bit_and w.destination d)) in
    c.make.ensures (λ s d. washed d) (λ s d r post. search rules)
    ∙ carried_alone (λ s d. washed d) washed (λ s d. refl) false c.lowest-first.result c.lowest-first.result a.on.count m (λ e. cc)
    ∙ ap (λ (at : ℕ). changed (λ i. washed) at a.on.count m) c.lowest-first.ensures
    ∙ sym
    (carried_alone (wholly w) washed (λ s d. wholly_alone w s d (rw none (and_zero_l s)) (rw none' (and_zero_l s)))
    a.on.back a.on.from a.on.to a.on.count m (λ back. (reach_back _ _ _ _ c.requires.1 back).0))

pub returns-then-is_copy : goal.returns-then-is_copy
returns-then-is_copy c =
    let a = c.args in
    let w = a.whole in
    let test = sym c.is_copy.ensures ∙ c.if-is_copy.true in
    let one = and_left (eqb w.always 0 && eqb w.source 255) _ test in
    let two = and_right (eqb w.always 0 && eqb w.source 255) _ test in
    let bytes : (i : ℕ) → get_or a.memory.now i 0 < 256 = λ i. ((goal.at.returns-then-is_copy c).After-is_copy.type_inv.memory i).fits in
    c.make_along.ensures (λ s d. s) (λ s d r post. search rules)
    ∙ sym
    (carried_same (wholly w) (λ s d. s) (λ s d hs hd. hs)
    (wholly_copy w (eqb-true _ _ (and_left (eqb w.always 0) _ one)) (eqb-true _ _ (and_right (eqb w.always 0) _ one))
    (eqb-true _ _ (and_left (eqb w.destination 255) _ two)) (eqb-true _ _ (and_right (eqb w.destination 255) _ two)))
    a.on.back a.on.from a.on.to a.on.count a.memory.now bytes)
