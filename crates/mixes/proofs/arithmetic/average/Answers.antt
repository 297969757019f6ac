-- `mixes::arithmetic::average` meets its contract: what is made of the half and what is left of the number make the whole, and a turn takes one bit.
use mathlib.Core.Path.{◌≡◌}
use Prim.Native.Nat.{ℕ, ◌+◌, ◌*◌, ◌/◌, ◌^◌, ◌<◌}
use native.Mathlib.Omega.{arith}
use lib.Pow.{pow_mono}
use Rattle.mixes.specs.Inner.{number_in, laid_in}
use Rattle.mixes.proofs.Binary.{byte_lt, last_not}
use Rattle.mixes.proofs.Gathered.{scattered_lt}
use Rattle.mixes.proofs.Halves.{halving_start, halve_one, halve_none, halve_passed, place_le, half_le, halved}
use Rattle.mixes.proofs.arithmetic.average.Goals as goal
use Rattle.mixes.proofs.arithmetic.average.Goals.{After-loop-enabled, Start, then-enabled-eq1+then-rest-eq1, then-enabled-eq1+else-rest-eq1, else-enabled-eq1}

-- what the loop builds is a pixel
abbrev whole : Start → ℕ
whole c = let a = c.args in laid_in a.depth ((number_in a.depth a.s + number_in a.depth a.d) / 2)

whole-lt : (c : Start) → whole c < 256
whole-lt c = byte_lt c.requires.bits (scattered_lt _ _ _)

-- the mask has no bit left after the loop
ended : (c : After-loop-enabled) → let loop = c.loop-enabled in
    let start = c in
    loop.half + loop.below * (c.sum-total.result / 2 ^ start.args.depth.bits) ≡ whole c.before.before.before
ended c =
    let sum = c in
    let none : c.loop-enabled.enabled ≡ 0 = omega arith in
    halved _ _ _ sum.sum-total.result sum.requires.ones sum.sum-total.ensures.1 (rw none at c.loop-enabled.invariant)

pub loop-enabled-init : goal.loop-enabled-init
loop-enabled-init c = halving_start c.sum-total.result c.requires.planes c.sum-total.ensures.0

pub overflow_add-half : goal.overflow_add-half
overflow_add-half c =
    let test = c in
    omega (arith, half_le (halve_one test.loop-enabled.invariant test.loop-enabled-test.true c.if-enabled-eq1.true c.if-rest-eq1.true), whole-lt c.before.before.before.before.before)

pub overflow_mul-place : goal.overflow_mul-place
overflow_mul-place c =
    omega (arith, place_le c.loop-enabled.invariant c.loop-enabled-test.true, pow_mono c.requires.bits)

pub loop-enabled-preserved : goal.loop-enabled-preserved
loop-enabled-preserved c =
    let loop = c.loop-enabled in
    let more = c.loop-enabled-test.true in
    elim c.if-enabled-eq1.branch [
      | then-enabled-eq1+then-rest-eq1 w ↦ rw (w.below-is, w.half-is) (halve_one loop.invariant more w.if-enabled-eq1.true w.if-rest-eq1.true)
      | then-enabled-eq1+else-rest-eq1 w ↦ rw (w.below-is, w.half-is) (halve_none loop.invariant more w.if-enabled-eq1.true (last_not _ w.if-rest-eq1.false))
      | else-enabled-eq1 w ↦ rw (w.below-is, w.half-is) (halve_passed loop.invariant more (last_not _ w.if-enabled-eq1.false))
    ]

pub overflow_add-result : goal.overflow_add-result
overflow_add-result c = omega (arith, ended c.before, whole-lt c.before.before.before.before)

pub returns : goal.returns
returns c = ended c.before
