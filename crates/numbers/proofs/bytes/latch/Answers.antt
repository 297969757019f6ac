-- `latch` puts the register together from its highest byte down: at each turn the number is that of the bytes passed.
use mathlib.Core.Path.{◌≡◌, refl}
use Prim.Native.Nat.{◌+◌, ◌-◌, ◌*◌, ◌^◌, ◌<◌}
use native.Mathlib.Nat.{le_refl}
use native.Mathlib.Omega.{arith}
use Rattle.numbers.specs.Bytes.{number_of, latched_bytes, latched}
use Rattle.numbers.proofs.ByteLaws.{latch_next, latched_lt, pow_within}
use Rattle.numbers.proofs.bytes.latch.Goals as goal
use Rattle.numbers.proofs.bytes.latch.Goals.{In-loop-k}

pub loop-k-init : goal.loop-k-init
unfolding latched latched_bytes number_of
loop-k-init c = let none : c.args.bytes - c.args.bytes ≡ 0 = omega arith in rw none (le_refl _, refl)

-- the bytes passed, and one more, fit four
room : (c : In-loop-k) → c.loop-k.number * 256 + 255 < 2 ^ 32
room c =
    let l = c.loop-k in let a = c.args in
    let small : l.number < 256 ^ (a.bytes - l.k) = rw l.invariant.1 (latched_lt _ _ a.w _) in
    omega (arith, pow_within l.k a.bytes c.loop-k-test.true l.invariant.0 c.requires)

pub overflow_mul-number : goal.overflow_mul-number
overflow_mul-number c = omega (arith, room c)

pub overflow_add-number : goal.overflow_add-number
overflow_add-number c = omega (arith, room (goal.at.overflow_add-number c).In-loop-k)

pub loop-k-preserved : goal.loop-k-preserved
loop-k-preserved c =
    let l = c.loop-k in let a = c.args in
    (omega arith, rw (l.invariant.1, c.latch_byte.ensures, c.byte.ensures) (latch_next a.bytes a.at l.k a.w a.stored c.loop-k-test.true l.invariant.0))
