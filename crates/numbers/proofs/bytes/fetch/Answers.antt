-- `fetch` reads the number from its highest byte down: at each turn it is the number of the bytes passed.
use Rattle.numbers.proofs.ByteLaws.{read_next, pow_next, pow_within}
use mathlib.Core.Path.{◌≡◌, refl}
use Prim.Native.Nat.{◌+◌, ◌-◌, ◌*◌, ◌^◌, ◌≤◌}
use native.Mathlib.Omega.{arith}
use native.Mathlib.Nat.{le_refl}
use lib.Dec.{lit<}
use Rattle.numbers.specs.Bytes.{number_of}
use Rattle.numbers.proofs.bytes.fetch.Goals as goal
use Rattle.numbers.proofs.bytes.fetch.Goals.{In-loop-i}

pub loop-i-init : goal.loop-i-init
unfolding number_of
loop-i-init c = let none : c.args.count - c.args.count ≡ 0 = omega arith in rw none (le_refl _, refl, lit< tt)

room : (c : In-loop-i) → 256 ^ (c.args.count - c.loop-i.i) * 256 ≤ 2 ^ 32
room c = pow_within c.loop-i.i c.args.count c.loop-i-test.true c.loop-i.invariant.0 c.requires.1

pub overflow_mul-number : goal.overflow_mul-number
overflow_mul-number c = omega (arith, room c)

pub overflow_add-number-in-loop-i : goal.overflow_add-number-in-loop-i
overflow_add-number-in-loop-i c = omega (arith, room (goal.at.overflow_add-number-in-loop-i c).In-loop-i, c.type_inv.buffer (c.args.at + (c.loop-i.i - 1)))

pub loop-i-preserved : goal.loop-i-preserved
loop-i-preserved c =
    let l = c.loop-i in let s = c in let some = c.loop-i-test.true in
    let byte = c.type_inv.buffer (s.args.at + (l.i - 1)) in
    (omega arith, rw (read_next _ _ _ _ some l.invariant.0 s.requires.0, l.invariant.1), rw (pow_next l.i s.args.count some l.invariant.0) (omega arith))
