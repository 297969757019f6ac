-- `onto` is the place on the circle: the difference of two small numbers fits the machine's.
use Prim.Native.Nat.{ℕ, ◌+◌, ◌%◌, ◌<◌}
use native.Mathlib.Nat.{mod-lt}
use native.Mathlib.Omega.{arith}
use mir.Syntax.{w32}
use mir.ValLaws.{to_z-of_z, to_z_pos}
use Rattle.numbers.specs.Circles.{circle, forth, residue}
use Rattle.numbers.proofs.SignedLaws.{pos_sub, sub_fits}
use Rattle.numbers.proofs.circles.onto.Goals as goal

pub returns : goal.returns
unfolding circle forth residue
returns g c =
    let size = g.row.SIZE in let below = g.row.BELOW in
    let p : ℕ = (c.args.x % size + below) % size in
    let low : p < size = mod-lt (c.args.x % size + below) c.requires.0 in
    rw (to_z_pos w32 p (omega arith), to_z_pos w32 below (omega arith), pos_sub, to_z-of_z w32 _ (sub_fits w32 p below (omega arith)))
