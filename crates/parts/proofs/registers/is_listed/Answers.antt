-- `is_listed` says what the list of registers says, since the bits of either half agree with it at every offset and length.
use mathlib.Core.Path.{refl, ◌∙◌}
use Prim.Native.Nat.{◌-◌}
use native.Mathlib.Omega.{arith}
use Rattle.parts.specs.Registers.{selected, others, registers, among, listed}
use Rattle.parts.proofs.Every.{every}
use Rattle.parts.proofs.RegisterLaws.{agrees, half_listed}
use Rattle.parts.proofs.registers.is_listed.Goals as goal

pub returns-then-offset-lt64 : goal.returns-then-offset-lt64
unfolding selected others registers among listed every agrees
returns-then-offset-lt64 c =
    let at = c.args in
    c.all_set.ensures ∙ half_listed _ 0 refl at.offset at.length at.offset (omega arith) (omega arith) (omega arith)

pub returns-else-offset-lt64 : goal.returns-else-offset-lt64
unfolding selected others registers among listed every agrees
returns-else-offset-lt64 c =
    let at = c.args in
    c.all_set-else-offset-lt64.ensures ∙ half_listed _ 64 refl (at.offset - 64) at.length at.offset (omega arith) (omega arith) (omega arith)
