-- `rows::sweeps::mend` sets the one byte, with the field of the byte that the blend makes.
use Rattle.std.proofs.Common.{get_or, set, ap, ◌∙◌}
use lib.Bits.{bit_and, bit_xor}
use Rattle.rows.proofs.WholeLaws.{with_field_of}
use Rattle.rows.proofs.sweeps.mend.Goals as goal

pub returns : goal.returns
returns c =
    let a = c.args in
    let d = get_or a.memory.now a.at 0 in
    let made = c.blend_bytes-made.ensures in
    let span = c.span.ensures in
    ap (set a.memory.now a.at) ((λ i. bit_xor d (bit_and (bit_xor (made i) d) (span i))) ∙ with_field_of a.shift a.bits d _)
