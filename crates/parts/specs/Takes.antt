-- What a register takes from a write, by its line of the table.
use Rattle.std.specs.Prelude.{ℕ, ◌+◌, ◌^◌, Bool, ◌&&◌, ltb, ℤ, pos}
use Rattle.numbers.specs.Choose.{choose}
use Rattle.numbers.specs.Bytes.{latched, low}
use Rattle.numbers.specs.Circles.{residue, circle}
use Rattle.numbers.specs.declared.bytes.Write.{Write}
use Rattle.parts.specs.Registers.{Reduction, Whole, Low, Circle, Register}

-- 01, Registers: whether the write, of at least one byte, covers some byte of a register of n bytes at this offset
unfoldable pub touched : (n at : ℕ) → Write → Bool
touched n at w = ltb w.offset (at + n) && ltb at (w.offset + w.length)

-- 01, Registers: a number that is not signed, reduced
abbrev pub reduced_by : Reduction → ℕ → ℕ
reduced_by Whole x = x
reduced_by (Low bits) x = low bits x
reduced_by (Circle lowest size) x = x

-- 01, Registers: a number on its circle
abbrev pub onto_by : Reduction → ℕ → ℤ
onto_by Whole x = pos x
onto_by (Low bits) x = pos x
onto_by (Circle lowest size) x = circle lowest size (pos x)

-- 01, Registers: a register takes the bytes that the write covers, then is reduced; docs/DECISIONS.md, 27: one that it does not touch stays
unfoldable pub taken : Register → Write → ℕ → ℕ
taken r w stored =
    choose (touched r.bytes r.at w) (reduced_by r.reduction (latched r.bytes r.at w stored)) stored

-- 01, Registers: the same for a signed register, whose stored bytes are sign-extended
unfoldable pub taken_onto : Register → Write → ℤ → ℤ
taken_onto r w z =
    choose (touched r.bytes r.at w) (onto_by r.reduction (latched r.bytes r.at w (residue (256 ^ r.bytes) z))) z
