-- What each listed register reads back, and how a write changes it.
use Rattle.std.specs.Prelude.{◌≡◌, ℕ, ◌^◌, ◌≤◌, pos, get_or}
use Rattle.numbers.specs.Choose.{choose}
use Rattle.numbers.specs.Bytes.{low, latched}
use Rattle.numbers.specs.Circles.{residue, circle}
use Rattle.numbers.specs.declared.bytes.Write.{Write}
use Rattle.parts.specs.declared.shapes.Registers.{Registers}
use Rattle.parts.specs.Registers.{Reduction, Whole, Low, Circle, Register, registers, whole}
use Rattle.parts.specs.Takes.{touched}
use Rattle.rules.specs.Maps.{map_at}
use Rattle.coprocessor.specs.declared.Coprocessor.{Coprocessor}
use Rattle.coprocessor.specs.Reads.{value_at}

-- 01, Registers: the i-th listed register, from 0 to 27
unfoldable pub register_at : ℕ → Register
register_at i = get_or registers i (whole 0 0)

-- 01, Registers: what a read of this whole register shows
abbrev pub shown : Coprocessor → Register → ℕ
shown c r = value_at c r.at r.bytes

-- 01, Registers: what a register of so many bytes reads back of the number that it was given, by its reduction; negative ones sign-extended
abbrev pub read_back_by : Reduction → (bytes x : ℕ) → ℕ
read_back_by Whole bytes x = x
read_back_by (Low bits) bytes x = low bits x
read_back_by (Circle lowest size) bytes x = residue (256 ^ bytes) (circle lowest size (pos x))

-- 01, Registers: a register that the write touches takes the bytes that it covers, reduced; every other reads as before
unfoldable pub shown_after : Write → Register → ℕ → ℕ
shown_after w r x =
    choose (touched r.bytes r.at w) (read_back_by r.reduction r.bytes (latched r.bytes r.at w x)) x

-- 01, Registers: the registers with this map index
unfoldable pub indexed : ℕ → Registers → Registers
indexed index r =
    record { index = index; terms = r.terms; colours = r.colours; figure = r.figure; pointers = r.pointers }

-- 01, Registers: the record with another map selected
unfoldable pub selecting : ℕ → Coprocessor → Coprocessor
selecting index c =
    record { size = c.size; maps = c.maps; registers = indexed index c.registers; drawing = c.drawing }

-- 01, Registers: the index reads its two low bits, 14 to 1C show the map that it selects, and every other register reads as before
pub record Selected (chosen : ℕ) (c d : Coprocessor) : Type 0 where
  pub index : value_at d 0x12 1 ≡ chosen
  pub base : value_at d 0x14 4 ≡ (map_at c.maps chosen).base
  pub width : value_at d 0x18 2 ≡ (map_at c.maps chosen).width
  pub height : value_at d 0x1A 2 ≡ (map_at c.maps chosen).height
  pub format : value_at d 0x1C 1 ≡ (map_at c.maps chosen).format
  pub others : (i : ℕ) → 5 ≤ i → shown d (register_at i) ≡ shown c (register_at i)
