-- `memory_text` lays byte after byte of the memory in hex: those laid and those left make the whole.
use Rattle.std.proofs.Common.{◌≡◌, ◌*◌, length, drop}
use lib.Seq.{sets}
use Rattle.console.specs.Texts.{bytes_text, memory_text}
use Rattle.console.proofs.texts.memory_text.Given as goal

abbrev pub invariant-loop-i : goal.invariant-loop-i
invariant-loop-i l = (length l.out ≡ 192) × (sets l.out (3 * l.i) (bytes_text l.i (drop l.i l.memory)) ≡ memory_text l.memory)
