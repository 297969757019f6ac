-- A read that lies in one word reads a part of it.
use mathlib.Core.Path.{◌≡◌, sym}
use mathlib.Core.List.{List, [], ◌∷◌}
use Prim.Native.Nat.{ℕ, zero, suc, ◌+◌, ◌*◌, ◌≤◌, ◌<◌}
use native.Mathlib.Nat.{zero-add}
use native.Mathlib.Omega.{arith}
use lib.ListN.{length, get_or, take, drop, length-drop}
use lib.Seq.{take-append-le, drop-append-le, drop-append-add}
use Rattle.numbers.specs.Bytes.{le, number_of, part_of}
use Rattle.numbers.proofs.ByteLaws.{length_le}
use Rattle.numbers.proofs.BytePartLaws.{number_part}
use Rattle.image.specs.Inner.{word_bytes}

-- a part of one of the words stands where its offset says
pub part_bytes : (words : List ℕ) (k skip n : ℕ) → k < length words → skip + n ≤ 4
    → part_of skip n (get_or words k 0) ≡ number_of (take n (drop (4 * k + skip) (word_bytes words)))
unfolding word_bytes
part_bytes [] k skip n h within = absurd (omega arith)
part_bytes (x ∷ words) zero skip n h within =
    let inside : skip ≤ length (le 4 x) = simp length_le (omega arith) in
    let left : n ≤ length (drop skip (le 4 x)) = simp (length-drop, length_le) (omega arith) in
    rw (zero-add, drop-append-le skip (le 4 x) (word_bytes words) inside, take-append-le n (drop skip (le 4 x)) (word_bytes words) left)
    (sym (number_part skip n 4 x within))
part_bytes (x ∷ words) (suc k) skip n h within =
    let next : 4 * suc k + skip ≡ length (le 4 x) + (4 * k + skip) = simp length_le (omega arith) in
    rw (next, drop-append-add) (part_bytes words k skip n (omega arith) within)
