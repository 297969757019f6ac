-- A line gathered byte by byte is the command that the whole line is: the bytes so far stand in the buffer, until one does not fit.
use mathlib.Core.Path.{◌≡◌, refl, sym, ◌∙◌}
use mathlib.Core.List.{List, [], ◌∷◌, ◌++◌, append-nil, append_assoc}
use mathlib.Core.Logic.{⊎_elim}
use Prim.Native.Nat.{ℕ, suc, ◌+◌, ◌≤◌, ◌<◌}
use native.Mathlib.Numerals.{add-one}
use native.Mathlib.Omega.{arith}
use lib.ListN.{length, take, set, length-append, length-set}
use lib.Seq.{length-take-le, take-suc-set}
use borrow.Author.Tests.{lt-ltb, le-ltb, lt-leb}
use Rattle.numbers.proofs.Order.{lt_or_le}
use Rattle.console.specs.declared.Command.TheVariants.{Neither}
use Rattle.console.specs.Commands.{line_command}
use Rattle.console.specs.Gathered.{count_after, command_in}

-- the buffer after all these bytes, one by one
unfoldable pub buffer_after : List ℕ → ℕ → List ℕ → List ℕ
buffer_after buffer count [] = buffer
buffer_after buffer count (byte ∷ bytes) = buffer_after (set buffer count byte) (count_after (length buffer) count) bytes

-- and how many of them there are then
unfoldable pub counts_after : ℕ → ℕ → List ℕ → ℕ
counts_after size count [] = count
counts_after size count (byte ∷ bytes) = counts_after size (count_after size count) bytes

count_fits : (size count : ℕ) → count < size → count_after size count ≡ suc count
unfolding count_after
count_fits size count fits = rw (lt-ltb count size fits) (add-one count)

count_full : (size count : ℕ) → size ≤ count → count_after size count ≡ size + 1
unfolding count_after
count_full size count full = rw (le-ltb count size full)

-- ---- a line that does not fit

pub buffer_length : (buffer : List ℕ) (count : ℕ) (bytes : List ℕ) → length (buffer_after buffer count bytes) ≡ length buffer
unfolding buffer_after
buffer_length buffer count [] = refl
buffer_length buffer count (b ∷ bytes) = buffer_length (set buffer count b) (count_after (length buffer) count) bytes ∙ length-set buffer count b

-- once too long it stays too long
counts_full : (size count : ℕ) (bytes : List ℕ) → size < count → size < counts_after size count bytes
unfolding counts_after
counts_full size count [] full = full
counts_full size count (b ∷ bytes) full = counts_full size (count_after size count) bytes (rw (count_full size count (omega arith)) (omega arith))

too_long : (buffer : List ℕ) (count : ℕ) → length buffer < count → command_in buffer count ≡ Neither
unfolding command_in
too_long buffer count long = rw (lt-leb count (length buffer) long)

line_long : (size : ℕ) (line : List ℕ) → size < length line → line_command size line ≡ Neither
unfolding line_command
line_long size line long = rw (lt-leb (length line) size long)

-- ---- any line

-- these bytes, gathered after those in the buffer, are the command of the whole line
abbrev Gathers : List ℕ → ℕ → List ℕ → Type 0
Gathers buffer count bytes =
    command_in (buffer_after buffer count bytes) (counts_after (length buffer) count bytes) ≡ line_command (length buffer) (take count buffer ++ bytes)

-- one byte that fits goes to the end of those so far
fits_by_lem : (buffer : List ℕ) (count b : ℕ) (bytes : List ℕ) → count < length buffer
    → Gathers (set buffer count b) (suc count) bytes → Gathers buffer count (b ∷ bytes)
unfolding buffer_after counts_after
fits_by_lem buffer count b bytes fits rest =
    rw (count_fits (length buffer) count fits)
    (rw (length-set buffer count b, take-suc-set buffer count b fits, append_assoc (take count buffer) (b ∷ []) bytes) at rest)

full_by : (buffer : List ℕ) (count b : ℕ) (bytes : List ℕ) → count ≤ length buffer → length buffer ≤ count → Gathers buffer count (b ∷ bytes)
unfolding counts_after
full_by buffer count b bytes within full =
    let over = counts_full (length buffer) (length buffer + 1) bytes (omega arith) in
    let whole = length-append (take count buffer) (b ∷ bytes) in let some = length-take-le count buffer within in
    too_long _ _ (rw (buffer_length buffer count (b ∷ bytes), count_full (length buffer) count full) over) ∙ sym (line_long _ _ (omega arith))

gathers : (bytes buffer : List ℕ) (count : ℕ) → count ≤ length buffer → Gathers buffer count bytes
unfolding command_in buffer_after counts_after line_command
gathers [] buffer count within = rw (append-nil (take count buffer), length-take-le count buffer within)
gathers (b ∷ bytes) buffer count within =
    ⊎_elim
    (λ fits. fits_by_lem buffer count b bytes fits (gathers bytes (set buffer count b) (suc count) (rw (length-set buffer count b) fits)))
    (λ full. full_by buffer count b bytes within full)
    (lt_or_le count (length buffer))

-- from its first byte on, a gathered line is the line
pub line_gathered : (buffer line : List ℕ) → command_in (buffer_after buffer 0 line) (counts_after (length buffer) 0 line) ≡ line_command (length buffer) line
line_gathered buffer line = gathers line buffer 0 (omega arith)

-- ---- one byte after a line so far

pub buffer_last : (buffer : List ℕ) (count : ℕ) (bytes : List ℕ) (b : ℕ)
    → buffer_after buffer count (bytes ++ (b ∷ [])) ≡ set (buffer_after buffer count bytes) (counts_after (length buffer) count bytes) b
unfolding buffer_after counts_after
buffer_last buffer count [] b = refl
buffer_last buffer count (c ∷ bytes) b = rw (length-set buffer count c) at (buffer_last (set buffer count c) (count_after (length buffer) count) bytes b)

pub counts_last : (size count : ℕ) (bytes : List ℕ) (b : ℕ) → counts_after size count (bytes ++ (b ∷ [])) ≡ count_after size (counts_after size count bytes)
unfolding counts_after
counts_last size count [] b = refl
counts_last size count (c ∷ bytes) b = counts_last size (count_after size count) bytes b

-- ---- a line that has any byte

count_some : (size count : ℕ) → 0 < count_after size count
count_some size count =
    ⊎_elim
    (λ fits. rw (count_fits size count fits) (omega arith))
    (λ full. rw (count_full size count full) (omega arith))
    (lt_or_le count size)

counts_stay : (size count : ℕ) (bytes : List ℕ) → 0 < count → 0 < counts_after size count bytes
unfolding counts_after
counts_stay size count [] some = some
counts_stay size count (b ∷ bytes) some = counts_stay size (count_after size count) bytes (count_some size count)

pub counts_some : (size b : ℕ) (bytes : List ℕ) → 0 < counts_after size 0 (b ∷ bytes)
unfolding counts_after
counts_some size b bytes = counts_stay size (count_after size 0) bytes (count_some size 0)
