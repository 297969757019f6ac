-- Text laid into a buffer piece by piece: what is laid after a piece goes on from the piece's end.
use mathlib.Core.Path.{◌≡◌, refl, ◌∙◌}
use mathlib.Core.List.{List, [], ◌∷◌, ◌++◌, append-nil, append_assoc}
use Prim.Native.Nat.{ℕ, zero, suc, ◌+◌, ◌*◌, ◌/◌, ◌%◌, ◌≤◌, ◌<◌, zero-le, suc-le-suc}
use native.Mathlib.Nat.{zero-add, add-zero, add-suc, suc-add}
use native.Mathlib.Numerals.{add-one}
use native.Mathlib.Omega.{arith}
use lib.ListN.{length, get_or, set, take, drop, length-append, drop_of_length-le}
use lib.Seq.{sets, sets-eq, length-sets, take_at, drop-cons, length-take-le}
use Rattle.std.proofs.Common.{take-append-drop, ◌^◌}
use Rattle.std.proofs.lemmas.Slice.{take-put_mid, drop-put_mid}
use borrow.Rule.Slice.PartMut.{put_mid}
use Rattle.std.proofs.lemmas.Fmt.{decimal_from_appends}
use Rattle.std.specs.Fmt.{decimal as library_decimal}
use lib.Dec.{ltb}
use borrow.Author.Tests.{lt-ltb, le-ltb}
use Rattle.numbers.proofs.Choices.{choose_either}
use Rattle.console.specs.declared.Answer.{Answer}
use Rattle.console.specs.declared.Answer.TheVariants.{Done, Refused, Nothing, Neither}
use Rattle.console.specs.Texts.{decimal, numbered, okay, no, line, unread, newline, answer_text, byte_text, bytes_text, memory_text}

-- text that was copied to its place is laid there
pub copied : (out text : List ℕ) (at : ℕ) → at + length text ≤ length out → put_mid at (length text) out text ≡ sets out at text
copied out text at room =
    let n = at + length text in
    let whole = put_mid at (length text) out text in
    let front = take-put_mid at (length text) out text n refl (omega arith) in
    let back = drop-put_mid at (length text) out text n (omega arith) (omega arith) refl in
    cc (take-append-drop n whole, front, back, sets-eq text out at room)

-- two pieces, one after the other
pub sets_append : (out : List ℕ) (at : ℕ) (a b : List ℕ) → sets out at (a ++ b) ≡ sets (sets out at a) (at + length a) b
sets_append out at [] b = rw (add-zero)
sets_append out at (x ∷ a) b = sets_append (set out at x) (suc at) a b ∙ rw (suc-add, add-suc)

-- what was laid stands after the bytes before it
pub laid_after : (out text : List ℕ) (at : ℕ) → at + length text ≤ length out → take (at + length text) (sets out at text) ≡ take at out ++ text
laid_after out text at room =
    rw (sets-eq text out at room)
    (take_at (take at out ++ text) _ (at + length text) (length-append (take at out) text ∙ rw (length-take-le at out (omega arith))))

pub laid_alone : {n : ℕ} {out : List ℕ} (before text : List ℕ) → n ≡ length text → out ≡ sets before 0 text → n ≤ length out → take n out ≡ text
laid_alone before text count laid room =
    rw (count, laid) (rw (zero-add (length text)) at (laid_after before text 0 (omega (arith, rw (laid, length-sets before 0 text) at room))))

-- ---- a number in decimal

decimal_one : (places n : ℕ) → n < 10 → decimal (suc places) n ≡ (48 + n) ∷ []
unfolding decimal
decimal_one places n small = rw (lt-ltb n 10 small)

decimal_more : (places n : ℕ) → 10 ≤ n → decimal (suc places) n ≡ decimal places (n / 10) ++ ((48 + n % 10) ∷ [])
unfolding decimal
decimal_more places n large = rw (le-ltb n 10 large)

-- it has no more digits than there are places
pub decimal_length : (places n : ℕ) → length (decimal places n) ≤ places
unfolding decimal
decimal_length zero n = zero-le
decimal_length (suc places) n =
    let less = decimal_length places (n / 10) in let whole = length-append (decimal places (n / 10)) ((48 + n % 10) ∷ []) in
    choose_either (λ (s : List ℕ). length s ≤ suc places) (ltb n 10) (suc-le-suc zero-le) (omega arith)

-- it is what the library writes, which has room in 20 digits
pub decimal_written : (n : ℕ) → n < 2 ^ 64 → length (library_decimal n) ≤ 20 → decimal 20 n ≡ library_decimal n
decimal_written n small few = decimal_from_appends decimal (record { one = decimal_one; more = decimal_more }) 20 n small few

-- ---- a word, a number and what follows it

pub numbered_laid : (out before after : List ℕ) (n : ℕ) → let at = 0 + length before in
    sets (sets (sets out 0 before) at (decimal 20 n)) (at + length (decimal 20 n)) after ≡ sets out 0 (numbered before n after)
unfolding numbered
numbered_laid out before after n = simp (append_assoc, sets_append)

pub numbered_length : (before after : List ℕ) (n : ℕ) → length (numbered before n after) ≡ 0 + length before + length (decimal 20 n) + length after
unfolding numbered
numbered_length before after n = simp length-append (omega arith)

-- an answer is short, at whatever line
pub answer_length : (answer : Answer) (at : ℕ) → length (answer_text answer at) ≤ 40
unfolding answer_text
answer_length (Done positions) at = omega (arith, numbered_length okay newline positions, decimal_length 20 positions)
answer_length (Refused number) at = omega (arith, numbered_length no newline number, decimal_length 20 number)
answer_length Nothing at = zero-le
answer_length Neither at = omega (arith, numbered_length line unread at, decimal_length 20 at)

-- ---- memory in hex

-- text as long as the buffer is all of it
pub sets_whole : (out text : List ℕ) → length out ≡ length text → sets out 0 text ≡ text
sets_whole out text same =
    sets-eq text out 0 (omega arith)
    ∙ rw (drop_of_length-le out {i = 0 + length text} (omega arith), append-nil text)

bytes_length : (i : ℕ) (bytes : List ℕ) → length (bytes_text i bytes) ≡ 3 * length bytes
unfolding bytes_text byte_text
bytes_length i [] = refl
bytes_length i (b ∷ bytes) = let rest = bytes_length (suc i) bytes in omega arith

pub memory_begins : (out memory : List ℕ) → length out ≡ 3 * length memory → sets out (3 * 0) (bytes_text 0 (drop 0 memory)) ≡ memory_text memory
unfolding memory_text
memory_begins out memory room = let whole = bytes_length 0 memory in sets_whole out (bytes_text 0 memory) (omega arith)

pub memory_on : (out memory : List ℕ) (i : ℕ) → i < length memory → let j = i + 1 in
    sets out (3 * i) (bytes_text i (drop i memory)) ≡ sets (sets out (3 * i) (byte_text i (get_or memory i 0))) (3 * j) (bytes_text j (drop j memory))
unfolding bytes_text byte_text
memory_on out memory i inside =
    let next : 3 * (i + 1) ≡ 3 * i + 3 = omega arith in
    rw (next, drop-cons memory i 0 inside, add-one) (sets_append out (3 * i) (byte_text i (get_or memory i 0)) (bytes_text (suc i) (drop (suc i) memory)))

pub memory_ends : (out memory : List ℕ) (i : ℕ) → length memory ≤ i → sets out (3 * i) (bytes_text i (drop i memory)) ≡ out
unfolding bytes_text
memory_ends out memory i past = rw (drop_of_length-le memory past)
