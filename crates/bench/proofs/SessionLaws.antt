-- The input byte by byte: the bytes from a place on are the byte there, then those after it; and what they print goes after what waits.
use mathlib.Core.Path.{◌≡◌, refl, sym, ap, ◌∙◌}
use mathlib.Core.Bool.{Bool, true, false}
use mathlib.Core.List.{List, [], ◌∷◌, ◌++◌, append-nil, append_assoc}
use Prim.Native.Nat.{ℕ, ◌+◌, ◌≤◌, ◌<◌}
use native.Mathlib.Numerals.{add-one}
use lib.ListN.{length, get_or, drop, drop_of_length-le}
use lib.Seq.{drop-cons}
use lib.Dec.{ltb, eqb}
use Rattle.bench.specs.Inner.{Session, line_ended, byte_gathered, byte_taken, bytes_taken, last_ended, with_text, input_ended}

pub bytes_on : (piece : List ℕ) (i : ℕ) (s : Session) → i < length piece
    → bytes_taken (drop i piece) s ≡ bytes_taken (drop (i + 1) piece) (byte_taken (get_or piece i 0) s)
unfolding bytes_taken
bytes_on piece i s inside = rw (drop-cons piece i 0 inside, add-one)

pub bytes_end : (piece : List ℕ) (i : ℕ) (s : Session) → length piece ≤ i → bytes_taken (drop i piece) s ≡ s
unfolding bytes_taken
bytes_end piece i s past = rw (drop_of_length-le piece past)

-- however the input comes in pieces, it is taken as one
pub bytes_append : (piece rest : List ℕ) (s : Session) → bytes_taken (piece ++ rest) s ≡ bytes_taken rest (bytes_taken piece s)
unfolding bytes_taken
bytes_append [] rest s = refl
bytes_append (byte ∷ piece) rest s = bytes_append piece rest (byte_taken byte s)

-- ---- what is printed goes after what waits, which changes nothing else

abbrev Apart : (Session → Session) → Type 0
Apart f = (s : Session) (text : List ℕ) → f (with_text text s) ≡ with_text (text ++ (f (with_text [] s)).text) (f (with_text [] s))

line_apart : Apart line_ended
unfolding line_ended with_text
line_apart s text = refl

gathered_apart : (byte : ℕ) → Apart (byte_gathered byte)
unfolding byte_gathered with_text
gathered_apart byte s text = rw append-nil

byte_by : (byte : ℕ) (t : Bool) → eqb byte 10 ≡ t → Apart (byte_taken byte)
unfolding byte_taken
byte_by byte true newline s text = rw newline (line_apart s text)
byte_by byte false other s text = rw other (gathered_apart byte s text)

pub bytes_apart : (bytes : List ℕ) → Apart (bytes_taken bytes)
unfolding bytes_taken with_text
bytes_apart [] s text = rw append-nil
bytes_apart (b ∷ bytes) s text =
    let next = byte_taken b (with_text [] s) in
    ap (bytes_taken bytes) (byte_by b (eqb b 10) refl s text)
    ∙ bytes_apart bytes next (text ++ next.text)
    ∙ (rw (append_assoc text next.text))
    ∙ ap (λ (t : Session). with_text (text ++ t.text) t) (sym (bytes_apart bytes next next.text))

last_by : (s : Session) (text : List ℕ) (t : Bool) → ltb 0 s.count ≡ t
    → last_ended (with_text text s) ≡ with_text (text ++ (last_ended (with_text [] s)).text) (last_ended (with_text [] s))
unfolding last_ended with_text
last_by s text true some = rw some (line_apart s text)
last_by s text false none = rw (none, append-nil)

pub end_apart : (s : Session) → s.text ++ (input_ended (with_text [] s)).text ≡ (input_ended s).text
unfolding input_ended with_text
end_apart s =
    let last = last_ended (with_text [] s) in
    let own : last_ended s ≡ with_text (s.text ++ last.text) last = last_by s s.text (ltb 0 s.count) refl in
    rw own (sym (append_assoc s.text last.text _))
