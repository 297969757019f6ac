-- Answers and memory as text.
use Rattle.std.specs.Prelude.{◌≡◌, List, [], ◌∷◌, ◌++◌, ℕ, zero, suc, ◌+◌, ◌/◌, ◌%◌, ◌≤◌, length, take, ltb, eqb}
use Rattle.numbers.specs.Choose.{choose}
use Rattle.console.specs.declared.Answer.{Answer}
use Rattle.console.specs.declared.Answer.TheVariants.{Done, Refused, Nothing, Neither}

-- 01, the bench program: n in decimal, by at most so many digits
unfoldable pub decimal : ℕ → ℕ → List ℕ
decimal zero n = []
decimal (suc places) n = choose (ltb n 10) ((48 + n) ∷ []) (decimal places (n / 10) ++ ((48 + n % 10) ∷ []))

-- 01, the bench program: a word, a number and what follows it
unfoldable pub numbered : List ℕ → ℕ → List ℕ → List ℕ
numbered before n after = before ++ decimal 20 n ++ after

-- 01, the bench program: "ok "
abbrev pub okay : List ℕ
okay = 0x6F ∷ 0x6B ∷ 0x20 ∷ []

-- 01, the bench program: "no "
abbrev pub no : List ℕ
no = 0x6E ∷ 0x6F ∷ 0x20 ∷ []

-- docs/DECISIONS.md, 44: "line "
abbrev pub line : List ℕ
line = 0x6C ∷ 0x69 ∷ 0x6E ∷ 0x65 ∷ 0x20 ∷ []

-- docs/DECISIONS.md, 44: ": not a call" and a newline
abbrev pub unread : List ℕ
unread = 0x3A ∷ 0x20 ∷ 0x6E ∷ 0x6F ∷ 0x74 ∷ 0x20 ∷ 0x61 ∷ 0x20 ∷ 0x63 ∷ 0x61 ∷ 0x6C ∷ 0x6C ∷ 0x0A ∷ []

-- 01, the bench program: each line prints a line
abbrev pub newline : List ℕ
newline = 0x0A ∷ []

-- 01, the bench program: `ok` and positions done, or `no` and the refusal; docs/DECISIONS.md, 44: a line that is neither is told by its number
unfoldable pub answer_text : Answer → ℕ → List ℕ
answer_text (Done positions) at = numbered okay positions newline
answer_text (Refused number) at = numbered no number newline
answer_text Nothing at = []
answer_text Neither at = numbered line at unread

-- 01, the bench program: so many bytes at the start are the text, as a caller asks that takes them
abbrev pub Counted : ℕ → List ℕ → Type 0
Counted n bytes = (n ≤ length bytes) × (n ≡ length (take n bytes))

-- 01, the bench program: a digit in hex, in upper case
unfoldable pub hex_digit : ℕ → ℕ
hex_digit digit = choose (ltb digit 10) (48 + digit) (55 + digit)

-- 01, the bench program: a line has 16 bytes; a newline (10) after the last of a line, a blank (32) after any other
unfoldable pub separator_of : ℕ → ℕ
separator_of i = choose (eqb (i % 16) 15) 10 32

-- 01, the bench program: the byte of this number in hex, with what follows it
unfoldable pub byte_text : ℕ → ℕ → List ℕ
byte_text i byte = hex_digit (byte / 16) ∷ hex_digit (byte % 16) ∷ separator_of i ∷ []

-- 01, the bench program: these bytes in hex, of which the first has this number
unfoldable pub bytes_text : ℕ → List ℕ → List ℕ
bytes_text i [] = []
bytes_text i (byte ∷ bytes) = byte_text i byte ++ bytes_text (suc i) bytes

-- 01, the bench program: memory, four lines of 16 hex bytes
unfoldable pub memory_text : List ℕ → List ℕ
memory_text memory = bytes_text 0 memory
