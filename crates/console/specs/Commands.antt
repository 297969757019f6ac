-- What a line asks for.
use Rattle.std.specs.Prelude.{Bool, false, ◌||◌, List, [], ◌∷◌, ℕ, Option, Some, None, length, leb, eqb}
use Rattle.numbers.specs.Choose.{choose}
use Rattle.console.specs.declared.Wide.TheVariants.{Low, Largest}
use Rattle.console.specs.declared.Command.{Command}
use Rattle.console.specs.declared.Command.TheVariants.{Write, Run, Blank, Neither}
use Rattle.console.specs.Words.{line_words}
use Rattle.console.specs.Digits.{word_number}

-- docs/DECISIONS.md, 44: a word of one letter, in upper or lower case
unfoldable pub is_letter : ℕ → ℕ → List ℕ → Bool
is_letter upper lower [] = false
is_letter upper lower (byte ∷ []) = eqb byte upper || eqb byte lower
is_letter upper lower (byte ∷ next ∷ bytes) = false

-- 01, the bench program: a write, if all three are numbers
unfoldable pub write_of : Option ℕ → Option ℕ → Option ℕ → Command
write_of (Some offset) (Some length) (Some value) = Write offset length value
write_of (Some offset) (Some length) None = Neither
write_of (Some offset) None value = Neither
write_of None length value = Neither

-- 01, the bench program: a run, if its allowance is a number
unfoldable pub run_of : Option ℕ → Command
run_of (Some allowance) = Run allowance
run_of None = Neither

-- 01, the bench program: `w offset length value` (hex, length decimal); extra words make it neither
unfoldable pub write_from : List (List ℕ) → Command
write_from [] = Neither
write_from (offset ∷ []) = Neither
write_from (offset ∷ length ∷ []) = Neither
write_from (offset ∷ length ∷ value ∷ []) = write_of (word_number Largest 16 offset) (word_number Largest 10 length) (word_number Low 16 value)
write_from (offset ∷ length ∷ value ∷ extra ∷ more) = Neither

-- 01, the bench program: `r allowance` (decimal)
unfoldable pub run_from : List (List ℕ) → Command
run_from [] = Neither
run_from (allowance ∷ []) = run_of (word_number Largest 10 allowance)
run_from (allowance ∷ extra ∷ more) = Neither

-- 01, the bench program; docs/DECISIONS.md, 44: by the first word, W or w (87, 119) writes, R or r (82, 114) runs
unfoldable pub command_from : List (List ℕ) → Command
command_from [] = Blank
command_from (name ∷ words) =
    choose (is_letter 87 119 name) (write_from words) (choose (is_letter 82 114 name) (run_from words) Neither)

-- 01, the bench program: the command that a line is
unfoldable pub command_of : List ℕ → Command
command_of line = command_from (line_words line)

-- docs/DECISIONS.md, 44: a line of more than so many bytes is neither, whatever it holds
unfoldable pub line_command : ℕ → List ℕ → Command
line_command size line = choose (leb (length line) size) (command_of line) Neither
