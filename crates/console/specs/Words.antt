-- The words of a line.
use Rattle.std.specs.Prelude.{Bool, ◌||◌, List, [], ◌∷◌, ◌++◌, ℕ, eqb}
use Rattle.numbers.specs.Choose.{choose}

-- docs/DECISIONS.md, 44: words are separated by blanks (32) or tabs (9), and a carriage return (13) counts as a blank
unfoldable pub is_blank : ℕ → Bool
is_blank byte = eqb byte 32 || eqb byte 9 || eqb byte 13

-- docs/DECISIONS.md, 44: these words after the word under way, if there is one
unfoldable pub kept : List ℕ → List (List ℕ) → List (List ℕ)
kept [] words = words
kept (byte ∷ bytes) words = (byte ∷ bytes) ∷ words

-- docs/DECISIONS.md, 44: the words of a line, of which the first bytes of a word came already
unfoldable pub split : List ℕ → List ℕ → List (List ℕ)
split came [] = kept came []
split came (byte ∷ bytes) = choose (is_blank byte) (kept came (split [] bytes)) (split (came ++ (byte ∷ [])) bytes)

-- docs/DECISIONS.md, 44: the words of a line
unfoldable pub line_words : List ℕ → List (List ℕ)
line_words line = split [] line
