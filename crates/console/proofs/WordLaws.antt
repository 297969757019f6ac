-- The words of a line one by one: the word at its start, and the words of what follows.
use Rattle.std.proofs.Common.{◌≡◌, refl, sym, ap, ◌∙◌, Bool, true, false, not, cond, List, [], ◌∷◌, ◌++◌, append-nil, append_assoc, ℕ, suc, ◌+◌, ◌≤◌, ◌<◌, length, take, drop, arith, ltb, Option, Some, None}
use borrow.Author.Tests.{tests}
use Rattle.std.specs.List.{position_or_len}
use Rattle.std.specs.Option.{unwrap_or}
use Rattle.std.proofs.lemmas.List.Sums.{prefix_len-le-length}
use Rattle.console.specs.Words.{is_blank, kept, split, line_words}

-- where the first word begins
abbrev pub start_of : List ℕ → ℕ
start_of s = position_or_len (λ b. not (is_blank b)) s

-- where the word at the start ends
abbrev pub end_of : List ℕ → ℕ
end_of s = position_or_len is_blank s

one_more : (n : ℕ) → 1 + n ≡ suc n
one_more n = omega arith

-- ---- no word

none_by : (b : ℕ) (bs : List ℕ) (t : Bool) → is_blank b ≡ t → length (b ∷ bs) ≤ start_of (b ∷ bs)
    → (length bs ≤ start_of bs → line_words bs ≡ []) → line_words (b ∷ bs) ≡ []
unfolding line_words split kept
none_by b bs true blank past rest = rw blank (rest (let p = rw blank at past in omega arith))
none_by b bs false letter past rest = absurd (let p = rw letter at past in omega arith)

pub words_none : (s : List ℕ) → length s ≤ start_of s → line_words s ≡ []
unfolding line_words split kept
words_none [] past = refl
words_none (b ∷ bs) past = none_by b bs (is_blank b) refl past (words_none bs)

-- ---- the word at the start

-- the word under way is finished by the word at the start
split_by : (came : List ℕ) (b : ℕ) (bs : List ℕ) (t : Bool) → is_blank b ≡ t
    → split (came ++ (b ∷ [])) bs ≡ kept ((came ++ (b ∷ [])) ++ take (end_of bs) bs) (line_words (drop (end_of bs) bs))
    → split came (b ∷ bs) ≡ kept (came ++ take (end_of (b ∷ bs)) (b ∷ bs)) (line_words (drop (end_of (b ∷ bs)) (b ∷ bs)))
unfolding line_words split kept
split_by came b bs true blank rest = simp (blank, append-nil)
split_by came b bs false letter rest = rw (letter, one_more) (rest ∙ rw append_assoc)

split_word : (came s : List ℕ) → split came s ≡ kept (came ++ take (end_of s) s) (line_words (drop (end_of s) s))
unfolding split line_words kept
split_word came [] = ap (λ (w : List ℕ). kept w []) (sym (append-nil came))
split_word came (b ∷ bs) = split_by came b bs (is_blank b) refl (split_word (came ++ (b ∷ [])) bs)

-- the words of what begins with a word are that word, and those of what follows it
abbrev Parted : List ℕ → List ℕ → Type 0
Parted s from = line_words s ≡ take (end_of from) from ∷ line_words (drop (end_of from) from)

some_by : (b : ℕ) (bs : List ℕ) (t : Bool) → is_blank b ≡ t → start_of (b ∷ bs) < length (b ∷ bs)
    → (start_of bs < length bs → Parted bs (drop (start_of bs) bs)) → Parted (b ∷ bs) (drop (start_of (b ∷ bs)) (b ∷ bs))
unfolding line_words split kept
some_by b bs true blank inside rest = rw (blank, one_more) (rest (let p = rw blank at inside in omega arith))
some_by b bs false letter inside rest = simp (letter, one_more) (split_word (b ∷ []) bs)

pub words_some : (s : List ℕ) → start_of s < length s → Parted s (drop (start_of s) s)
words_some [] inside = absurd (omega arith)
words_some (b ∷ bs) inside = some_by b bs (is_blank b) refl inside (words_some bs)

-- ---- what a search for the start or the end gives

pub found_none : (n m : ℕ) (r : Option ℕ) → r ≡ cond (ltb n m) (Some n) None → r ≡ None → m ≤ n
found_none n m r found none = grind (arith, tests)

pub found_some : (n m i : ℕ) (r : Option ℕ) → r ≡ cond (ltb n m) (Some n) None → r ≡ Some i → (n < m) × (i ≡ n)
found_some n m i r found some = grind (arith, tests)

pub found_or : (n m : ℕ) (r : Option ℕ) → r ≡ cond (ltb n m) (Some n) None → n ≤ m → unwrap_or r m ≡ n
found_or n m r found within = grind (arith, tests)

pub end_within : (s : List ℕ) → end_of s ≤ length s
end_within s = prefix_len-le-length (λ b. not (is_blank b)) s
