-- The numbers that a call answers with.
use Rattle.std.specs.Prelude.{ℕ, Bool, true, false, Result, Ok, Err}
use Rattle.parts.specs.declared.refusals.Refusal.{Refusal}
use Rattle.parts.specs.declared.refusals.Refusal.TheVariants.{Place, Unfinished, Unlisted, Function, Fields, Mixes, Formats, Ends, Size, Image}

-- 01, Numbers a call answers with: the paper's number
abbrev pub number_of : Refusal → ℕ
number_of Place = 1
number_of Unfinished = 2
number_of Unlisted = 3
number_of Function = 4
number_of Fields = 5
number_of Mixes = 6
number_of Formats = 7
number_of Ends = 8
number_of Size = 9
number_of Image = 10

-- 01, Numbers a call answers with: the paper's number, 0 for none
abbrev pub refusal_number : Result Unit Refusal → ℕ
refusal_number (Ok _) = 0
refusal_number (Err refusal) = number_of refusal

-- 01, Numbers a call answers with: none
abbrev pub is_accepted : Result Unit Refusal → Bool
is_accepted (Ok _) = true
is_accepted (Err _) = false
