-- Fresh states that are refused, each shown by computing its number.
use mathlib.Core.Path.{◌≡◌, refl}
use mathlib.Core.List.{[]}
use Rattle.coprocessor.specs.Fresh.{size_holds, fresh_answer}
use Rattle.coprocessor.specs.Images.{saves, save_refusal}
use Rattle.board.specs.Calls.{fresh_number}

-- no memory, and no buffer: of the two numbers the lower
pub size_first : fresh_number [] 0 ≡ 9
unfolding size_holds fresh_answer saves save_refusal fresh_number
size_first = refl

-- a memory of 64 bytes, and no buffer
pub buffer_next : fresh_number [] 64 ≡ 10
unfolding size_holds fresh_answer saves save_refusal fresh_number
buffer_next = refl
