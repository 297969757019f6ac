-- A line gathered byte by byte in a buffer.
use Rattle.std.specs.Prelude.{List, ℕ, ◌+◌, length, take, leb, ltb}
use Rattle.numbers.specs.Choose.{choose}
use Rattle.console.specs.declared.Command.{Command}
use Rattle.console.specs.declared.Command.TheVariants.{Neither}
use Rattle.console.specs.Commands.{command_of}

-- docs/DECISIONS.md, 44: how many bytes there are after one more; one more than the buffer has stands for any number that does not fit
unfoldable pub count_after : ℕ → ℕ → ℕ
count_after size count = choose (ltb count size) (count + 1) (size + 1)

-- docs/DECISIONS.md, 44: the command that so many bytes of the buffer are
unfoldable pub command_in : List ℕ → ℕ → Command
command_in buffer count = choose (leb count (length buffer)) (command_of (take count buffer)) Neither
