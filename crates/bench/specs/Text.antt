-- The text that waits to be handed on.
use Rattle.std.specs.Prelude.{List, ℕ, take}
use Rattle.bench.specs.declared.text.Text.{Text}

-- the first bytes of its buffer
abbrev pub waiting : Text → List ℕ
waiting text = take text.laid text.bytes
