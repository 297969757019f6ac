-- That no position of a drawing reaches beyond the memory.
use Rattle.std.specs.Prelude.{◌≡◌, true, List, ℕ, length}
use Rattle.parts.specs.Drawings.{unfinished}
use Rattle.position.specs.Within.{Within}
use Rattle.coprocessor.specs.declared.Coprocessor.{Coprocessor}
use Rattle.coprocessor.specs.Runs.{setup_of, ran_of}

-- 02, 108: the position in hand after n positions, whatever n, if one is left: every pixel that it reads or writes lies in the memory as it is then
unfoldable pub NoneBeyond : Coprocessor → List ℕ → Type 0
NoneBeyond c memory =
    (n : ℕ) → unfinished (ran_of c memory n).pen.drawing ≡ true → Within (setup_of c) (length (ran_of c memory n).memory) (ran_of c memory n).pen
