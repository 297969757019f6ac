-- What it means that an image stands for a record.
use Rattle.std.specs.Prelude.{◌≡◌, true, List, ℕ, ◌<◌, get_or}
use Rattle.coprocessor.specs.declared.Coprocessor.{Coprocessor}
use Rattle.coprocessor.specs.Images.{loads, loaded}

-- 01, State image: bytes that load, and to this record
pub record LoadsTo (image : List ℕ) (c : Coprocessor) : Type 0 where
  pub bytes : (i : ℕ) → get_or image i 0 < 256
  pub accepted : loads image ≡ true
  pub record_same : loaded image ≡ c
