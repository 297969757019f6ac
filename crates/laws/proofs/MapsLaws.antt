-- The four maps: where all are reduced, each that a field names is; and after a write the one that the index selects has taken its bytes and every
-- other stays, since one place of the list is set.
use mathlib.Core.Path.{◌≡◌}
use mathlib.Core.Bool.{true}
use mathlib.Core.List.{List, [], ◌∷◌}
use Prim.Native.Nat.{ℕ, zero, suc, ◌%◌, ◌<◌}
use native.Mathlib.Omega.{arith}
use lib.ListN.{length, get_or, set}
use lib.Seq.{get_or-set_same, get_or-set_other}
use Rattle.numbers.specs.declared.bytes.Write.{Write}
use Rattle.numbers.proofs.Choices.{and_left, and_right}
use Rattle.pixels.specs.declared.Map.{Map}
use Rattle.parts.specs.Latches.{map_latched}
use Rattle.parts.specs.Reduced.{map_reduced}
use Rattle.rules.specs.Maps.{fresh_map, map_at}
use Rattle.coprocessor.specs.declared.Coprocessor.{Coprocessor}
use Rattle.coprocessor.specs.Valid.{maps_reduced}
use Rattle.coprocessor.specs.Writes.{stored}

-- ---- one of the four

-- each of four places
below_four : (P : ℕ → Type 0) → P 0 → P 1 → P 2 → P 3 → (k : ℕ) → k < 4 → P k
below_four P a b c d zero h = a
below_four P a b c d (suc zero) h = b
below_four P a b c d (suc (suc zero)) h = c
below_four P a b c d (suc (suc (suc zero))) h = d
below_four P a b c d (suc (suc (suc (suc k)))) h = absurd (omega arith)

pub each_reduced : (maps : List Map) → maps_reduced maps ≡ true → (field : ℕ) → map_reduced (map_at maps field) ≡ true
unfolding map_at maps_reduced
each_reduced maps e field =
    below_four (λ (k : ℕ). map_reduced (get_or maps k fresh_map) ≡ true)
    (search (e, and_left, and_right)) (search (e, and_left, and_right)) (search (e, and_left, and_right)) (search (e, and_left, and_right))
    (field % 4) (omega arith)

-- ---- after a write

-- what holds at a place, and of a new element, holds at that place after the new one is set
set_either : {A : Type 0} (P : A → Type 0) (l : List A) (i j : ℕ) (a d : A) → P a → P (get_or l j d) → P (get_or (set l i a) j d)
set_either P [] i j a d p q = q
set_either P (x ∷ l) zero zero a d p q = p
set_either P (x ∷ l) zero (suc j) a d p q = q
set_either P (x ∷ l) (suc i) zero a d p q = q
set_either P (x ∷ l) (suc i) (suc j) a d p q = set_either P l i j a d p q

module _ (w : Write) (c : Coprocessor) where
  pub map_either : (P : Map → Type 0) (field : ℕ) → P (map_latched w (map_at c.maps c.registers.index))
      → P (map_at c.maps field)
      → P (map_at (stored w c).maps field)
  unfolding map_at stored
  map_either P field = set_either P c.maps (c.registers.index % 4) (field % 4) _ fresh_map

  pub map_selected : length c.maps ≡ 4
      → map_at (stored w c).maps c.registers.index ≡ map_latched w (map_at c.maps c.registers.index)
  unfolding map_at stored
  map_selected four = get_or-set_same c.maps (c.registers.index % 4) _ fresh_map (omega arith)

  pub map_other : (field : ℕ) → (field % 4 ≡ c.registers.index % 4 → ⊥) → map_at (stored w c).maps field ≡ map_at c.maps field
  unfolding map_at stored
  map_other field other = get_or-set_other c.maps (c.registers.index % 4) (field % 4) _ fresh_map other
