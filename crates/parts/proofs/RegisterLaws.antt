-- A bit for each offset says what the list of registers says: one test, computed at every offset of half the bank and every length.
use mathlib.Core.Path.{◌≡◌, ap, ◌∙◌}
use mathlib.Core.Bool.{Bool, true, beq}
use Prim.Native.Nat.{ℕ, ◌+◌, ◌-◌, ◌/◌, ◌%◌, ◌^◌, ◌≤◌, ◌<◌}
use native.Mathlib.Omega.{arith}
use lib.Dec.{eqb}
use Rattle.parts.specs.Registers.{listed}
use Rattle.parts.proofs.Every.{every, every_at, beq_eq}

-- whether n bits of this half are all set from k on
abbrev pub all_set : ℕ → ℕ → ℕ → Bool
all_set half k n = eqb (half / 2 ^ k % 2 ^ n) (2 ^ n - 1)

-- whether the bits from k on say for every length what the registers from this start on do
unfoldable pub agrees : ℕ → ℕ → ℕ → Bool
agrees half start k = every 5 (λ n. beq (all_set half k n) (listed n (start + k)))

pub half_listed : (half start : ℕ) → every 64 (agrees half start) ≡ true → (k n offset : ℕ) → k < 64 → n ≤ 4 → start + k ≡ offset
    → all_set half k n ≡ listed n offset
unfolding agrees
half_listed half start test k n offset within few e =
    beq_eq _ _ (every_at 5 _ (every_at 64 (agrees half start) test k within) n (omega arith)) ∙ ap (listed n) e
