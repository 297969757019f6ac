-- `rows::Lane::gone` is the definition, size by size: as many pixels as a byte has are a power of two.
use Rattle.std.proofs.Common.{◌≡◌, ℕ, ◌-◌, ◌/◌, ◌%◌, ◌^◌, arith}
use lib.Bits.{bit_and, and_mask, and_le_r}
use Rattle.pixels.specs.Maps.{bits_of}
use Rattle.pixels.proofs.Maps.{by_size_lem}
use Rattle.rows.proofs.Lane.gone.Goals as goal

last : (format : ℕ) → 7 / 2 ^ (format % 4) ≡ 8 / bits_of format - 1
unfolding bits_of
last = by_size_lem (λ (k : ℕ). 7 / 2 ^ k ≡ 8 / 2 ^ k - 1) (omega arith) (omega arith) (omega arith) (omega arith)

within : (n format : ℕ) → bit_and n (7 / 2 ^ (format % 4)) ≡ n % (8 / bits_of format)
unfolding bits_of
within n = by_size_lem (λ (k : ℕ). bit_and n (7 / 2 ^ k) ≡ n % (8 / 2 ^ k)) (and_mask n 3) (and_mask n 2) (and_mask n 1) (and_mask n 0)

pub overflow_sub-result : goal.overflow_sub-result
overflow_sub-result c = and_le_r c.args.self.to _

pub returns-then-self : goal.returns-then-self
returns-then-self c = let a = c.args in rw c.if-self.true (λ i. last a.self.format i - within a.self.to a.self.format i)

pub returns-else-self : goal.returns-else-self
returns-else-self c = let a = c.args in rw c.if-self.false (within a.self.to a.self.format)
