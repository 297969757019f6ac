-- Numbers that come round: a map's pointers, and the signed registers modulo their circle.
use Rattle.std.specs.Prelude.{ℕ, ◌+◌, ◌-◌, ◌%◌, ℤ, pos, negsuc}
use Rattle.std.proofs.Math.IntN.{sub_ℕ}

-- 01, Maps and pointers: stepping past an edge comes in at the other; k steps forth
unfoldable pub forth : (size k x : ℕ) → ℕ
forth size k x = (x + k) % size

-- 01, Maps and pointers: the same, k steps back
unfoldable pub back : (size k x : ℕ) → ℕ
back size k x = (x + (size - k % size)) % size

-- 01, Registers: the remainder of a whole number, from 0 to size - 1; by 2 ^ 32 or 2 ^ 16 it is the sign-extended read-back
unfoldable pub residue : ℕ → ℤ → ℕ
residue size (pos n) = n % size
residue size (negsuc n) = (size - 1) - n % size

-- 01, Registers: a whole number modulo size, into -low to size - low - 1
unfoldable pub circle : ℕ → ℕ → ℤ → ℤ
circle low size z = sub_ℕ (forth size low (residue size z)) low
