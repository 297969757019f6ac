-- The laws of some of a number's bytes: they are a part of the number, and a number is the sum of its parts.
use mathlib.Core.Path.{◌≡◌, refl, sym}
use mathlib.Core.List.{List, [], ◌∷◌}
use Prim.Native.Nat.{ℕ, zero, suc, ◌+◌, ◌*◌, ◌/◌, ◌%◌, ◌^◌, ◌≤◌, ◌<◌}
use native.Mathlib.Nat.{pow-suc, one-le-pow, div-one, div-div-eq-div-mul, mod-one, mul_comm, zero-add, suc-add, le_of_suc-le-suc}
use native.Mathlib.Omega.{arith}
use lib.Arith.{mod-mul}
use lib.Dec.{lit<}
use lib.ListN.{length, get_or, take, drop, length-drop}
use lib.Seq.{take-nil, get_or-drop, drop-drop}
use Rattle.numbers.specs.Bytes.{le, number_of, part_of}

-- ---- parts of a number's bytes

-- the first n of at least as many bytes
pub number_low : (n m x : ℕ) → n ≤ m → number_of (take n (le m x)) ≡ x % 256 ^ n
unfolding le number_of
number_low zero m x h = sym (mod-one x)
number_low (suc n) zero x h = absurd (omega arith)
number_low (suc n) (suc m) x h =
    let high : number_of (take n (le m (x / 256))) ≡ x / 256 % 256 ^ n = number_low n m (x / 256) (le_of_suc-le-suc h) in
    let whole : x % (256 ^ n * 256) ≡ x / 256 % 256 ^ n * 256 + x % 256 = mod-mul x (one-le-pow n 256 (lit< tt)) (lit< tt) in
    rw pow-suc (omega arith)

pub number_part : (skip n m x : ℕ) → skip + n ≤ m → number_of (take n (drop skip (le m x))) ≡ part_of skip n x
unfolding le part_of
number_part zero n m x h = rw div-one (number_low n m x (omega arith))
number_part (suc skip) n zero x h = absurd (omega arith)
number_part (suc skip) n (suc m) x h =
    let rest : x / 256 ^ suc skip ≡ x / 256 / 256 ^ skip = rw (pow-suc, mul_comm (256 ^ skip) 256, div-div-eq-div-mul) in
    rw rest (number_part skip n m (x / 256) (omega arith))

-- ---- a part of a list, as a number

-- the first n bytes, and m after them
number_append : (n m : ℕ) (b : List ℕ) → number_of (take (n + m) b) ≡ number_of (take n b) + 256 ^ n * number_of (take m (drop n b))
unfolding number_of
number_append zero m b = rw zero-add (omega arith)
number_append (suc n) m [] = rw (suc-add, take-nil m) (omega arith)
number_append (suc n) m (x ∷ b) = rw (suc-add, pow-suc, number_append n m b) (omega arith)

pub number_split : (k n m : ℕ) (b : List ℕ)
    → number_of (take (n + m) (drop k b)) ≡ number_of (take n (drop k b)) + 256 ^ n * number_of (take m (drop (k + n) b))
number_split k n m b = rw (number_append, drop-drop)

first_lt : (n : ℕ) (b : List ℕ) → ((i : ℕ) → get_or b i 0 < 256) → number_of (take n b) < 256 ^ n
unfolding number_of
first_lt zero b bytes = lit< tt
first_lt (suc n) [] bytes = one-le-pow (suc n) 256 (lit< tt)
first_lt (suc n) (x ∷ b) bytes =
    let first : x < 256 = bytes 0 in
    let rest : number_of (take n b) < 256 ^ n = first_lt n b (λ i. bytes (suc i)) in
    rw pow-suc (omega arith)

le_first : (n : ℕ) (b : List ℕ) → ((i : ℕ) → get_or b i 0 < 256) → n ≤ length b → le n (number_of (take n b)) ≡ take n b
unfolding le number_of
le_first zero b bytes h = refl
le_first (suc n) [] bytes h = absurd (omega arith)
le_first (suc n) (x ∷ b) bytes h =
    let first : x < 256 = bytes 0 in
    let low : (x + 256 * number_of (take n b)) % 256 ≡ x = omega arith in
    let high : (x + 256 * number_of (take n b)) / 256 ≡ number_of (take n b) = omega arith in
    rw (low, high, le_first n b (λ i. bytes (suc i)) (le_of_suc-le-suc h))

module _ (k n : ℕ) (b : List ℕ) (bytes : (i : ℕ) → get_or b i 0 < 256) where
  from : (i : ℕ) → get_or (drop k b) i 0 < 256
  from i = rw get_or-drop (bytes (k + i))

  pub number_lt : number_of (take n (drop k b)) < 256 ^ n
  number_lt = first_lt n (drop k b) from

  -- these bytes, laid again
  pub le_part : k + n ≤ length b → le n (number_of (take n (drop k b))) ≡ take n (drop k b)
  le_part h = le_first n (drop k b) from (simp length-drop (omega arith))
