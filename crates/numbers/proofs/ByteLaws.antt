-- The laws of bytes: each is below 256, a number and its bytes give each other back, and bytes are laid and read one after another.
use mathlib.Core.Path.{◌≡◌, refl, sym, ap, ◌∙◌}
use mathlib.Core.Bool.{Bool, true, false}
use mathlib.Core.List.{List, [], ◌∷◌}
use Prim.Native.Nat.{ℕ, zero, suc, ◌+◌, ◌-◌, ◌*◌, ◌/◌, ◌%◌, ◌^◌, ◌≤◌, ◌<◌}
use native.Mathlib.Nat.{div-eq_of_lt, lt_of_lt_of_le, pow-le-pow_right, pow-suc, add-zero, sub-zero, mod-one, one-le-pow, div-one, div-div-eq-div-mul}
use native.Mathlib.Omega.{arith}
use lib.Arith.{mod-mul}
use lib.Dec.{lit<}
use lib.Pow.{pow-add}
use lib.ListN.{length, get_or, take, drop, set}
use lib.Seq.{sets, drop-cons}
use borrow.Author.Tests.{le-leb, lt-ltb}
use Rattle.numbers.specs.Choose.{choose}
use Rattle.numbers.specs.Bytes.{le, number_of, byte_of, covers, latched_bytes, latched}
use Rattle.numbers.specs.declared.bytes.Write.{Write}
use Rattle.std.proofs.lemmas.Nat.{one_shl}

-- ---- one byte

pub byte_lt : (x k : ℕ) → byte_of x k < 256
unfolding byte_of
byte_lt x k = omega arith

pub byte_beyond : (x k : ℕ) → x < 2 ^ 32 → 4 ≤ k → byte_of x k ≡ 0
unfolding byte_of
byte_beyond x k h four =
    let wide : x < 256 ^ k = lt_of_lt_of_le h (pow-le-pow_right (lit< {m = 0} {n = 256} tt) {i = 4} four) in
    let none : x / 256 ^ k ≡ 0 = div-eq_of_lt wide in
    rw none

-- ---- a number's bytes

pub length_le : (n x : ℕ) → length (le n x) ≡ n
unfolding le
length_le zero x = refl
length_le (suc n) x = ap suc (length_le n (x / 256))

pub number_le : (n x : ℕ) → number_of (le n x) ≡ x % 256 ^ n
unfolding le number_of
number_le zero x = sym (mod-one x)
number_le (suc n) x =
    let high : number_of (le n (x / 256)) ≡ x / 256 % 256 ^ n = number_le n (x / 256) in
    let whole : x % (256 ^ n * 256) ≡ x / 256 % 256 ^ n * 256 + x % 256 = mod-mul x (one-le-pow n 256 (lit< tt)) (lit< tt) in
    rw pow-suc (omega arith)

pub le_number : (b : List ℕ) → ((i : ℕ) → get_or b i 0 < 256) → le (length b) (number_of b) ≡ b
unfolding le number_of
le_number [] bytes = refl
le_number (x ∷ b) bytes =
    let first : x < 256 = bytes 0 in
    let low : (x + 256 * number_of b) % 256 ≡ x = omega arith in
    let high : (x + 256 * number_of b) / 256 ≡ number_of b = omega arith in
    rw (low, high, le_number b (λ i. bytes (suc i)))

-- ---- bytes as shifts

pub two_pow_eight : (k : ℕ) → 2 ^ (8 * k) ≡ 256 ^ k
two_pow_eight zero = refl
two_pow_eight (suc k) = let next : 8 * suc k ≡ 8 * k + 8 = omega arith in rw (next, pow-add, two_pow_eight k) (sym (pow-suc 256 k))

-- a one shifted up by k bytes, at 64 bits
pub one_shifted : (k : ℕ) → k ≤ 4 → 1 * 2 ^ (8 * k) % 2 ^ 64 ≡ 256 ^ k
one_shifted k h = one_shl (8 * k) 64 (omega arith) ∙ two_pow_eight k

-- ---- bytes laid, and read, one after another

pub lay_first : (b : List ℕ) (at count rest : ℕ) → sets b (at + 0) (le (count - 0) rest) ≡ sets b at (le count rest)
lay_first b at count rest = rw (add-zero, sub-zero)

pub lay_next : (b : List ℕ) (at i count rest : ℕ) → i < count
    → sets (set b (at + i) (rest % 256)) (at + (i + 1)) (le (count - (i + 1)) (rest / 256)) ≡ sets b (at + i) (le (count - i) rest)
unfolding le
lay_next b at i count rest h =
    let more : count - i ≡ suc (count - (i + 1)) = omega arith in
    let next : at + (i + 1) ≡ suc (at + i) = omega arith in
    rw (more, next)

pub lay_last : (b : List ℕ) (at i count rest : ℕ) → count ≤ i → sets b (at + i) (le (count - i) rest) ≡ b
unfolding le
lay_last b at i count rest h =
    let none : count - i ≡ 0 = omega arith in
    rw none

pub read_next : (b : List ℕ) (at i count : ℕ) → 0 < i → i ≤ count → at + count ≤ length b
    → number_of (take (count - (i - 1)) (drop (at + (i - 1)) b)) ≡ number_of (take (count - i) (drop (at + i) b)) * 256 + get_or b (at + (i - 1)) 0
unfolding number_of
read_next b at zero count some h room = elim some [ ]
read_next b at (suc j) count some h room =
    let more : count - (suc j - 1) ≡ suc (count - suc j) = omega arith in
    let here : at + (suc j - 1) ≡ at + j = omega arith in
    let next : at + suc j ≡ suc (at + j) = omega arith in
    let within : at + j < length b = omega arith in
    rw (more, here, next, drop-cons b (at + j) 0 within) (omega arith)

pub pow_next : (i count : ℕ) → 0 < i → i ≤ count → 256 ^ (count - (i - 1)) ≡ 256 ^ (count - i) * 256
pow_next i count some h =
    let more : count - (i - 1) ≡ suc (count - i) = omega arith in
    rw (more, pow-suc)

-- a number of count - i bytes has room for one more
pub pow_within : (i count : ℕ) → 0 < i → i ≤ count → count ≤ 4 → 256 ^ (count - i) * 256 ≤ 2 ^ 32
pow_within i count some h four = rw (← pow_next i count some h) (pow-le-pow_right (lit< {m = 0} {n = 256} tt) {j = 4} (omega arith))

-- ---- what a register of n bytes takes from a write

-- the byte at this offset: the write's where it covers it
abbrev pub taken : Write → ℕ → ℕ → ℕ
taken w at stored = choose (covers w at) (byte_of w.value (at - w.offset)) stored

-- a byte more, below those that are latched
pub latch_next : (bytes at i : ℕ) (w : Write) (stored : ℕ) → 0 < i → i ≤ bytes
    → latched (bytes - i) (at + i) w (stored / 256 ^ i) * 256 + taken w (at + (i - 1)) (byte_of stored (i - 1))
    ≡ latched (bytes - (i - 1)) (at + (i - 1)) w (stored / 256 ^ (i - 1))
unfolding latched latched_bytes number_of byte_of
latch_next bytes at zero w stored some h = elim some [ ]
latch_next bytes at (suc j) w stored some h =
    let more : bytes - (suc j - 1) ≡ suc (bytes - suc j) = omega arith in
    let here : suc j - 1 ≡ j = omega arith in
    let next : at + suc j ≡ suc (at + j) = omega arith in
    let high : stored / 256 ^ suc j ≡ stored / 256 ^ j / 256 = rw (pow-suc, div-div-eq-div-mul) in
    rw (more, here, next, high) (omega arith)

pub latched_lt : (n at : ℕ) (w : Write) (stored : ℕ) → latched n at w stored < 256 ^ n
unfolding latched latched_bytes number_of
latched_lt zero at w stored = lit< tt
latched_lt (suc n) at w stored =
    let first : taken w at (stored % 256) < 256 = byte (covers w at) in
    let rest : latched n (suc at) w (stored / 256) < 256 ^ n = latched_lt n (suc at) w (stored / 256) in
    rw pow-suc (omega arith)
  where
    byte : (t : Bool) → choose t (byte_of w.value (at - w.offset)) (stored % 256) < 256
    byte true = byte_lt w.value (at - w.offset)
    byte false = omega arith

-- a write that covers none of the bytes leaves them
pub bytes_uncovered : (n at : ℕ) (w : Write) (stored : ℕ) → ((k : ℕ) → at ≤ k → k < at + n → covers w k ≡ false)
    → latched_bytes n at w stored ≡ le n stored
unfolding latched_bytes le
bytes_uncovered zero at w stored none = refl
bytes_uncovered (suc n) at w stored none =
    rw (none at (omega arith) (omega arith), bytes_uncovered n (suc at) w (stored / 256) (λ k l h. none k (omega arith) (omega arith)))

pub latched_uncovered : (n at : ℕ) (w : Write) (stored : ℕ) → ((k : ℕ) → at ≤ k → k < at + n → covers w k ≡ false)
    → latched n at w stored ≡ stored % 256 ^ n
unfolding latched
latched_uncovered n at w stored none = ap number_of (bytes_uncovered n at w stored none) ∙ number_le n stored

-- a write that covers all of the bytes, the first with its byte j, replaces them
pub bytes_covered : (n j at : ℕ) (w : Write) (stored : ℕ) → w.offset + j ≡ at → j + n ≤ w.length
    → latched_bytes n at w stored ≡ le n (w.value / 256 ^ j)
unfolding latched_bytes le covers byte_of
bytes_covered zero j at w stored e all = refl
bytes_covered (suc n) j at w stored e all =
    let from : at - w.offset ≡ j = omega arith in
    let rest : w.value / 256 ^ suc j ≡ w.value / 256 ^ j / 256 = rw (pow-suc, div-div-eq-div-mul) in
    rw (
      le-leb w.offset at (omega arith),
      from,
      lt-ltb j w.length (omega arith),
      bytes_covered n (suc j) (suc at) w (stored / 256) (omega arith) (omega arith),
      rest,
    )

-- a write of exactly these bytes
pub latched_whole : (n at : ℕ) (w : Write) (stored : ℕ) → w.offset ≡ at → w.length ≡ n → latched n at w stored ≡ w.value % 256 ^ n
unfolding latched
latched_whole n at w stored here long =
    ap number_of (bytes_covered n 0 at w stored (omega arith) (omega arith)) ∙ rw (number_le, div-one)
