-- An operation that works bit by bit is what it makes of single bits: two that agree on these agree on all numbers of n bits, by induction on n.
use mathlib.Core.Path.{◌≡◌, refl}
use mathlib.Core.Bool.{Bool, true, false, ◌&&◌}
use Prim.Native.Nat.{ℕ, zero, suc, ◌+◌, ◌*◌, ◌/◌, ◌%◌, ◌^◌, ◌<◌}
use native.Mathlib.Nat.{not-suc-le-zero, le_of_suc-le-suc}
use native.Mathlib.Omega.{arith}
use lib.Arith.{lt-one}
use lib.Bits.{bit_and, bit_xor, and_block, xor_block, and_lt, xor_lt}
use lib.Dec.{T, eqb, eqb→eq}
use lib.Ieee.Fits.{and_l, and_r}
use Rattle.numbers.specs.Choose.{choose}
use Rattle.mixes.proofs.Binary.{half_lt, last_lt}

-- an operation on three numbers of n bits: of nothing it makes nothing, of single bits a single bit, and the last bits go apart from the halves
pub record Bitwise (f : ℕ → ℕ → ℕ → ℕ → ℕ) : Type 0 where
  pub none : f 0 0 0 0 ≡ 0
  pub single : (m s d : ℕ) → f 1 (m % 2) (s % 2) (d % 2) < 2
  pub step : (n m s d : ℕ) → f (suc n) m s d ≡ f n (m / 2) (s / 2) (d / 2) * 2 + f 1 (m % 2) (s % 2) (d % 2)

-- ---- what is made of the numbers and no bits by and, xor and a choice

pub mask : Bitwise (λ n m s d. m)
mask = record { none = refl; single = λ m s d. last_lt m; step = λ n m s d. omega arith }

pub source : Bitwise (λ n m s d. s)
source = record { none = refl; single = λ m s d. last_lt s; step = λ n m s d. omega arith }

pub destination : Bitwise (λ n m s d. d)
destination = record { none = refl; single = λ m s d. last_lt d; step = λ n m s d. omega arith }

pub no_bits : Bitwise (λ n m s d. 0)
no_bits = record { none = refl; single = λ m s d. omega arith; step = λ n m s d. refl }

module _ {f g : ℕ → ℕ → ℕ → ℕ → ℕ} (F : Bitwise f) (G : Bitwise g) where
  joined : (op : ℕ → ℕ → ℕ) → op 0 0 ≡ 0 → ((a b : ℕ) → a < 2 → b < 2 → op a b < 2)
      → ((a b r t : ℕ) → r < 2 → t < 2 → op (a * 2 + r) (b * 2 + t) ≡ op a b * 2 + op r t)
      → Bitwise (λ n m s d. op (f n m s d) (g n m s d))
  joined op nought below block =
      record {
        none = rw (F.none, G.none) nought;
        single = λ m s d. below _ _ (F.single m s d) (G.single m s d);
        step = λ n m s d. rw (F.step n m s d, G.step n m s d) (block _ _ _ _ (F.single m s d) (G.single m s d));
      }

  pub and : Bitwise (λ n m s d. bit_and (f n m s d) (g n m s d))
  and = joined bit_and refl (and_lt 1) (and_block 1)

  pub xor : Bitwise (λ n m s d. bit_xor (f n m s d) (g n m s d))
  xor = joined bit_xor refl (xor_lt 1) (xor_block 1)

pub either : (t : Bool) {f g : ℕ → ℕ → ℕ → ℕ → ℕ} → Bitwise f → Bitwise g → Bitwise (λ n m s d. choose t (f n m s d) (g n m s d))
either true F G = F
either false F G = G

-- ---- single bits decide

-- the test passes for every number below n
abbrev pub all_below : ℕ → (ℕ → Bool) → Bool
all_below zero p = true
all_below (suc n) p = p 0 && all_below n (λ k. p (suc k))

pub below : (n : ℕ) (p : ℕ → Bool) (k : ℕ) → k < n → T (all_below n p) → T (p k)
below zero p k h t = absurd (not-suc-le-zero h)
below (suc n) p zero h t = and_l (p 0) (all_below n (λ k. p (suc k))) t
below (suc n) p (suc k) h t = below n (λ k. p (suc k)) k (le_of_suc-le-suc h) (and_r (p 0) (all_below n (λ k. p (suc k))) t)

-- the operations agree on the eight triples of single bits
abbrev pub agree : (ℕ → ℕ → ℕ → ℕ → ℕ) → (ℕ → ℕ → ℕ → ℕ → ℕ) → Bool
agree f g = all_below 2 (λ m. all_below 2 (λ s. all_below 2 (λ d. eqb (f 1 m s d) (g 1 m s d))))

agree_at : (f g : ℕ → ℕ → ℕ → ℕ → ℕ) → T (agree f g) → (m s d : ℕ) → f 1 (m % 2) (s % 2) (d % 2) ≡ g 1 (m % 2) (s % 2) (d % 2)
agree_at f g t m s d =
    eqb→eq _ _ (below 2 (λ c. eqb (f 1 (m % 2) (s % 2) c) (g 1 (m % 2) (s % 2) c)) (d % 2) (last_lt d)
    (below 2 (λ b. all_below 2 (λ c. eqb (f 1 (m % 2) b c) (g 1 (m % 2) b c))) (s % 2) (last_lt s)
    (below 2 (λ a. all_below 2 (λ b. all_below 2 (λ c. eqb (f 1 a b c) (g 1 a b c)))) (m % 2) (last_lt m) t)))

module _ {f g : ℕ → ℕ → ℕ → ℕ → ℕ} (F : Bitwise f) (G : Bitwise g) (t : T (agree f g)) where
  pub agree_all : (n m s d : ℕ) → m < 2 ^ n → s < 2 ^ n → d < 2 ^ n → f n m s d ≡ g n m s d
  agree_all zero m s d hm hs hd = rw (lt-one hm, lt-one hs, lt-one hd, F.none, G.none)
  agree_all (suc n) m s d hm hs hd =
      rw (F.step n m s d, G.step n m s d, agree_at f g t m s d, agree_all n (m / 2) (s / 2) (d / 2) (half_lt n hm) (half_lt n hs) (half_lt n hd))
