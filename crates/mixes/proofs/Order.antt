-- Gathering keeps the order: the enabled bits as one number compare as the masked pixels do, by induction on the pixel's bits.
use mathlib.Core.Bool.{false}
use mathlib.Core.Logic.{⊎_elim}
use mathlib.Core.Path.{◌≡◌, refl, sym, ◌∙◌}
use Prim.Native.Nat.{ℕ, zero, suc, ◌+◌, ◌-◌, ◌*◌, ◌/◌, ◌%◌, ◌^◌, ◌≤◌, ◌<◌}
use native.Mathlib.Nat.{mod-one, mod-mod, mod-eq_of_lt, le_of_lt, le_of_eq, ne_of_lt, ne_of_gt}
use native.Mathlib.Omega.{arith}
use lib.Bits.{bit_and, and_zero_r}
use lib.Dec.{leb, ltb, eqb}
use borrow.Author.Tests.{lt-ltb, le-ltb, le-leb, lt-leb, eq-eqb, ne_eqb}
use Rattle.mixes.specs.Mixes.{gathered}
use Rattle.mixes.specs.Conditions.{holds_of, condition_holds}
use Rattle.mixes.proofs.Binary.{last_lt, last_cases}
use Rattle.mixes.proofs.Gathered.{masked_taken, masked_passed}

-- a and b compare as x and y do
pub data Alike (a b x y : ℕ) : Type 0 where
  less : a < b → x < y → Alike a b x y
  same : a ≡ b → x ≡ y → Alike a b x y
  more : b < a → y < x → Alike a b x y

turned : {a b x y : ℕ} → Alike a b x y → Alike b a y x
turned (less p q) = more p q
turned (same p q) = same (sym p) (sym q)
turned (more p q) = less p q

-- ---- the tests tell no more than that

pub alike_ltb : {a b x y : ℕ} → Alike a b x y → ltb a b ≡ ltb x y
alike_ltb (less p q) = lt-ltb _ _ p ∙ sym (lt-ltb _ _ q)
alike_ltb (same p q) = le-ltb _ _ (le_of_eq (sym p)) ∙ sym (le-ltb _ _ (le_of_eq (sym q)))
alike_ltb (more p q) = le-ltb _ _ (le_of_lt p) ∙ sym (le-ltb _ _ (le_of_lt q))

pub alike_leb : {a b x y : ℕ} → Alike a b x y → leb a b ≡ leb x y
alike_leb (less p q) = le-leb _ _ (le_of_lt p) ∙ sym (le-leb _ _ (le_of_lt q))
alike_leb (same p q) = le-leb _ _ (le_of_eq p) ∙ sym (le-leb _ _ (le_of_eq q))
alike_leb (more p q) = lt-leb _ _ p ∙ sym (lt-leb _ _ q)

pub alike_eqb : {a b x y : ℕ} → Alike a b x y → eqb a b ≡ eqb x y
alike_eqb (less p q) = ne_eqb _ _ (ne_of_lt p) ∙ sym (ne_eqb _ _ (ne_of_lt q))
alike_eqb (same p q) = eq-eqb _ _ p ∙ sym (eq-eqb _ _ q)
alike_eqb (more p q) = ne_eqb _ _ (ne_of_gt p) ∙ sym (ne_eqb _ _ (ne_of_gt q))

pub alike_holds : (condition : ℕ) {a b x y : ℕ} → Alike a b x y → holds_of condition a b ≡ holds_of condition x y
unfolding holds_of
alike_holds condition w =
    rw (alike_ltb w, alike_ltb (turned w), alike_leb w, alike_leb (turned w), alike_eqb w)

-- ---- gathered and masked

doubled : {a b x y : ℕ} → Alike a b x y → Alike a b (2 * x) (2 * y)
doubled (less p q) = less p (omega arith)
doubled (same p q) = same p (omega arith)
doubled (more p q) = more p (omega arith)

paired : {a b x y : ℕ} (r t : ℕ) → r < 2 → t < 2 → Alike a b x y → Alike (r + 2 * a) (t + 2 * b) (r + 2 * x) (t + 2 * y)
paired r t hr ht (less p q) = less (omega arith) (omega arith)
paired zero zero hr ht (same p q) = same (omega arith) (omega arith)
paired zero (suc t) hr ht (same p q) = less (omega arith) (omega arith)
paired (suc r) zero hr ht (same p q) = more (omega arith) (omega arith)
paired (suc r) (suc t) hr ht (same p q) = same (omega arith) (omega arith)
paired r t hr ht (more p q) = more (omega arith) (omega arith)

pub gathered_alike : (n m a b : ℕ) → Alike (gathered n m a) (gathered n m b) (bit_and a (m % 2 ^ n)) (bit_and b (m % 2 ^ n))
unfolding gathered
gathered_alike zero m a b = same refl (rw mod-one (and_zero_r a ∙ sym (and_zero_r b)))
gathered_alike (suc n) m a b =
    let halves = gathered_alike n (m / 2) (a / 2) (b / 2) in
    ⊎_elim
    (λ passed. rw (masked_passed n m a passed, masked_passed n m b passed, passed) (doubled halves))
    (λ taken. rw (masked_taken n m a taken, masked_taken n m b taken, taken) (paired (a % 2) (b % 2) (last_lt a) (last_lt b) halves))
    (last_cases m)

pub holds_masked : (n condition m d v : ℕ) → m < 2 ^ n → condition_holds n condition m d v ≡ holds_of condition (bit_and d m) (bit_and v m)
unfolding condition_holds
holds_masked n condition m d v h = rw (mod-eq_of_lt h) at (alike_holds condition (gathered_alike n m d v))

-- cutting the plane mask changes nothing
pub holds_planes : (n condition m d v : ℕ) → condition_holds n condition (m % 2 ^ n) d v ≡ condition_holds n condition m d v
unfolding condition_holds
holds_planes n condition m d v =
    alike_holds condition (gathered_alike n (m % 2 ^ n) d v)
    ∙ rw (mod-mod m (2 ^ n)) (sym (alike_holds condition (gathered_alike n m d v)))

pub holds_past : (n condition m d v : ℕ) → 8 ≤ condition → condition_holds n condition m d v ≡ false
unfolding condition_holds holds_of
holds_past n condition m d v h =
    let e : condition ≡ suc (suc (suc (suc (suc (suc (suc (suc (condition - 8)))))))) = omega arith in
    rw e
