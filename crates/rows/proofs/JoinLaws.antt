-- Bytes joined of two, one after another: what they are made of stays, so the order does not matter, and a field of one is a field of either.
use Rattle.std.proofs.Common.{◌≡◌, ℕ, zero, suc, ◌+◌, ◌-◌, ◌*◌, ◌/◌, ◌%◌, ◌^◌, ◌<◌, ◌≤◌, Bool, true, false, List, length, get_or, set, sym, refl, ap, ◌∙◌, add-zero, mod-lt, add-one, arith, length-set, get_or-set_other, pow_pos, shr_lt}
use lib.Bits.{bit_or, or_lt, or_shifted_r}
use lib.Pow as pow
use lib.Pow.{shl-shr, shr_le, mod-pow-add}
use lib.Seq.{set_comm}
use Rattle.numbers.specs.Fields.{field}
use Rattle.numbers.proofs.Fields.{field_mod, field_shr}
use Rattle.rows.specs.Inner.{along, joined, slid}
use Rattle.rows.proofs.ByteLaws.{Bytes}
use Rattle.rows.proofs.CarryLaws.{set_bytes}

-- ---- two bytes joined

module _ (down a b : ℕ) (few : down < 8) (byte : a < 256) where
  abbrev up : ℕ
  up = 8 - down

  all : up + down ≡ 8
  all = omega arith

  all' : down + up ≡ 8
  all' = omega arith

  below : a / 2 ^ down < 2 ^ up
  below = shr_lt up down (rw all byte)

  joined_sum : joined down a b ≡ b % 2 ^ down * 2 ^ up + a / 2 ^ down
  unfolding joined
  joined_sum =
      let cut : b * 2 ^ up % 2 ^ 8 ≡ b % 2 ^ down * 2 ^ up =
      ap (λ (k : ℕ). b * 2 ^ up % 2 ^ k) (sym all')
      ∙ mod-pow-add (b * 2 ^ up) down up
      ∙ (λ i. shl-shr b up i % 2 ^ down * 2 ^ up + none i)
      ∙ add-zero _ in
      ap (bit_or (a / 2 ^ down)) cut ∙ or_shifted_r (b % 2 ^ down) up (a / 2 ^ down) below
    where
      none : b * 2 ^ up % 2 ^ up ≡ 0
      none = ap (λ (x : ℕ). x % 2 ^ up) (sym (add-zero (b * 2 ^ up))) ∙ pow.low b up (pow_pos up)

  -- a field below the joint is one of the lower byte
  pub joined_low : (t n : ℕ) → t + n + down ≤ 8 → field t n (joined down a b) ≡ field (t + down) n a
  joined_low t n h =
      let same : t + down - down ≡ t = omega arith in
      ap (field t n) joined_sum
      ∙ sym (field_mod t n up _ (omega arith))
      ∙ ap (field t n) (pow.low (b % 2 ^ down) up below)
      ∙ rw same at (field_shr (t + down) n down a (omega arith))

  -- and one above it of the upper byte
  pub joined_high : (t n : ℕ) → 8 ≤ t + down → t + n ≤ 8 → field t n (joined down a b) ≡ field (t + down - 8) n b
  joined_high t n h within =
      let same : t - up ≡ t + down - 8 = omega arith in
      ap (field t n) joined_sum
      ∙ sym (field_shr t n up _ (omega arith))
      ∙ ap (field (t - up) n) (pow.high (b % 2 ^ down) up below)
      ∙ field_mod (t - up) n down b (omega arith)
      ∙ ap (λ (s : ℕ). field s n b) same

  pub joined_lt : joined down a b < 256
  unfolding joined
  joined_lt = or_lt 8 (a / 2 ^ down) (b * 2 ^ up % 2 ^ 8) (omega (arith, shr_le a down)) (mod-lt (b * 2 ^ up) (pow_pos 8))

-- ---- one byte more

pub slid_next : (op : ℕ → ℕ → ℕ) (down : ℕ) (back : Bool) (low high to n : ℕ) (m now : List ℕ) → now ≡ slid op down back low high to n m
    → set now (along back to n) (op (joined down (get_or now (along back low n) 0) (get_or now (along back high n) 0)) (get_or now (along back to n) 0))
    ≡ slid op down back low high to (n + 1) m
unfolding slid
slid_next op down back low high to n m now e = rw (e, add-one)

module _ (op : ℕ → ℕ → ℕ) (down : ℕ) where
  pub length_slid : (back : Bool) (low high to n : ℕ) (m : List ℕ) → length (slid op down back low high to n m) ≡ length m
  unfolding slid
  length_slid back low high to zero m = refl
  length_slid back low high to (suc n) m = length-set (slid op down back low high to n m) _ _ ∙ length_slid back low high to n m

  pub slid_bytes : down < 8 → ((s d : ℕ) → s < 256 → d < 256 → op s d < 256) → (back : Bool) (low high to n : ℕ) (m : List ℕ) → Bytes m
      → Bytes (slid op down back low high to n m)
  unfolding slid
  slid_bytes few fits back low high to zero m bytes = bytes
  slid_bytes few fits back low high to (suc n) m bytes =
      let held = slid_bytes few fits back low high to n m bytes in
      set_bytes (slid op down back low high to n m) _ _ held
      (fits _ _ (joined_lt down _ _ few (held (along back low n))) (held (along back to n)))

  -- ---- the order does not matter

  -- one byte made
  abbrev put : (low high to : ℕ) → List ℕ → List ℕ
  put low high to m = set m to (op (joined down (get_or m low 0) (get_or m high 0)) (get_or m to 0))

  -- two bytes of which neither is read for the other
  put_put : (a b t a' b' t' : ℕ) (m : List ℕ) → (t ≡ t' → ⊥) → (a ≡ t' → ⊥) → (b ≡ t' → ⊥) → (a' ≡ t → ⊥) → (b' ≡ t → ⊥)
      → put a b t (put a' b' t' m) ≡ put a' b' t' (put a b t m)
  put_put a b t a' b' t' m ne na nb na' nb' =
      let v' : ℕ = op (joined down (get_or m a' 0) (get_or m b' 0)) (get_or m t' 0) in
      let v : ℕ = op (joined down (get_or m a 0) (get_or m b 0)) (get_or m t 0) in
      (λ i.
      set (set m t' v') t
      (op (joined down (get_or-set_other m t' a v' 0 na i) (get_or-set_other m t' b v' 0 nb i)) (get_or-set_other m t' t v' 0 ne i)))
      ∙ set_comm m t' t v' v (λ e. ne (sym e))
      ∙ sym
      (λ i.
      set (set m t v) t'
      (op (joined down (get_or-set_other m t a' v 0 na' i) (get_or-set_other m t b' v 0 nb' i)) (get_or-set_other m t t' v 0 (λ e. ne (sym e)) i)))

  -- one byte before the others
  slid_first : (low high to n : ℕ) (m : List ℕ)
      → slid op down false low high to (suc n) m ≡ slid op down false (suc low) (suc high) (suc to) n (put low high to m)
  unfolding slid
  slid_first low high to zero m = rw (add-zero low, add-zero high, add-zero to)
  slid_first low high to (suc n) m =
      let before = slid_first low high to n m in
      let L : low + suc n ≡ suc low + n = omega arith in
      let H : high + suc n ≡ suc high + n = omega arith in
      let T : to + suc n ≡ suc to + n = omega arith in
      λ i. put (L i) (H i) (T i) (before i)

  -- and behind them
  slid_last : (low high to n : ℕ) (m : List ℕ)
      → ((i : ℕ) → i < n → (low ≡ suc to + i → ⊥) × (high ≡ suc to + i → ⊥) × (suc low + i ≡ to → ⊥) × (suc high + i ≡ to → ⊥))
      → put low high to (slid op down false (suc low) (suc high) (suc to) n m) ≡ slid op down false (suc low) (suc high) (suc to) n (put low high to m)
  unfolding slid
  slid_last low high to zero m apart = refl
  slid_last low high to (suc n) m apart =
      let here = apart n (omega arith) in
      let before = slid_last low high to n m (λ i h. apart i (omega arith)) in
      put_put low high to (suc low + n) (suc high + n) (suc to + n) (slid op down false (suc low) (suc high) (suc to) n m)
      (λ e. omega arith) here.0 here.1 here.2 here.3
      ∙ ap (put (suc low + n) (suc high + n) (suc to + n)) before

  above : (x n i : ℕ) → i < n → n ≤ x → suc (x - n) + i ≡ x - (n - suc i)
  above x n i h h' = omega arith

  next : (x n : ℕ) → suc n ≤ x + 1 → x + 1 - n ≡ suc (x - n)
  next x n h = omega arith

  least : (x n : ℕ) → suc n ≤ x + 1 → x - n ≡ x + 1 - suc n
  least x n h = omega arith

  -- back from the highest byte is forth from the lowest
  pub slid_back : (low high to n : ℕ) (m : List ℕ) → n ≤ low + 1 → n ≤ high + 1 → n ≤ to + 1
      → ((i j : ℕ) → i < n → j < n → (low - i ≡ to - j → ⊥) × (high - i ≡ to - j → ⊥))
      → slid op down true low high to n m ≡ slid op down false (low + 1 - n) (high + 1 - n) (to + 1 - n) n m
  unfolding slid
  slid_back low high to zero m a b c apart = refl
  slid_back low high to (suc n) m a b c apart =
      let before = slid_back low high to n m (omega arith) (omega arith) (omega arith) (λ i j h h'. apart i j (omega arith) (omega arith)) in
      let L = next low n a in
      let H = next high n b in
      let T = next to n c in
      let L' = least low n a in
      let H' = least high n b in
      let T' = least to n c in
      ap (put (low - n) (high - n) (to - n)) (before ∙ (λ i. slid op down false (L i) (H i) (T i) n m))
      ∙ slid_last (low - n) (high - n) (to - n) n m (λ i h. others i h)
      ∙ sym (slid_first (low - n) (high - n) (to - n) n m)
      ∙ (λ i. slid op down false (L' i) (H' i) (T' i) (suc n) m)
    where
      others : (i : ℕ) → i < n → (low - n ≡ suc (to - n) + i → ⊥) × (high - n ≡ suc (to - n) + i → ⊥)
          × (suc (low - n) + i ≡ to - n → ⊥) × (suc (high - n) + i ≡ to - n → ⊥)
      others i h =
          let last = apart n (n - suc i) (omega arith) (omega arith) in
          let first = apart (n - suc i) n (omega arith) (omega arith) in
          let L = sym (above low n i h (omega arith)) in
          let H = sym (above high n i h (omega arith)) in
          let T = above to n i h (omega arith) in
          (λ e. last.0 (e ∙ T), λ e. last.1 (e ∙ T), λ e. first.0 (L ∙ e), λ e. first.1 (H ∙ e))
