-- The pixels of a byte, one after another, are the byte at once: each is a field that the others leave alone, and a byte is told by its fields.
use Rattle.std.proofs.Common.{◌≡◌, ℕ, zero, suc, ◌+◌, ◌-◌, ◌*◌, ◌/◌, ◌%◌, ◌^◌, ◌<◌, ◌≤◌, Bool, true, false, ◌⊎◌, List, get_or, sym, refl, ap, ◌∙◌, inl, inr, ⊎_elim, mul-le-mul_right, mod-eq_of_lt, suc-mul, add-mul, zero-mul, arith, pow_pos}
use Rattle.numbers.specs.Choose.{choose}
use Rattle.numbers.specs.Fields.{field, with_field}
use Rattle.numbers.proofs.Choices.{choose_either}
use Rattle.numbers.proofs.Fields.{field_with_same, field_with_other, field_with_field, with_field_lt}
use Rattle.numbers.proofs.Order.{lt_or_le}
use Rattle.pixels.specs.Maps.{bits_of, is_motorola}
use Rattle.pixels.specs.Inner.{place_at, shift_at}
use Rattle.pixels.proofs.Maps.{by_size_lem}
use Rattle.pixels.proofs.Bytes.{full, byte_told}
use Rattle.rows.specs.Inner.{Alike, edge_from}
use Rattle.rows.proofs.LaneLaws.{shift_from, ends_within}

-- ---- one byte, field by field

-- a byte's pixels counted from the other end
top : (format i : ℕ) → i * bits_of format < 8 → 8 - bits_of format - i * bits_of format ≡ (8 / bits_of format - 1 - i) * bits_of format
unfolding bits_of
top format i =
    by_size_lem (λ (k : ℕ). i * 2 ^ k < 8 → 8 - 2 ^ k - i * 2 ^ k ≡ (8 / 2 ^ k - 1 - i) * 2 ^ k)
    (λ few. omega arith) (λ few. omega arith) (λ few. omega arith) (λ few. omega arith) format

pub bits_some : (format : ℕ) → 0 < bits_of format
unfolding bits_of
bits_some format = pow_pos (format % 4)

pub per_some : (format : ℕ) → 0 < 8 / bits_of format
unfolding bits_of
per_some = by_size_lem (λ (k : ℕ). 0 < 8 / 2 ^ k) (omega arith) (omega arith) (omega arith) (omega arith)

-- fewer pixels than a byte has begin in it
pub begins : (format a k : ℕ) → a < k → k * bits_of format ≤ 8 → a * bits_of format < 8
begins format a k less few = omega (arith, mul-le-mul_right (bits_of format) less, suc-mul a (bits_of format), bits_some format)

-- pixels of one byte, passed and made, by their bits and by their number
pub edge_bits : (format g k : ℕ) → (g + k) * bits_of format ≤ 8 → (g * bits_of format + k * bits_of format ≤ 8) × (g + k ≤ 8)
unfolding bits_of
edge_bits format g k few = (
  rw (add-mul g k (bits_of format)) at few,
  by_size_lem (λ (n : ℕ). (g + k) * 2 ^ n ≤ 8 → g + k ≤ 8)
      (λ few. omega arith) (λ few. omega arith) (λ few. omega arith) (λ few. omega arith) format few,
)

pub edge_low : (t : Bool) (format g k : ℕ) → (g + k) * bits_of format ≤ 8 → edge_from t (bits_of format) g k + k * bits_of format ≤ 8
edge_low true format g k few = let all = (edge_bits format g k few).0 in omega (arith, add-mul g k (bits_of format))
edge_low false format g k few = (edge_bits format g k few).0

module _ (t : Bool) (format : ℕ) (op whole : ℕ → ℕ → ℕ) (alike : Alike format op whole) (g S b : ℕ) (byte : b < 256) where
  abbrev bits : ℕ
  bits = bits_of format

  abbrev sh : ℕ → ℕ
  sh i = shift_from t (bits_of format) i

  -- the byte with i pixels made, after those that are passed
  unfoldable pub part : ℕ → ℕ
  part zero = b
  part (suc i) = with_field (sh (g + i)) bits (op (field (sh (g + i)) bits S) (field (sh (g + i)) bits b)) (part i)

  apart : (i j : ℕ) → i < j → j * bits < 8 → (sh j + bits ≤ sh i) ⊎ (sh i + bits ≤ sh j)
  unfolding bits_of
  apart i j less =
      by_size_lem (λ (k : ℕ). j * 2 ^ k < 8 → (shift_from t (2 ^ k) j + 2 ^ k ≤ shift_from t (2 ^ k) i) ⊎ (shift_from t (2 ^ k) i + 2 ^ k ≤ shift_from t (2 ^ k) j))
      (λ few. by t 1 (omega arith) (omega arith)) (λ few. by t 2 (omega arith) (omega arith))
      (λ few. by t 4 (omega arith) (omega arith)) (λ few. by t 8 (omega arith) (omega arith)) format
    where
      by : (t : Bool) (n : ℕ) → i * n + n ≤ j * n → j * n + n ≤ 8 → (shift_from t n j + n ≤ shift_from t n i) ⊎ (shift_from t n i + n ≤ shift_from t n j)
      by true n before within = inl (omega arith)
      by false n before within = inr (omega arith)

  pub untouched : (i j : ℕ) → g + i ≤ j → j * bits < 8 → field (sh j) bits (part i) ≡ field (sh j) bits b
  unfolding part
  untouched zero j h few = refl
  untouched (suc i) j h few =
      field_with_other (sh (g + i)) bits _ (part i) (sh j) bits (apart (g + i) j (omega arith) few) ∙ untouched i j (omega arith) few

  passed : (i j : ℕ) → j < g → ((k : ℕ) → k < g + i → k * bits < 8) → field (sh j) bits (part i) ≡ field (sh j) bits b
  unfolding part
  passed zero j h few = refl
  passed (suc i) j h few =
      field_with_other (sh (g + i)) bits _ (part i) (sh j) bits
      (⊎_elim (λ p. inr p) (λ p. inl p) (apart j (g + i) (omega arith) (few (g + i) (omega arith))))
      ∙ passed i j h (λ k h. few k (omega arith))

  touched : (i j : ℕ) → g ≤ j → j < g + i → ((k : ℕ) → k < g + i → k * bits < 8)
      → field (sh j) bits (part i) ≡ op (field (sh j) bits S) (field (sh j) bits b) % 2 ^ bits
  unfolding part
  touched zero j low h few = absurd (omega arith)
  touched (suc i) j low h few =
      ⊎_elim
      (λ (less : j < g + i).
      field_with_other (sh (g + i)) bits _ (part i) (sh j) bits
      (⊎_elim (λ p. inr p) (λ p. inl p) (apart j (g + i) less (few (g + i) (omega arith))))
      ∙ touched i j low less (λ k h. few k (omega arith)))
      (λ (more : g + i ≤ j). let same : j ≡ g + i = omega arith in rw same (field_with_same (sh (g + i)) bits _ (part i))) (lt_or_le j (g + i))

  within : (t : Bool) (i : ℕ) → i * bits < 8 → shift_from t bits i + bits ≤ 8
  within true i few = let ends = ends_within format i few in omega arith
  within false i few = ends_within format i few

  part_lt : (i : ℕ) → ((k : ℕ) → k < g + i → k * bits < 8) → part i < 256
  unfolding part
  part_lt zero few = byte
  part_lt (suc i) few =
      with_field_lt (sh (g + i)) bits _ (part i) 8 (within t (g + i) (few (g + i) (omega arith))) (part_lt i (λ k h. few k (omega arith)))

  -- the fields of the byte that is made at once
  pub whole_field : (t : Bool) (i : ℕ) → i * bits < 8
      → field (shift_from t bits i) bits (whole S b) ≡ op (field (shift_from t bits i) bits S) (field (shift_from t bits i) bits b) % 2 ^ bits
  whole_field false i few = alike i S b few
  whole_field true i few =
      let other : shift_from true bits i ≡ (8 / bits - 1 - i) * bits = top format i few in
      rw other (alike (8 / bits - 1 - i) S b (rw other at (below (bits_some format))))
    where
      below : 0 < bits → 8 - bits - i * bits < 8
      below more = omega arith

  -- so many pixels, and where each lies
  module _ (k : ℕ) (few : (g + k) * bits ≤ 8) where
    all : (g + k) * bits ≡ g * bits + k * bits
    all = add-mul g k bits

    edge : ℕ
    edge = with_field (edge_from t bits g k) (k * bits) (field (edge_from t bits g k) (k * bits) (whole S b)) b

    fits : (i : ℕ) → i < g + k → i * bits < 8
    fits i less = begins format i (g + k) less few

    -- a pixel that is made
    inside : (t : Bool) (j : ℕ) → g ≤ j → j < g + k → (edge_from t bits g k ≤ shift_from t bits j) × (shift_from t bits j + bits ≤ edge_from t bits g k + k * bits)
    inside true j more less =
        let a = mul-le-mul_right bits more in
        let c = mul-le-mul_right bits less in
        (omega (arith, all, suc-mul j bits), omega (arith, all, suc-mul j bits))
    inside false j more less =
        let a = mul-le-mul_right bits more in
        let c = mul-le-mul_right bits less in
        (a, omega (arith, all, suc-mul j bits))

    -- a pixel before
    before : (t : Bool) (j : ℕ) → j < g → (shift_from t bits j + bits ≤ edge_from t bits g k) ⊎ (edge_from t bits g k + k * bits ≤ shift_from t bits j)
    before true j less = let a = mul-le-mul_right bits less in inr (omega (arith, all, suc-mul j bits))
    before false j less = let a = mul-le-mul_right bits less in inl (omega (arith, suc-mul j bits))

    -- a pixel behind
    behind : (t : Bool) (j : ℕ) → g + k ≤ j → j * bits < 8
        → (shift_from t bits j + bits ≤ edge_from t bits g k) ⊎ (edge_from t bits g k + k * bits ≤ shift_from t bits j)
    behind true j more small = let a = mul-le-mul_right bits more in let e = ends_within format j small in inl (omega (arith, all))
    behind false j more small = let a = mul-le-mul_right bits more in inr (omega (arith, all))

    field_same : (j : ℕ) → j * bits < 8 → field (sh j) bits (part k) ≡ field (sh j) bits edge
    unfolding edge
    field_same j small =
        ⊎_elim
        (λ (less : j < g). passed k j less fits ∙ sym (field_with_other (edge_from t bits g k) (k * bits) _ b (sh j) bits (before t j less)))
        (λ (more : g ≤ j).
        ⊎_elim
        (λ (less : j < g + k).
        let where' = inside t j more less in
        touched k j more less fits ∙ sym (whole_field t j small)
        ∙ sym (field_with_field (edge_from t bits g k) (k * bits) b (whole S b) (sh j) bits where'.0 where'.1))
        (λ (end : g + k ≤ j). untouched k j end small ∙ sym (field_with_other (edge_from t bits g k) (k * bits) _ b (sh j) bits (behind t j end small)))
        (lt_or_le j (g + k)))
        (lt_or_le j g)

    pub part_edge : part k ≡ with_field (edge_from t bits g k) (k * bits) (field (edge_from t bits g k) (k * bits) (whole S b)) b
    unfolding edge
    part_edge =
        byte_told t (part k) edge (part_lt k fits) (with_field_lt (edge_from t bits g k) (k * bits) _ b 8 (edge_low t format g k few) byte) format field_same

-- ---- all of a byte

-- every byte of a memory is one
abbrev pub Bytes : List ℕ → Type 0
Bytes m = (j : ℕ) → get_or m j 0 < 256

-- a byte is its only field of 8 bits
pub byte_field : (b : ℕ) → b < 256 → field 0 8 b ≡ b
unfolding field
byte_field b small = omega arith

pub byte_with : (v b : ℕ) → b < 256 → with_field 0 8 v b ≡ v % 256
unfolding with_field
byte_with v b small = omega arith

-- and lies there alone
pub byte_place : (format base y : ℕ) → bits_of format ≡ 8 → place_at format base y ≡ base + y
byte_place format base y eight = let whole : base + y * 8 / 8 ≡ base + y = omega arith in ap (λ (b : ℕ). base + y * b / 8) eight ∙ whole

pub byte_shift : (format y : ℕ) → bits_of format ≡ 8 → shift_at format y ≡ 0
byte_shift format y eight =
    (λ j. choose (is_motorola format) (8 - eight j - y * eight j % 8) (y * eight j % 8))
    ∙ choose_either (λ (x : ℕ). x ≡ 0) (is_motorola format) (omega arith) (omega arith)

-- a byte with all its pixels put is the one that they are of
pub all_put : (t : Bool) (format b W : ℕ) → b < 256 → W < 256
    → let per = 8 / bits_of format in
    let low = edge_from t (bits_of format) 0 per in with_field low (per * bits_of format) (field low (per * bits_of format) W) b ≡ W
all_put t format b W small small' =
    let eight : 8 / bits_of format * bits_of format ≡ 8 = full format in
    let start = by t (ap (λ (k : ℕ). k * bits_of format) nought ∙ eight) in
    (λ j. with_field (start j) (eight j) (field (start j) (eight j) W) b)
    ∙ byte_with (field 0 8 W) b small
    ∙ ap (λ (v : ℕ). v % 256) (byte_field W small')
    ∙ mod-eq_of_lt small'
  where
    nought : 0 + 8 / bits_of format ≡ 8 / bits_of format
    nought = omega arith

    by : (t : Bool) → (0 + 8 / bits_of format) * bits_of format ≡ 8 → edge_from t (bits_of format) 0 (8 / bits_of format) ≡ 0
    by true all = omega arith
    by false all = zero-mul (bits_of format)

-- as many as a byte has, and none before, are in it
pub all_in : (format : ℕ) → (0 + 8 / bits_of format) * bits_of format ≤ 8
all_in format = omega (arith, full format, add-mul 0 (8 / bits_of format) (bits_of format), zero-mul (bits_of format))
