-- Bytes inked by a pattern that lies apart from them: it stays as it was, so that they can be made in parts.
use Rattle.std.proofs.Common.{◌≡◌, ℕ, zero, suc, ◌+◌, ◌-◌, ◌*◌, ◌/◌, ◌%◌, ◌^◌, ◌<◌, ◌≤◌, not, eqb, ltb, List, length, get_or, set, sym, refl, ap, ◌∙◌, subst, add-zero, add-suc, one-mul, pow-suc, zero-mul, arith, pow_pos, ne_eqb}
use lib.Bits.{bit_and, bit_xor}
use Rattle.numbers.specs.Choose.{choose}
use Rattle.numbers.specs.Fields.{field}
use Rattle.numbers.proofs.Choices.{by_lt}
use Rattle.numbers.proofs.Fields.{field_lt, one_shl}
use Rattle.rows.specs.declared.patterns.Inks.{Inks}
use Rattle.rows.specs.Inner.{changed, inked_by, mirror_of, pattern_at, row_inked, Beside}
use Rattle.rows.proofs.WholeLaws.{masked}
use Rattle.rows.proofs.CarryLaws.{changed_next, changed_other}

-- ---- a bit of a byte

one_bit : (s p : ℕ) → bit_and p (2 ^ s) ≡ field s 1 p * 2 ^ s
one_bit s p =
    let more : 1 + s ≡ suc s = omega arith in
    let next : 2 ^ (1 + s) ≡ 2 ^ s * 2 = ap (λ (x : ℕ). 2 ^ x) more ∙ pow-suc 2 s in
    let one : 2 ^ s ≡ 2 ^ (1 + s) - 2 ^ s = omega arith in
    ap (bit_and p) one ∙ masked s 1 p

-- a test by the mask of a bit is one of its field
pub bit_told : (p s : ℕ) → s < 8 → not (eqb (bit_and p (1 * 2 ^ s % 2 ^ 8)) 0) ≡ eqb (field s 1 p) 1
bit_told p s less =
    ap (λ (b : ℕ). not (eqb (bit_and p b) 0)) (one_shl s 8 less)
    ∙ ap (λ (x : ℕ). not (eqb x 0)) (one_bit s p)
    ∙ by (field s 1 p) (2 ^ s) (field_lt s 1 p) (pow_pos s)
  where
    by : (f q : ℕ) → f < 2 → 0 < q → not (eqb (f * q) 0) ≡ eqb f 1
    by zero q few some = rw (zero-mul q)
    by (suc zero) q few some = rw (one-mul q, ne_eqb q 0 (λ e. omega arith))
    by (suc (suc f)) q few some = absurd (omega arith)

-- ---- bytes changed in parts

changed_add : (f : ℕ → ℕ → ℕ) (at i n : ℕ) (m : List ℕ) → changed f at (i + n) m ≡ changed (λ k. f (i + k)) (at + i) n (changed f at i m)
unfolding changed
changed_add f at i zero m = rw (add-zero i)
changed_add f at i (suc n) m =
    let before = changed_add f at i n m in
    let to : at + (i + n) ≡ at + i + n = omega arith in
    rw (add-suc i n) (λ j. set (before j) (to j) (f (i + n) (get_or (before j) (to j) 0)))

-- changes that are the same
changed_alike : (f g : ℕ → ℕ → ℕ) (at n : ℕ) (m : List ℕ) → ((i d : ℕ) → i < n → f i d ≡ g i d) → changed f at n m ≡ changed g at n m
unfolding changed
changed_alike f g at zero m same = refl
changed_alike f g at (suc n) m same =
    let before = changed_alike f g at n m (λ i d h. same i d (omega arith)) in
    (λ j. set (before j) (at + n) (f n (get_or (before j) (at + n) 0))) ∙ ap (set (changed g at n m) (at + n)) (same n _ (omega arith))

-- ---- where they lie

module _ (source n at count size : ℕ) (h : Beside source n at count size) where
  pub beside_fewer : (c : ℕ) → c ≤ count → Beside source n at c size
  beside_fewer c few =
      record {
        numbers = omega (arith, h.numbers);
        pattern =
            λ j less. h.pattern j (omega arith);
        row = omega (arith, h.row);
        apart =
            λ j q less less'. h.apart j q (omega arith) (omega arith);
      }

  pub beside_part : (i c : ℕ) → i + c ≤ count → Beside source (n + i) (at + i) c size
  beside_part i c few =
      record {
        numbers = omega (arith, h.numbers);
        pattern =
            λ j less. omega (arith, h.pattern (i + j) (omega arith));
        row = omega (arith, h.row);
        apart =
            λ j q less less' e. h.apart (i + j) (i + q) (omega arith) (omega arith) (omega arith);
      }

  -- from where a byte of the pattern begins
  pub beside_whole : (i c : ℕ) → i + c ≤ count → (0 < c → (n + i) % 8 ≡ 0) → Beside (source + (n + i) / 8) 0 (at + i) c size
  beside_whole i c few first =
      let part = beside_part i c few in
      record {
        numbers = omega (arith, part.numbers);
        pattern =
            λ j less. omega (arith, first (omega arith), part.pattern j less);
        row = part.row;
        apart =
            λ j q less less' e. part.apart j q less less' (omega (arith, first (omega arith)));
      }

-- ---- bytes inked

-- where a byte of the pattern begins, it begins there
row_place : (k : Inks) (source n at c : ℕ) (m : List ℕ) → (0 < c → n % 8 ≡ 0) → row_inked k (source + n / 8) 0 at c m ≡ row_inked k source n at c m
row_place k source n at c m first =
    changed_alike _ _ at c m
    (λ i d less.
    let begins = first (omega arith) in
    let place : source + n / 8 + (0 + i) / 8 ≡ source + (n + i) / 8 = omega arith in
    let number : (0 + i) % 8 ≡ (n + i) % 8 = omega arith in
    λ j. inked_by k (field (bit_xor (number j) (mirror_of k)) 1 (get_or m (place j) 0)) d)

module _ (k : Inks) (source n at count : ℕ) (m : List ℕ) (h : Beside source n at count (length m)) where
  pattern_stays : (i j : ℕ) → i ≤ count → j < count
      → pattern_at (mirror_of k) source (n + j) (row_inked k source n at i m) ≡ pattern_at (mirror_of k) source (n + j) m
  pattern_stays i j few less =
      ap (field (bit_xor ((n + j) % 8) (mirror_of k)) 1)
      (changed_other _ at i (source + (n + j) / 8) m (λ q small. h.apart j q less (omega arith)))

  -- one byte more
  pub row_next : (i : ℕ) → i < count → (now : List ℕ) → now ≡ row_inked k source n at i m
      → set now (at + i) (inked_by k (pattern_at (mirror_of k) source (n + i) now) (get_or now (at + i) 0)) ≡ row_inked k source n at (i + 1) m
  row_next i less now e =
      let D : List ℕ = row_inked k source n at i m in
      (λ j. set (e j) (at + i) (inked_by k (pattern_at (mirror_of k) source (n + i) (e j)) (get_or (e j) (at + i) 0)))
      ∙ ap (λ (s : ℕ). set D (at + i) (inked_by k s (get_or D (at + i) 0))) (pattern_stays i i (omega arith) less)
      ∙ changed_next (λ i d. inked_by k (pattern_at (mirror_of k) source (n + i) m) d) at i m D refl

  -- some more
  pub row_more : (i c : ℕ) → i + c ≤ count → (now made : List ℕ) → now ≡ row_inked k source n at i m
      → made ≡ row_inked k source (n + i) (at + i) c now → made ≡ row_inked k source n at (i + c) m
  row_more i c few now made e e' =
      let D : List ℕ = row_inked k source n at i m in
      let next : (q : ℕ) → n + i + q ≡ n + (i + q) = λ q. omega arith in
      e'
      ∙ (λ j. row_inked k source (n + i) (at + i) c (e j))
      ∙ changed_alike _ _ (at + i) c D
      (λ q d less.
      ap (λ (s : ℕ). inked_by k s d)
      (ap (λ (x : ℕ). pattern_at (mirror_of k) source x D) (next q) ∙ pattern_stays i (i + q) (omega arith) (omega arith)))
      ∙ sym (changed_add (λ i d. inked_by k (pattern_at (mirror_of k) source (n + i) m) d) at i c m)

  pub row_whole : (i c : ℕ) → i + c ≤ count → (0 < c → (n + i) % 8 ≡ 0) → (now made : List ℕ) → now ≡ row_inked k source n at i m
      → made ≡ row_inked k (source + (n + i) / 8) 0 (at + i) c now → made ≡ row_inked k source n at (i + c) m
  row_whole i c few first now made e e' = row_more i c few now made e (e' ∙ row_place k source (n + i) (at + i) c now first)

-- one byte more of sixteen, by the bits of two
pub sixteen_next : (k : Inks) (place at i : ℕ) (m now : List ℕ) → i < 16 → now ≡ row_inked k place 0 at i m
    → let pattern = choose (ltb i 8) (get_or m place 0) (get_or m (place + 1) 0) in
    set now (at + i) (inked_by k (field (bit_xor (i % 8) (mirror_of k)) 1 pattern) (get_or now (at + i) 0)) ≡ row_inked k place 0 at (i + 1) m
sixteen_next k place at i m now less e =
    let number : i % 8 ≡ (0 + i) % 8 = omega arith in
    let byte = by_lt (λ (v : ℕ). v ≡ get_or m (place + (0 + i) / 8) 0) i 8
    (λ h. let here : place ≡ place + (0 + i) / 8 = omega arith in ap (λ (q : ℕ). get_or m q 0) here)
    (λ h. let here : place + 1 ≡ place + (0 + i) / 8 = omega arith in ap (λ (q : ℕ). get_or m q 0) here) in
    (λ j. set now (at + i) (inked_by k (field (bit_xor (number j) (mirror_of k)) 1 (byte j)) (get_or now (at + i) 0)))
    ∙ changed_next (λ i d. inked_by k (pattern_at (mirror_of k) place (0 + i) m) d) at i m now e

-- sixteen bytes more, by two bytes of the pattern
module _ (place at count i : ℕ) (less : i < count) where
  here : place + (0 + i * 16) / 8 ≡ place + i * 2
  here = omega arith

  pub sixteens_beside : (size : ℕ) → Beside place 0 at (count * 16) size → Beside (place + i * 2) 0 (at + i * 16) 16 size
  sixteens_beside size h =
      subst (λ (p : ℕ). Beside p 0 (at + i * 16) 16 size) here
      (beside_whole place 0 at (count * 16) size h (i * 16) 16 (omega arith) (λ some. omega arith))

  pub sixteens_next : (k : Inks) (m now made : List ℕ) → Beside place 0 at (count * 16) (length m) → now ≡ row_inked k place 0 at (i * 16) m
      → made ≡ row_inked k (place + i * 2) 0 (at + i * 16) 16 now → made ≡ row_inked k place 0 at ((i + 1) * 16) m
  sixteens_next k m now made h e e' =
      let more : i * 16 + 16 ≡ (i + 1) * 16 = omega arith in
      row_whole k place 0 at (count * 16) m h (i * 16) 16 (omega arith) (λ some. omega arith) now made e
      (e' ∙ ap (λ (p : ℕ). row_inked k p 0 (at + i * 16) 16 now) (sym here))
      ∙ ap (λ (c : ℕ). row_inked k place 0 at c m) more
