-- The pixels of a lane that lie in one byte, one after another, are one field of it: each takes a field that no other changes.
use Rattle.std.proofs.Common.{◌≡◌, ℕ, zero, suc, ◌+◌, ◌*◌, ◌/◌, ◌<◌, ◌≤◌, Bool, List, length, get_or, set, sym, ap, ◌∙◌, ⊎_elim, arith, get_or-set_other, get_or-set_same, set-set}
use lib.Seq.{set-get_or}
use Rattle.numbers.specs.Fields.{field, with_field}
use Rattle.numbers.proofs.Order.{eq_or_ne}
use Rattle.pixels.specs.Maps.{bits_of}
use Rattle.pixels.specs.Inner.{place_at, shift_at}
use Rattle.rows.specs.declared.Lane.{Lane}
use Rattle.rows.specs.Inner.{Alike, along, pixel_no, swept, swept_from, First, Passed, from_top, edge_from}
use Rattle.rows.proofs.LaneLaws.{shift_from, first_passed, in_byte_of, shift_of_lem}
use Rattle.rows.proofs.ByteLaws.{Bytes, begins, part, untouched, part_edge, all_put, all_in}

-- pixels of one byte, of which so many are passed, each made of the field of a number that lies as it does, and itself
module _ (op whole : ℕ → ℕ → ℕ) (l : Lane) (alike : Alike l.format op whole) (m : List ℕ) (bytes : Bytes m) (g k S : ℕ)
    (to : Passed l.back l.format l.to g) (few : (g + k) * bits_of l.format ≤ 8) (held : place_at l.format l.destination l.to < length m) where
  abbrev J : ℕ
  J = place_at l.format l.destination l.to

  abbrev n : ℕ
  n = bits_of l.format

  abbrev top? : Bool
  top? = from_top l.back l.format

  abbrev up : ℕ → ℕ
  up i = shift_from top? n (g + i)

  abbrev made : ℕ → ℕ
  made i = part top? l.format op whole alike g S (get_or m J 0) (bytes J) i

  within_byte : (i : ℕ) → i < k → (g + i) * n < 8
  within_byte i less = begins l.format (g + i) (g + k) (omega arith) few

  -- where they lie
  pub place_in : (i : ℕ) → i < k → place_at l.format l.destination (along l.back l.to i) ≡ J
  place_in i less = ap (λ (q : ℕ). l.destination + q) (in_byte_of l.format l.to g i (within_byte i less) l.back to).0

  pub shift_in : (i : ℕ) → i < k → shift_at l.format (along l.back l.to i) ≡ up i
  shift_in i less = shift_of_lem l.format l.to g i (within_byte i less) l.back to

  -- each is as it was until it is made
  as_it_was : (i : ℕ) → i < k → field (up i) n (get_or (set m J (made i)) J 0) ≡ field (up i) n (get_or m J 0)
  as_it_was i less =
      ap (field (up i) n) (get_or-set_same m J (made i) 0 held)
      ∙ untouched top? l.format op whole alike g S (get_or m J 0) (bytes J) i (g + i) (omega arith) (within_byte i less)

  module _ (taken : (i : ℕ) → i < k → pixel_no l.format l.source (along l.back l.from i) (set m J (made i)) ≡ field (up i) n S) where
    swept_part : (i : ℕ) → i ≤ k → swept op l i m ≡ set m J (made i)
    unfolding swept_from part
    swept_part zero fewer = sym (set-get_or m J 0)
    swept_part (suc i) less =
        let before = swept_part i (omega arith) in
        let P = place_in i (omega arith) in
        let Q = shift_in i (omega arith) in
        let s = taken i (omega arith) in
        let d = as_it_was i (omega arith) in
        let b = get_or-set_same m J (made i) 0 held in
        (λ j.
        set (before j) (P j)
        (with_field (Q j) n
        (op (pixel_no l.format l.source (along l.back l.from i) (before j)) (field (Q j) n (get_or (before j) (P j) 0))) (get_or (before j) (P j) 0)))
        ∙ set-set m J (made i) _
        ∙ (λ j. set m J (with_field (up i) n (op (s j) (d j)) (b j)))

    -- so many of them are one field
    pub swept_taken : let low = edge_from top? n g k in
        swept op l k m ≡ set m J (with_field low (k * n) (field low (k * n) (whole S (get_or m J 0))) (get_or m J 0))
    swept_taken = swept_part k (omega arith) ∙ ap (set m J) (part_edge top? l.format op whole alike g S (get_or m J 0) (bytes J) k few)

-- those that come from pixels in their phase take the fields of the byte of these, which may be their own
module _ (op whole : ℕ → ℕ → ℕ) (l : Lane) (alike : Alike l.format op whole) (m : List ℕ) (bytes : Bytes m) (g : ℕ)
    (from : Passed l.back l.format l.from g) (to : Passed l.back l.format l.to g)
    (held : place_at l.format l.destination l.to < length m) (k : ℕ) (few : (g + k) * bits_of l.format ≤ 8) where
  abbrev S : ℕ
  S = get_or m (place_at l.format l.source l.from) 0

  taken : (i : ℕ) → i < k
      → pixel_no l.format l.source (along l.back l.from i)
      (set m (J op whole l alike m bytes g k S to few held) (made op whole l alike m bytes g k S to few held i))
      ≡ field (up op whole l alike m bytes g k S to few held i) (bits_of l.format) S
  taken i less =
      let n = bits_of l.format in
      let J = place_at l.format l.destination l.to in
      let J' = place_at l.format l.source l.from in
      let sh = shift_from (from_top l.back l.format) n (g + i) in
      let now = set m J (made op whole l alike m bytes g k S to few held i) in
      let fits = begins l.format (g + i) (g + k) (omega arith) few in
      let P = ap (λ (q : ℕ). l.source + q) (in_byte_of l.format l.from g i fits l.back from).0 in
      let Q = shift_of_lem l.format l.from g i fits l.back from in
      (λ j. field (Q j) n (get_or now (P j) 0))
      ∙ ⊎_elim
      (λ (same : J' ≡ J).
      ap (λ (q : ℕ). field sh n (get_or now q 0)) same
      ∙ as_it_was op whole l alike m bytes g k S to few held i less
      ∙ ap (λ (q : ℕ). field sh n (get_or m q 0)) (sym same))
      (λ ne. ap (field sh n) (get_or-set_other m J J' _ 0 ne)) (eq_or_ne J' J)

  pub swept_edge : let n = bits_of l.format in
      let J = place_at l.format l.destination l.to in
      let low = edge_from (from_top l.back l.format) n g k in
      swept op l k m ≡ set m J (with_field low (k * n) (field low (k * n) (whole S (get_or m J 0))) (get_or m J 0))
  swept_edge = swept_taken op whole l alike m bytes g k S to few held taken

-- and all pixels of a byte are the byte
pub swept_byte : (op whole : ℕ → ℕ → ℕ) (l : Lane) → Alike l.format op whole → (m : List ℕ) → Bytes m
    → First l.back l.format l.from → First l.back l.format l.to → place_at l.format l.destination l.to < length m
    → let J = place_at l.format l.destination l.to in
    let J' = place_at l.format l.source l.from in
    whole (get_or m J' 0) (get_or m J 0) < 256 → swept op l (8 / bits_of l.format) m ≡ set m J (whole (get_or m J' 0) (get_or m J 0))
swept_byte op whole l alike m bytes from to held made =
    let J = place_at l.format l.destination l.to in
    swept_edge op whole l alike m bytes 0 (first_passed l.back l.format l.from from) (first_passed l.back l.format l.to to) held
    (8 / bits_of l.format) (all_in l.format)
    ∙ ap (set m J) (all_put (from_top l.back l.format) l.format (get_or m J 0) _ (bytes J) made)
