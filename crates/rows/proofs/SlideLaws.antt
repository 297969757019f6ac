-- The pixels of whole bytes of a lane, taken from elsewhere in theirs, are bytes joined of two, one after another.
use Rattle.std.proofs.Common.{◌≡◌, ℕ, zero, suc, ◌+◌, ◌-◌, ◌*◌, ◌/◌, ◌<◌, ◌≤◌, Bool, true, false, not, List, length, get_or, set, sym, refl, ap, ◌∙◌, suc-mul, zero-mul, arith}
use Rattle.numbers.specs.Choose.{choose}
use Rattle.numbers.proofs.Choices.{choose_either}
use Rattle.pixels.specs.Maps.{bits_of}
use Rattle.pixels.specs.Inner.{place_at}
use Rattle.rows.specs.declared.Lane.{Lane}
use Rattle.rows.specs.Inner.{Alike, along, Reach, swept, swept_from, onward, First, from_top, Apart, joined, slid, Turned, source_end}
use Rattle.rows.proofs.LaneLaws.{along_along, along_none, first_passed}
use Rattle.rows.proofs.ByteLaws.{Bytes, per_some, all_in, all_put}
use Rattle.rows.proofs.SweepLaws.{swept_add, bytes_on}
use Rattle.rows.proofs.LiesLaws.{before_end, room, place_further, place_along, place_reach}
use Rattle.rows.proofs.JoinLaws.{joined_lt, length_slid, slid_bytes, slid_back}
use Rattle.rows.proofs.ApartLaws.{apart_onward, turned_onward}
use Rattle.rows.proofs.GatherLaws.{gathered, swept_gathered}

-- ---- where whole bytes lie

-- the number of the first or the last pixel of a byte
abbrev end_at : Bool → (format : ℕ) → ℕ
end_at last format = choose last (8 / bits_of format - 1) 0

end_lt : (last : Bool) (format : ℕ) → end_at last format < 8 / bits_of format
end_lt last format = let some = per_some format in choose_either (λ (i : ℕ). i < 8 / bits_of format) last (omega arith) (omega arith)

module _ (l : Lane) (size count c : ℕ) (h : Apart l count size) (some : 0 < c) (few : c * (8 / bits_of l.format) ≤ count) where
  abbrev P : ℕ
  P = place_at l.format l.destination l.to

  -- the ends of a byte are pixels of the lane
  inside : (i : ℕ) → i < c → (last : Bool) → i * (8 / bits_of l.format) + end_at last l.format < count
  inside i less last = before_end l.format i (end_at last l.format) c count less (end_lt last l.format) few

  end_in : (last : Bool) → end_at last l.format < count
  end_in last = let here = inside 0 some last in omega (arith, here)

  pub source_reach : (last : Bool) → Reach l.back (source_end l last (8 / bits_of l.format)) c size
  source_reach last =
      place_reach l.back l.format l.source l.from count h.from size h.source (end_at last l.format) c
      (end_in last) (λ i less. inside i less last)

  pub destination_reach : Reach l.back P c size
  destination_reach =
      rw (along_none l.back l.to) at
      (place_reach l.back l.format l.destination l.to count h.to size h.destination 0 c (end_in false) (λ i less. inside i less false))

  -- none of them is read for another
  ends_apart : (last : Bool) (i j : ℕ) → i < c → j < c
      → along l.back (source_end l last (8 / bits_of l.format)) i ≡ along l.back P j → ⊥
  ends_apart last i j less less' e =
      let a = inside i less last in
      let b = inside j less' false in
      let here = place_along l.back l.format l.source l.from count h.from (end_at last l.format) i a in
      let there = place_along l.back l.format l.destination l.to count h.to 0 j b in
      let first = ap (λ (n : ℕ). along l.back (place_at l.format l.destination n) j) (along_none l.back l.to) in
      h.apart _ _ a b (here ∙ e ∙ sym first ∙ sym there)

  -- so they can be made from the lowest on
  pub slid_lowest : (op : ℕ → ℕ → ℕ) (down : ℕ) (m : List ℕ) (last : Bool)
      → let low = source_end l last (8 / bits_of l.format) in
      let high = source_end l (not last) (8 / bits_of l.format) in
      slid op down false (choose l.back (low + 1 - c) low) (choose l.back (high + 1 - c) high) (choose l.back (P + 1 - c) P) c m
      ≡ slid op down l.back low high P c m
  slid_lowest op down m last =
      by l.back _ _ P (source_reach last) (source_reach (not last)) destination_reach
      (λ i j less less'. (ends_apart last i j less less', ends_apart (not last) i j less less'))
    where
      by : (back : Bool) (low high to : ℕ) → Reach back low c size → Reach back high c size → Reach back to c size
          → ((i j : ℕ) → i < c → j < c → (along back low i ≡ along back to j → ⊥) × (along back high i ≡ along back to j → ⊥))
          → slid op down false (choose back (low + 1 - c) low) (choose back (high + 1 - c) high) (choose back (to + 1 - c) to) c m
          ≡ slid op down back low high to c m
      by true low high to a b d apart = sym (slid_back op down low high to c m a.0 b.0 d.0 apart)
      by false low high to a b d apart = refl

-- ---- what they are

module _ (op whole : ℕ → ℕ → ℕ) (fits : (s d : ℕ) → s < 256 → d < 256 → whole s d < 256) where
  -- one byte
  swept_joined : (l : Lane) → Alike l.format op whole → (size down : ℕ) → Apart l (8 / bits_of l.format) size → Turned l down
      → First l.back l.format l.to → (m : List ℕ) → Bytes m → length m ≡ size
      → let J = place_at l.format l.destination l.to in
      swept op l (8 / bits_of l.format) m ≡ set m J (whole (gathered l down (8 / bits_of l.format) m) (get_or m J 0))
  swept_joined l alike size down h turned first m bytes long =
      let J = place_at l.format l.destination l.to in
      swept_gathered l size (8 / bits_of l.format) 0 down h turned (first_passed l.back l.format l.to first) (all_in l.format) m bytes
      op whole alike long (per_some l.format)
      ∙ ap (set m J)
      (all_put (from_top l.back l.format) l.format (get_or m J 0) _ (bytes J) (fits _ _ (joined_lt down _ _ turned.few (bytes _)) (bytes J)))

  module _ (l : Lane) (alike : Alike l.format op whole) (size count down : ℕ) (h : Apart l count size) (turned : Turned l down)
      (first : First l.back l.format l.to) (m : List ℕ) (bytes : Bytes m) (long : length m ≡ size) where
    abbrev per' : ℕ
    per' = 8 / bits_of l.format

    abbrev t : Bool
    t = from_top l.back l.format

    abbrev J : ℕ
    J = place_at l.format l.destination l.to

    -- an end of a later byte
    end_along : (last : Bool) (c : ℕ) → suc c * per' ≤ count → source_end (onward l (c * per')) last per' ≡ along l.back (source_end l last per') c
    end_along last c few =
        ap (place_at l.format l.source) (along_along l.back l.from (c * per') (end_at last l.format))
        ∙ place_along l.back l.format l.source l.from count h.from (end_at last l.format) c
        (before_end l.format c (end_at last l.format) (suc c) count (omega arith) (end_lt last l.format) few)

    pub swept_slid : (c : ℕ) → c * per' ≤ count → swept op l (c * per') m ≡ slid whole down l.back (source_end l t per') (source_end l (not t) per') J c m
    unfolding swept_from slid
    swept_slid zero few = rw (zero-mul per')
    swept_slid (suc c) few =
        let all = suc-mul c per' in
        let some = per_some l.format in
        let L = source_end l t per' in
        let H = source_end l (not t) per' in
        let before = swept_slid c (omega arith) in
        let M : List ℕ = slid whole down l.back L H J c m in
        let B = slid_bytes whole down turned.few fits l.back L H J c m bytes in
        let enough = room l.back l.format l.to 0 c count h.to (omega arith) in
        let enough' : l.back ≡ true → c * 8 ≤ l.to * bits_of l.format = (λ back. rw (along_none l.back l.to) at (enough back)) in
        let A = place_further l.back l.format l.destination l.to c enough' in
        let E = end_along t c few in
        let E' = end_along (not t) c few in
        ap (λ (k : ℕ). swept op l k m) all
        ∙ swept_add op l (c * per') per' m
        ∙ ap (swept op (onward l (c * per')) per') before
        ∙ swept_joined (onward l (c * per')) alike size down (apart_onward l size (c * per') per' count some (omega arith) h)
        (turned_onward l size (c * per') count down (omega arith) h turned) (bytes_on l.back l.format l.to c first enough').1 M B
        (length_slid whole down l.back L H J c m ∙ long)
        ∙ (λ j. set M (A j) (whole (joined down (get_or M (E j) 0) (get_or M (E' j) 0)) (get_or M (A j) 0)))
