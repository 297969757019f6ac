-- Bytes made one after another: their number stays, bytes stay bytes, and where none is read but itself the order does not matter.
use Rattle.std.proofs.Common.{◌≡◌, ℕ, zero, suc, ◌+◌, ◌-◌, ◌^◌, ◌<◌, ◌≤◌, Bool, true, false, List, length, get_or, set, sym, refl, ap, ◌∙◌, ⊎_elim, mod-eq_of_lt, add-one, arith, length-set, get_or-set_other, get_or-set_same}
use lib.Bits.{bit_and, bit_xor, xor_lt, and_lt, and_mask, and_comm, and_zero_l, and_zero_r, xor_zero_l, xor_zero_r, xor_comm}
use lib.Seq.{set_comm, set_out}
use Rattle.numbers.specs.Choose.{choose}
use Rattle.numbers.proofs.Fields.{xor_twice}
use Rattle.numbers.proofs.Order.{lt_or_le, eq_or_ne}
use Rattle.mixes.proofs.Binary.{ones_suc}
use Rattle.mixes.proofs.Bitwise.{Bitwise, mask, source, destination, and, xor, agree_all}
use Rattle.mixes.specs.declared.logical.Blend.{Blend}
use Rattle.rows.specs.Inner.{wholly, along, changed, carried}
use Rattle.rows.proofs.ByteLaws.{Bytes}

-- ---- one byte more

pub changed_next : (f : ℕ → ℕ → ℕ) (at n : ℕ) (m now : List ℕ) → now ≡ changed f at n m
    → set now (at + n) (f n (get_or now (at + n) 0)) ≡ changed f at (n + 1) m
unfolding changed
changed_next f at n m now e = rw (e, add-one)

pub carried_next : (op : ℕ → ℕ → ℕ) (back : Bool) (from to n : ℕ) (m now : List ℕ) → now ≡ carried op back from to n m
    → set now (along back to n) (op (get_or now (along back from n) 0) (get_or now (along back to n) 0)) ≡ carried op back from to (n + 1) m
unfolding carried
carried_next op back from to n m now e = rw (e, add-one)

-- ---- what stays

pub length_carried : (op : ℕ → ℕ → ℕ) (back : Bool) (from to n : ℕ) (m : List ℕ) → length (carried op back from to n m) ≡ length m
unfolding carried
length_carried op back from to zero m = refl
length_carried op back from to (suc n) m = length-set (carried op back from to n m) _ _ ∙ length_carried op back from to n m

pub set_bytes : (m : List ℕ) (i v : ℕ) → Bytes m → v < 256 → Bytes (set m i v)
set_bytes m i v bytes small j =
    ⊎_elim
    (λ (same : j ≡ i).
    ⊎_elim (λ (held : i < length m). rw (same, get_or-set_same m i v 0 held) small) (λ out. rw (set_out m i v out) (bytes j)) (lt_or_le i (length m)))
    (λ ne. rw (get_or-set_other m i j v 0 ne) (bytes j)) (eq_or_ne j i)

pub carried_bytes : (op : ℕ → ℕ → ℕ) → ((s d : ℕ) → s < 256 → d < 256 → op s d < 256) → (back : Bool) (from to n : ℕ) (m : List ℕ) → Bytes m
    → Bytes (carried op back from to n m)
unfolding carried
carried_bytes op fits back from to zero m bytes = bytes
carried_bytes op fits back from to (suc n) m bytes =
    let held = carried_bytes op fits back from to n m bytes in
    set_bytes (carried op back from to n m) _ _ held (fits _ _ (held (along back from n)) (held (along back to n)))

pub changed_bytes : (f : ℕ → ℕ → ℕ) → ((i d : ℕ) → d < 256 → f i d < 256) → (at n : ℕ) (m : List ℕ) → Bytes m → Bytes (changed f at n m)
unfolding changed
changed_bytes f fits at zero m bytes = bytes
changed_bytes f fits at (suc n) m bytes =
    let held = changed_bytes f fits at n m bytes in
    set_bytes (changed f at n m) _ _ held (fits n _ (held (at + n)))

-- a byte that is none of them
pub changed_other : (f : ℕ → ℕ → ℕ) (at n j : ℕ) (m : List ℕ) → ((i : ℕ) → i < n → j ≡ at + i → ⊥)
    → get_or (changed f at n m) j 0 ≡ get_or m j 0
unfolding changed
changed_other f at zero j m apart = refl
changed_other f at (suc n) j m apart =
    get_or-set_other (changed f at n m) (at + n) j _ 0 (apart n (omega arith)) ∙ changed_other f at n j m (λ i h. apart i (omega arith))

-- operations that make the same of bytes
pub carried_same : (op op' : ℕ → ℕ → ℕ) → ((s d : ℕ) → s < 256 → d < 256 → op' s d < 256)
    → ((s d : ℕ) → s < 256 → d < 256 → op s d ≡ op' s d) → (back : Bool) (from to n : ℕ) (m : List ℕ) → Bytes m
    → carried op back from to n m ≡ carried op' back from to n m
unfolding carried
carried_same op op' fits same back from to zero m bytes = refl
carried_same op op' fits same back from to (suc n) m bytes =
    let before = carried_same op op' fits same back from to n m bytes in
    let M : List ℕ = carried op' back from to n m in
    let held = carried_bytes op' fits back from to n m bytes in
    (λ j. set (before j) (along back to n) (op (get_or (before j) (along back from n) 0) (get_or (before j) (along back to n) 0)))
    ∙ ap (set M (along back to n)) (same _ _ (held (along back from n)) (held (along back to n)))

-- ---- bytes that are made of themselves alone

-- one that lies before them can be set after them
changed_before : (f : ℕ → ℕ → ℕ) (at n i v : ℕ) (m : List ℕ) → i < at → changed f at n (set m i v) ≡ set (changed f at n m) i v
unfolding changed
changed_before f at zero i v m h = refl
changed_before f at (suc n) i v m h =
    let before = changed_before f at n i v m h in
    let ne : (at + n ≡ i → ⊥) = λ e. omega arith in
    (λ j. set (before j) (at + n) (f n (get_or (before j) (at + n) 0)))
    ∙ ap (λ (x : ℕ). set (set (changed f at n m) i v) (at + n) (f n x)) (get_or-set_other (changed f at n m) i (at + n) v 0 ne)
    ∙ sym (set_comm (changed f at n m) (at + n) i _ v ne)

-- one byte before the others
changed_first : (f : ℕ → ℕ → ℕ) (at n : ℕ) (m : List ℕ)
    → changed f at (suc n) m ≡ changed (λ i. f (suc i)) (suc at) n (set m at (f 0 (get_or m at 0)))
unfolding changed
changed_first f at zero m = let same : at + 0 ≡ at = omega arith in rw same
changed_first f at (suc n) m =
    let same : at + suc n ≡ suc at + n = omega arith in
    (λ j. set (changed_first f at n m j) (same j) (f (suc n) (get_or (changed_first f at n m j) (same j) 0)))

pub changed_back : (f : ℕ → ℕ → ℕ) (at n : ℕ) (m : List ℕ)
    → let M = changed (λ i. f (suc i)) (suc at) n m in changed f at (suc n) m ≡ set M at (f 0 (get_or M at 0))
changed_back f at n m =
    let M = changed (λ i. f (suc i)) (suc at) n m in
    changed_first f at n m
    ∙ changed_before (λ i. f (suc i)) (suc at) n at (f 0 (get_or m at 0)) m (omega arith)
    ∙ ap (λ (x : ℕ). set M at (f 0 x)) (sym (changed_other (λ i. f (suc i)) (suc at) n at m (λ i h e. omega arith)))

-- the order does not matter
module _ (op : ℕ → ℕ → ℕ) (f : ℕ → ℕ) (alone : (s d : ℕ) → op s d ≡ f d) where
  carried_forth : (from to n : ℕ) (m : List ℕ) → carried op false from to n m ≡ changed (λ i. f) to n m
  unfolding carried changed
  carried_forth from to zero m = refl
  carried_forth from to (suc n) m =
      let before = carried_forth from to n m in
      (λ j. set (before j) (to + n) (op (get_or (before j) (from + n) 0) (get_or (before j) (to + n) 0)))
      ∙ ap (set (changed (λ i. f) to n m) (to + n)) (alone _ _)

  carried_back : (from to n : ℕ) (m : List ℕ) → n ≤ to + 1 → carried op true from to n m ≡ changed (λ i. f) (to + 1 - n) n m
  unfolding carried changed
  carried_back from to zero m h = refl
  carried_back from to (suc n) m h =
      let before = carried_back from to n m (omega arith) in
      let here : to + 1 - suc n ≡ to - n = omega arith in
      let above : to + 1 - n ≡ suc (to - n) = omega arith in
      (λ j. set (before j) (to - n) (op (get_or (before j) (from - n) 0) (get_or (before j) (to - n) 0)))
      ∙ ap (set (changed (λ i. f) (to + 1 - n) n m) (to - n)) (alone _ _)
      ∙ ap (λ (a : ℕ). set (changed (λ i. f) a n m) (to - n) (f (get_or (changed (λ i. f) a n m) (to - n) 0))) above
      ∙ sym (changed_back (λ i. f) (to - n) n m)
      ∙ ap (λ (a : ℕ). changed (λ i. f) a (suc n) m) (sym here)

  pub carried_alone : (back : Bool) (from to n : ℕ) (m : List ℕ) → (back ≡ true → n ≤ to + 1)
      → carried op back from to n m ≡ changed (λ i. f) (choose back (to + 1 - n) to) n m
  carried_alone true from to n m h = carried_back from to n m (h refl)
  carried_alone false from to n m h = carried_forth from to n m

-- ---- blends of bytes

-- masks of a byte
pub record Masks (w : Blend ℕ) : Type 0 where
  pub always : w.always < 256
  pub source : w.source < 256
  pub destination : w.destination < 256
  pub both : w.both < 256

pub wholly_lt : (w : Blend ℕ) → Masks w → (s d : ℕ) → s < 256 → d < 256 → wholly w s d < 256
wholly_lt w h s d hs hd =
    xor_lt 8 d _ hd
    (xor_lt 8 _ _ (xor_lt 8 _ _ h.always (and_lt 8 _ _ h.source hs))
    (and_lt 8 _ _ (xor_lt 8 _ _ h.destination (and_lt 8 _ _ h.both hs)) hd))

-- one that takes nothing of a source turns bits of the destination alone
pub wholly_alone : (w : Blend ℕ) (s d : ℕ) → bit_and w.source s ≡ 0 → bit_and w.both s ≡ 0
    → wholly w s d ≡ bit_xor d (bit_xor w.always (bit_and w.destination d))
wholly_alone w s d none none' =
    let a : bit_xor w.always (bit_and w.source s) ≡ w.always = ap (bit_xor w.always) none ∙ xor_zero_r w.always in
    let b : bit_xor w.destination (bit_and w.both s) ≡ w.destination = ap (bit_xor w.destination) none' ∙ xor_zero_r w.destination in
    λ j. bit_xor d (bit_xor (a j) (bit_and (b j) d))

-- a blend of no source
pub wholly_none : (w : Blend ℕ) (d : ℕ) → wholly w 0 d ≡ bit_xor d (bit_xor w.always (bit_and w.destination d))
wholly_none w d = wholly_alone w 0 d (and_zero_r w.source) (and_zero_r w.both)

ones : Bitwise (λ n m s d. 2 ^ n - 1)
ones = record { none = refl; single = λ m s d. omega arith; step = λ n m s d. ones_suc n }

-- what is not turned where it is 1 is kept
pub kept : (a o d : ℕ) → a < 256 → o < 256 → d < 256 → bit_xor d (bit_xor a (bit_and o d)) ≡ bit_xor a (bit_and (bit_xor o 255) d)
kept = agree_all (xor destination (xor mask (and source destination))) (xor mask (and (xor source ones) destination)) tt 8

-- one that takes all of the source and nothing else is the source
pub wholly_copy : (w : Blend ℕ) → w.always ≡ 0 → w.source ≡ 255 → w.destination ≡ 255 → w.both ≡ 0 → (s d : ℕ) → s < 256 → d < 256 → wholly w s d ≡ s
wholly_copy w none all all' none' s d hs hd =
    let whole : (x : ℕ) → x < 256 → bit_and 255 x ≡ x = λ x h. and_comm 255 x ∙ and_mask x 8 ∙ mod-eq_of_lt h in
    let a : bit_xor w.always (bit_and w.source s) ≡ s =
    (λ j. bit_xor (none j) (bit_and (all j) s)) ∙ ap (bit_xor 0) (whole s hs) ∙ xor_zero_l s in
    let b : bit_and (bit_xor w.destination (bit_and w.both s)) d ≡ d =
    (λ j. bit_and (bit_xor (all' j) (bit_and (none' j) s)) d)
    ∙ ap (λ (x : ℕ). bit_and (bit_xor 255 x) d) (and_zero_l s)
    ∙ ap (λ (x : ℕ). bit_and x d) (xor_zero_r 255)
    ∙ whole d hd in
    (λ j. bit_xor d (bit_xor (a j) (b j))) ∙ ap (bit_xor d) (xor_comm s d) ∙ xor_twice d s
