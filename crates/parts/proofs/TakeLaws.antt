-- The laws of a register in a write: one that the write does not touch stays, since none of its bytes is covered, and any stays below its bound.
use mathlib.Core.Path.{◌≡◌, refl, ◌∙◌, subst}
use mathlib.Core.Bool.{Bool, true, false, true≢false, and-eq-true_iff}
use mathlib.Core.Logic.{⊎_elim}
use Prim.Native.Nat.{ℕ, ◌+◌, ◌-◌, ◌^◌, ◌≤◌, ◌<◌}
use native.Mathlib.Nat.{mod-lt, mod-eq_of_lt}
use native.Mathlib.Omega.{arith}
use lib.Dec.{leb, ltb}
use lib.IntN.{ℤ}
use lib.Pow.{pow_pos}
use borrow.Author.Tests.{leb-true, ltb-true, le-leb, lt-leb, lt-ltb, le-ltb}
use Rattle.std.specs.Prelude.{Option, Some, None}
use Rattle.std.specs.Option.{MatchOption}
use Rattle.numbers.specs.Bytes.{byte_of, covers, latched}
use Rattle.numbers.specs.declared.bytes.Write.{Write}
use Rattle.numbers.proofs.ByteLaws.{latched_lt, latched_uncovered}
use Rattle.numbers.specs.Choose.{choose}
use Rattle.numbers.proofs.Choices.{choose_either}
use Rattle.numbers.proofs.Order.{lt_or_le}
use Rattle.parts.specs.Registers.{Register, whole, low_bits}
use Rattle.parts.specs.Takes.{touched, taken, taken_onto}

-- ---- a register of one byte

-- a write touches it exactly where it covers that byte
pub touched_one : (at : ℕ) (w : Write) → touched 1 at w ≡ covers w at
unfolding touched covers
touched_one at w =
    ⊎_elim (λ below. rw (le-ltb w.offset (at + 1) (omega arith), lt-leb w.offset at below))
    (λ from.
    rw (lt-ltb w.offset (at + 1) (omega arith), le-leb w.offset at from)
    (⊎_elim (λ inside. rw (lt-ltb at (w.offset + w.length) inside, lt-ltb (at - w.offset) w.length (omega arith)))
    (λ past. rw (le-ltb at (w.offset + w.length) past, le-ltb (at - w.offset) w.length (omega arith)))
    (lt_or_le at (w.offset + w.length))))
    (lt_or_le at w.offset)

-- ---- a register that the write does not touch

module _ (n at : ℕ) (w : Write) (apart : touched n at w ≡ false) where
  -- none of its bytes is covered
  pub uncovered : (k : ℕ) → at ≤ k → k < at + n → covers w k ≡ false
  unfolding touched covers
  uncovered k from to = by (covers w k) refl
    where
      by : (t : Bool) → covers w k ≡ t → covers w k ≡ false
      by false e = e
      by true e =
          let parts = (and-eq-true_iff (leb w.offset k) (ltb (k - w.offset) w.length)).0 e in
          let below : w.offset ≤ k = leb-true _ _ parts.0 in
          let inside : k - w.offset < w.length = ltb-true _ _ parts.1 in
          let before : ltb w.offset (at + n) ≡ true = lt-ltb w.offset (at + n) (omega arith) in
          let after : ltb at (w.offset + w.length) ≡ true = lt-ltb at (w.offset + w.length) (omega arith) in
          absurd (true≢false (simp (before, after) at apart))

  pub latched_apart : (stored : ℕ) → stored < 256 ^ n → latched n at w stored ≡ stored
  latched_apart stored h = latched_uncovered n at w stored uncovered ∙ mod-eq_of_lt h

  pub low_untouched : (bits stored : ℕ) → taken (low_bits bits n at) w stored ≡ stored
  unfolding taken
  low_untouched bits stored = rw apart

-- a register that lies in a part of the bank which the write does not touch stays
module _ (n at : ℕ) (w : Write) (apart : touched n at w ≡ false) (r : Register) (from : at ≤ r.at) (to : r.at + r.bytes ≤ at + n) where
  part_untouched : touched r.bytes r.at w ≡ false
  unfolding touched
  part_untouched = by (touched r.bytes r.at w) refl
    where
      by : (t : Bool) → touched r.bytes r.at w ≡ t → touched r.bytes r.at w ≡ false
      by false e = e
      by true e =
          let parts = (and-eq-true_iff (ltb w.offset (r.at + r.bytes)) (ltb r.at (w.offset + w.length))).0 e in
          let low : w.offset < r.at + r.bytes = ltb-true _ _ parts.0 in
          let high : r.at < w.offset + w.length = ltb-true _ _ parts.1 in
          let before : ltb w.offset (at + n) ≡ true = lt-ltb w.offset (at + n) (omega arith) in
          let after : ltb at (w.offset + w.length) ≡ true = lt-ltb at (w.offset + w.length) (omega arith) in
          absurd (true≢false (simp (before, after) at apart))

  pub taken_untouched : (stored : ℕ) → taken r w stored ≡ stored
  unfolding taken
  taken_untouched stored = rw part_untouched

  pub onto_untouched : (z : ℤ) → taken_onto r w z ≡ z
  unfolding taken_onto
  onto_untouched z = rw part_untouched

-- ---- a register by what `take` hands on: nothing, or a number that is then reduced

pub taken_by : {A : Type 0} (t : Bool) (x : ℕ) (o : Option ℕ) (stored reduced result : A) (Q : ℕ → Type 0)
    → o ≡ choose t (Some x) None → MatchOption o (result ≡ stored) Q → (Q x → result ≡ reduced) → result ≡ choose t reduced stored
taken_by true x o stored reduced result Q e m by = by (let P : Option ℕ → Type 0 = λ p. MatchOption p (result ≡ stored) Q in subst P e m)
taken_by false x o stored reduced result Q e m by = let P : Option ℕ → Type 0 = λ p. MatchOption p (result ≡ stored) Q in subst P e m

pub byte_latched : (at : ℕ) (w : Write) (stored : ℕ) → byte_of (latched 1 at w stored) 0 ≡ latched 1 at w stored
unfolding byte_of
byte_latched at w stored = omega (arith, latched_lt 1 at w stored)

-- ---- a register after any write

pub taken_lt : (n at : ℕ) (w : Write) (stored : ℕ) → stored < 256 ^ n → taken (whole n at) w stored < 256 ^ n
unfolding taken
taken_lt n at w stored h = choose_either (λ (x : ℕ). x < 256 ^ n) (touched n at w) (latched_lt n at w stored) h

pub low_taken_lt : (bits n at : ℕ) (w : Write) (stored : ℕ) → stored < 2 ^ bits → taken (low_bits bits n at) w stored < 2 ^ bits
unfolding taken
low_taken_lt bits n at w stored h = choose_either (λ (x : ℕ). x < 2 ^ bits) (touched n at w) (mod-lt _ (pow_pos bits)) h
