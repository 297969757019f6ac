-- Bytes load as the code asks it exactly where they load by the rules: the two are the same by the state, and in states 1 and 3 by the function.
use mathlib.Core.Path.{◌≡◌, refl, sym, ◌∙◌}
use mathlib.Core.Bool.{Bool, true, false, not, ◌&&◌, ◌||◌, and-true, or-false}
use mathlib.Core.List.{List}
use Prim.Native.Nat.{ℕ}
use native.Mathlib.Omega.{arith}
use lib.Dec.{leb, eqb}
use lib.ListN.{length}
use borrow.Author.Tests.{eqb-true, eq-eqb, eqb-false, le-leb, lt-leb}
use Rattle.numbers.specs.Choose.{choose}
use Rattle.numbers.proofs.Choices.{by_test, and_left, and_right, and_both}
use Rattle.parts.specs.declared.shapes.Figure.{Figure}
use Rattle.parts.specs.declared.drawing.Drawing.{Drawing}
use Rattle.parts.specs.Refusals.{is_accepted}
use Rattle.parts.specs.Drawings.{unfinished}
use Rattle.rules.specs.Operations.{is_line, is_codes}
use Rattle.rules.specs.Going.{counters_hold, pointers_hold}
use Rattle.image.specs.Counters.{counters_of, drawing_of}
use Rattle.image.specs.Inner.{same_counters}
use Rattle.image.specs.Layout.{at, image_length}
use Rattle.image.specs.Read.{counters_from}
use Rattle.coprocessor.specs.declared.Coprocessor.{Coprocessor}
use Rattle.coprocessor.specs.Fresh.{size_holds}
use Rattle.coprocessor.specs.Valid.{start_refusal_of, reduced_of, goes_on, valid_of}
use Rattle.coprocessor.specs.Images.{zero_counters, remains, loaded, loads}
use Rattle.coprocessor.specs.Inner.{loads_by}

-- two tests are the same if each holds where the other does
same : (s t : Bool) → (s ≡ true → t ≡ true) → (t ≡ true → s ≡ true) → s ≡ t
same true t p q = sym (p refl)
same false true p q = q refl
same false false p q = refl

ruleset parts = (and_both, and_left, and_right)

-- the states of a drawing in hand
unfoldable in_hand : ℕ → Bool
in_hand n = eqb n 1 || eqb n 3

-- of a state that is neither 0 nor 2, the rules ask that it is one of these, and what they ask in them
drawing_state : (n : ℕ) (going still : Bool) → eqb n 0 ≡ false → eqb n 2 ≡ false
    → (leb n 3 && choose (eqb n 1 || eqb n 3) going still) ≡ (in_hand n && going)
unfolding in_hand
drawing_state n going still no_zero no_two = by (eqb n 1) (eqb n 3) refl refl
  where
    by : (s t : Bool) → eqb n 1 ≡ s → eqb n 3 ≡ t → (leb n 3 && choose (s || t) going still) ≡ ((s || t) && going)
    by true t one three = rw (le-leb n 3 (omega (arith, eqb-true n 1 one)))
    by false true one three = rw (le-leb n 3 (omega (arith, eqb-true n 3 three)))
    by false false one three =
        rw (lt-leb n 3 (omega (arith, eqb-false n 0 no_zero, eqb-false n 1 one, eqb-false n 2 no_two, eqb-false n 3 three)))

-- a drawing with a bit has either of them, and codes, which have none, the state 1
bit_state : (n : ℕ) → eqb n (choose (eqb n 3) 3 1) ≡ in_hand n
unfolding in_hand
bit_state n = by_test (λ (m : ℕ). eqb n m ≡ (eqb n 1 || eqb n 3)) (eqb n 3) (λ three. rw (eqb-true n 3 three)) (λ other. rw (other, or-false))

codes_state : (n : ℕ) → eqb n 1 ≡ (in_hand n && not (eqb n 3))
unfolding in_hand
codes_state n = by (eqb n 3) refl
  where
    by : (t : Bool) → eqb n 3 ≡ t → eqb n 1 ≡ ((eqb n 1 || t) && not t)
    by true three = rw (eqb-true n 3 three)
    by false other = rw (or-false, and-true)

module _ (b : List ℕ) (f : Figure) (accepted inside : Bool) where
  -- whether bytes 9 to 14 are the counters of this drawing
  abbrev counted : Drawing → Bool
  counted d = same_counters (counters_from b) (counters_of d)

  -- whether this drawing can go on
  abbrev goes : Drawing → Bool
  goes d = not (unfinished d) || (counters_hold f d && accepted && inside)

  -- what the rules ask in states 1 and 3
  abbrev asked : Bool
  asked = accepted && remains f b && inside

  -- what the rules ask by the state
  abbrev rest : Bool
  rest = choose (eqb (at 9 1 b) 1 || eqb (at 9 1 b) 3) asked (zero_counters b)

  -- the drawing that bytes 9 to 14 make
  abbrev drawn : Drawing
  drawn = drawing_of f.operations (counters_from b)

  by_state : (counted drawn && goes drawn) ≡ (leb (at 9 1 b) 3 && rest)
  unfolding same_counters counters_from counters_of drawing_of counters_hold remains zero_counters
  by_state =
      let Same : Drawing → Type 0 = λ d. (counted d && goes d) ≡ (leb (at 9 1 b) 3 && rest) in
      let bit = bit_state (at 9 1 b) in
      let done = eq-eqb (at 10 2 b) (at 10 2 b) refl in
      let passed = eq-eqb (at 12 2 b) (at 12 2 b) refl in
      let count = eq-eqb (at 14 1 b) (at 14 1 b) refl in
      by_test Same (eqb (at 9 1 b) 0) (λ idle. rw (eqb-true (at 9 1 b) 0 idle, and-true)) (λ no_zero.
      by_test Same (eqb (at 9 1 b) 2) (λ stopped. rw (eqb-true (at 9 1 b) 2 stopped, and-true)) (λ no_two.
      let state = drawing_state (at 9 1 b) asked (zero_counters b) no_zero no_two in
      by_test Same (is_line f.operations) (λ line. rw (state, line, bit, done) (same _ _ (λ h. search parts) (λ h. search parts)))
      (λ no_line. by_test Same (is_codes f.operations)
      (λ codes. rw (state, no_line, codes, codes_state (at 9 1 b), done, passed, count) (same _ _ (λ h. search parts) (λ h. search parts)))
      (λ no-codes. rw (state, no_line, no-codes, bit, done, passed) (same _ _ (λ h. search parts) (λ h. search parts))))))

  whole : (head size reduced : Bool)
      → (head && counted drawn && (size && reduced && goes drawn)) ≡ (head && size && leb (at 9 1 b) 3 && reduced && rest)
  whole head size reduced =
      same _ _
      (λ h. let t : (leb (at 9 1 b) 3 && rest) ≡ true = sym by_state ∙ search parts in search parts)
      (λ h. let t : (counted drawn && goes drawn) ≡ true = by_state ∙ search parts in search parts)

pub loads_by_lem : (b : List ℕ) → loads_by b ≡ loads b
unfolding loads_by loads loaded valid_of goes_on
loads_by_lem b =
    let c : Coprocessor = loaded b in
    whole b c.registers.figure (is_accepted (start_refusal_of c)) (pointers_hold c.registers.figure.operations c.maps c.registers.pointers)
    (eqb (length b) image_length && eqb (at 0 3 b) 0x534758 && eqb (at 3 2 b) 1) (size_holds (at 5 4 b)) (reduced_of c)
