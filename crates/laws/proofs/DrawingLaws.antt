-- A drawing that fits the stored function is the one that its counters make, and its counters fit their bytes, since a position remains at them.
use mathlib.Core.Path.{◌≡◌, refl}
use mathlib.Core.Bool.{Bool, true, false, ◌||◌}
use mathlib.Core.Logic.{⊎_elim}
use Prim.Native.Nat.{ℕ, ◌<◌}
use native.Mathlib.Omega.{arith}
use lib.Dec.{eqb}
use borrow.Author.Tests.{eq-eqb, eqb-true}
use Rattle.numbers.specs.Choose.{choose}
use Rattle.numbers.proofs.Choices.{and_left, and_right}
use Rattle.parts.specs.declared.shapes.Figure.{Figure}
use Rattle.parts.specs.declared.drawing.Drawing.{Drawing}
use Rattle.parts.specs.declared.drawing.Drawing.TheVariants.{Nothing, Line, Codes, Block}
use Rattle.parts.specs.Drawings.{unfinished}
use Rattle.parts.specs.Reduced.{point_reduced}
use Rattle.rules.specs.Operations.{is_line, is_codes, is_block, is_fill, function_of}
use Rattle.rules.specs.Going.{counters_hold}
use Rattle.rules.proofs.CounterLaws.{line_held, codes_held, block_held}
use Rattle.image.specs.declared.counters.Counters.{Counters}
use Rattle.image.specs.Counters.{counters_of, drawing_of}
use Rattle.image.specs.Inner.{same_counters}
use Rattle.coprocessor.proofs.PlaceLaws.{or_cases, lengths}
use Rattle.laws.proofs.ValidFields.{point_bounds}

-- ---- the three kinds of functions

-- what holds of two numbers holds of one that is either of them
either : (P : ℕ → Type 0) (n a b : ℕ) → (eqb n a || eqb n b) ≡ true → P a → P b → P n
either P n a b e p q = ⊎_elim (λ t. rw (eqb-true n a t) p) (λ t. rw (eqb-true n b t) q) (or_cases (eqb n a) (eqb n b) e)

codes_no_line : (operations : ℕ) → is_codes operations ≡ true → is_line operations ≡ false
unfolding is_codes is_line
codes_no_line operations e = either (λ (f : ℕ). (eqb f 3 || eqb f 5) ≡ false) (function_of operations) 2 4 e refl refl

-- what holds of the three functions of a block holds of a block's function
of_block : (P : ℕ → Type 0) (operations : ℕ) → is_block operations ≡ true → P 8 → P 9 → P 10 → P (function_of operations)
unfolding is_block is_fill
of_block P operations e p q r =
    let f = function_of operations in
    ⊎_elim (λ t. either P f 8 9 t p q) (λ t. rw (eqb-true f 10 t) r) (or_cases (eqb f 8 || eqb f 9) (eqb f 10) e)

block_no_line : (operations : ℕ) → is_block operations ≡ true → is_line operations ≡ false
unfolding is_line
block_no_line operations e = of_block (λ (f : ℕ). (eqb f 3 || eqb f 5) ≡ false) operations e refl refl refl

block_no_codes : (operations : ℕ) → is_block operations ≡ true → is_codes operations ≡ false
unfolding is_codes
block_no_codes operations e = of_block (λ (f : ℕ). (eqb f 2 || eqb f 4) ≡ false) operations e refl refl refl

-- ---- the drawing and its counters

pub record CountersFit (k : Counters) : Type 0 where
  pub state : k.state < 256
  pub done : k.done < 65536
  pub passed : k.passed < 65536
  pub count : k.count < 256

-- the state of a drawing with a bit, 3 where it is set and 1 where not, tells the bit
record Told (bit : Bool) : Type 0 where
  pub no_zero : eqb (choose bit 3 1) 0 ≡ false
  pub no_two : eqb (choose bit 3 1) 2 ≡ false
  pub told : eqb (choose bit 3 1) 3 ≡ bit
  pub fits : choose bit 3 1 < 256

told : (bit : Bool) → Told bit
told true = record { no_zero = refl; no_two = refl; told = refl; fits = omega arith }
told false = record { no_zero = refl; no_two = refl; told = refl; fits = omega arith }

module _ (f : Figure) where
  pub drawing_counted : (d : Drawing) → (unfinished d ≡ true → counters_hold f d ≡ true)
      → drawing_of f.operations (counters_of d) ≡ d
  unfolding drawing_of counters_of
  drawing_counted (Nothing true) holds = refl
  drawing_counted (Nothing false) holds = refl
  drawing_counted (Line rose done) holds =
      let state = told rose in
      rw (state.no_zero, state.no_two, (line_held f done rose (holds refl)).function, state.told)
  drawing_counted (Codes count code done) holds =
      let function = (codes_held f count code done (holds refl)).function in
      rw (codes_no_line f.operations function, function)
  drawing_counted (Block inside column row) holds =
      let state = told inside in
      let function = (block_held f column row inside (holds refl)).function in
      rw (state.no_zero, state.no_two, block_no_line f.operations function, block_no_codes f.operations function, state.told)

  pub counters_fit : point_reduced f.dimensions ≡ true → (d : Drawing) → (unfinished d ≡ true → counters_hold f d ≡ true)
      → CountersFit (counters_of d)
  unfolding counters_of
  counters_fit r (Nothing true) holds = omega arith
  counters_fit r (Nothing false) holds = omega arith
  counters_fit r (Line rose done) holds =
      let held = line_held f done rose (holds refl) in
      let bounds = point_bounds f.dimensions r in
      let state = told rose in
      omega arith
  counters_fit r (Codes count code done) holds =
      let held = codes_held f count code done (holds refl) in
      ⊎_elim (λ p. omega arith) (⊎_elim (λ p. omega arith) (λ p. omega arith)) (lengths count held.counted)
  counters_fit r (Block inside column row) holds =
      let held = block_held f column row inside (holds refl) in
      let bounds = point_bounds f.dimensions r in
      let state = told inside in
      omega arith

-- ---- whether two are the same

pub counters_same : (k : Counters) → same_counters k k ≡ true
unfolding same_counters
counters_same k =
    let done = eq-eqb k.done k.done refl in
    let passed = eq-eqb k.passed k.passed refl in
    rw (eq-eqb k.state k.state refl, done, passed, eq-eqb k.count k.count refl)

pub same_counters_lem : (j k : Counters) → same_counters j k ≡ true → j ≡ k
unfolding same_counters
same_counters_lem j k e =
    let state = eqb-true j.state k.state (search (and_left, and_right)) in
    let done = eqb-true j.done k.done (search (and_left, and_right)) in
    let passed = eqb-true j.passed k.passed (search (and_left, and_right)) in
    let count = eqb-true j.count k.count (search and_right) in
    λ i. record { state = state i; done = done i; passed = passed i; count = count i }
