-- What the counters of a drawing in hand say, kind by kind; and that a start's drawing holds its counters, which are all 0, since a first code 00
-- sets no codes.
use mathlib.Core.Path.{◌≡◌, refl}
use mathlib.Core.Bool.{Bool, true, false, not, ◌&&◌, ◌||◌, false≢true, or-false}
use Prim.Native.Nat.{ℕ, zero, suc, ◌%◌, ◌≤◌, ◌<◌, zero-le}
use native.Mathlib.Omega.{arith}
use lib.Dec.{leb, eqb}
use borrow.Author.Tests.{le-leb, lt-ltb, leb-true, ltb-true}
use Rattle.numbers.proofs.Choices.{and_left, and_right}
use Rattle.parts.specs.declared.shapes.Figure.{Figure}
use Rattle.parts.specs.declared.drawing.Drawing.TheVariants.{Nothing, Line, Codes, Block}
use Rattle.rules.specs.Operations.{is_line, is_codes, is_fill, is_block, mode_of, draws}
use Rattle.rules.specs.Codes.{is_count, code_at, none_stopped}
use Rattle.rules.specs.Starts.{drawing_started}
use Rattle.rules.specs.Going.{counters_hold}
use Rattle.rules.proofs.StartLaws.{by_start}

-- ---- the facts of each kind

pub record LineHeld (f : Figure) (done : ℕ) (rose : Bool) : Type 0 where
  pub function : is_line f.operations ≡ true
  pub within : done ≤ f.dimensions.x
  pub bit : (not rose || (eqb (mode_of f.operations) 3 && leb 1 done)) ≡ true

pub record CodesHeld (f : Figure) (count code done : ℕ) : Type 0 where
  pub function : is_codes f.operations ≡ true
  pub counted : is_count count ≡ true
  pub before : code < count
  pub going : none_stopped f.steps count (suc code) ≡ true
  pub within : done ≤ code_at f.steps count code % 16

pub record BlockHeld (f : Figure) (column row : ℕ) (inside : Bool) : Type 0 where
  pub function : is_block f.operations ≡ true
  pub across : column ≤ f.dimensions.x
  pub down : row ≤ f.dimensions.y
  pub bit : (not inside || (is_fill f.operations && leb 1 column)) ≡ true

-- a write has at least one code
some : (length : ℕ) → is_count length ≡ true → 0 < length
some zero h = absurd (false≢true h)
some (suc n) h = omega arith

module _ (f : Figure) where
  pub line_held : (done : ℕ) (rose : Bool) → counters_hold f (Line rose done) ≡ true → LineHeld f done rose
  unfolding counters_hold
  line_held done rose h =
      record { function = search (and_left, and_right); within = leb-true _ _ (search (and_left, and_right)); bit = search and_right }

  pub line_holds : (done : ℕ) (rose : Bool) → LineHeld f done rose → counters_hold f (Line rose done) ≡ true
  unfolding counters_hold
  line_holds done rose h = rw (h.function, le-leb _ _ h.within) h.bit

  pub codes_held : (count code done : ℕ) → counters_hold f (Codes count code done) ≡ true → CodesHeld f count code done
  unfolding counters_hold
  codes_held count code done h =
      record {
        function = search and_left;
        counted = search (and_left, and_right);
        before = ltb-true _ _ (search (and_left, and_right));
        going = search (and_left, and_right);
        within = leb-true _ _ (search and_right);
      }

  pub codes_hold : (count code done : ℕ) → CodesHeld f count code done → counters_hold f (Codes count code done) ≡ true
  unfolding counters_hold
  codes_hold count code done h = rw (h.function, h.counted, lt-ltb _ _ h.before, h.going, le-leb _ _ h.within)

  pub block_held : (column row : ℕ) (inside : Bool) → counters_hold f (Block inside column row) ≡ true
      → BlockHeld f column row inside
  unfolding counters_hold
  block_held column row inside h =
      record {
        function = search (and_left, and_right);
        across = leb-true _ _ (search (and_left, and_right));
        down = leb-true _ _ (search (and_left, and_right));
        bit = search and_right;
      }

  pub block_holds : (column row : ℕ) (inside : Bool) → BlockHeld f column row inside
      → counters_hold f (Block inside column row) ≡ true
  unfolding counters_hold
  block_holds column row inside h = rw (h.function, le-leb _ _ h.across, le-leb _ _ h.down) h.bit

  -- nothing in hand asks nothing
  pub idle_holds : (stopped : Bool) → counters_hold f (Nothing stopped) ≡ true
  unfolding counters_hold
  idle_holds stopped = refl

  -- ---- at a start

  pub counters_started : (length : ℕ) → draws f.operations ≡ true → is_count length ≡ true
      → counters_hold f (drawing_started f length) ≡ true
  unfolding draws none_stopped counters_hold
  counters_started length drawing counted =
      by_start (λ started. counters_hold f started ≡ true) f length
      (λ line. line_holds 0 false (record { function = line; within = zero-le; bit = refl }))
      (λ block. block_holds 0 0 false (record { function = block; across = zero-le; down = zero-le; bit = refl }))
      refl
      (λ no_line no_block code.
      codes_hold length 0 0
      (record {
        function = rw (no_line, no_block, or-false) at drawing;
        counted = counted;
        before = some length counted;
        going = rw code;
        within = zero-le;
      }))
