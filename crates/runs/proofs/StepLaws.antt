-- One step of a stroke: the column and row, the number of the pixel and the error term each go on by their own sum.
use Rattle.std.proofs.Common.{◌≡◌, ℕ, suc, ◌+◌, ◌-◌, ◌*◌, ◌/◌, ◌%◌, ◌^◌, ◌<◌, ◌≤◌, Bool, true, false, ltb, ℤ, pos, negsuc, ◌+ℤ◌, sym, refl, ap, ◌∙◌, zero-le, add-zero, mod-eq_of_lt, suc-mul, arith, lit<, ltb-true, le-ltb, lt-ltb, leb-true}
use mathlib.Core.Bool.{false≢true}
use native.Mathlib.Nat.{mul-add-mod_self_right, mul-add-div_right, div-eq_of_lt}
use lib.Signed.{lt_z, le_z}
use Rattle.numbers.specs.Choose.{choose}
use Rattle.numbers.specs.Circles.{forth, residue, circle}
use Rattle.numbers.proofs.CircleLaws.{sub_cases, residue_sub, residue_add}
use Rattle.numbers.proofs.Choices.{and_left, and_right}
use Rattle.pixels.specs.declared.Map.{Map}
use Rattle.parts.specs.Reduced.{term_reduced}
use Rattle.rows.specs.Inner.{along}
use Rattle.moves.specs.declared.Turn.{Turn}
use Rattle.moves.specs.declared.Turn.TheVariants.{Stay, Forth, Back}
use Rattle.parts.specs.declared.shapes.Point.{Point}
use Rattle.moves.specs.Turns.{circled_by}
use Rattle.moves.proofs.ColumnLaws.{circled_forth, circled_back}
use Rattle.runs.specs.Inner.{goes_across, goes_back, agrees, Spans, pixel_number, stride_by, stride_of, raised, error_in}

-- ---- columns and rows

-- one turn leads from this place to that one
abbrev pub Stepped : Turn → (x x' : ℕ) → Type 0
Stepped Stay x x' = x' ≡ x
Stepped Forth x x' = x' ≡ x + 1
Stepped Back x x' = x ≡ x' + 1

-- how often a stroke of i steps, of which n turn, moves along an axis
abbrev pub moves : (straight turned : Turn) → (i n : ℕ) → ℕ
moves straight turned i n = choose (goes_across straight) i (choose (goes_across turned) n 0)

pub moves_lt : (straight turned : Turn) (i n count turns span : ℕ) → i ≤ count → n ≤ turns
    → (goes_across straight ≡ true → count < span) → (goes_across straight ≡ false → turns < span) → moves straight turned i n < span
moves_lt straight turned i n count turns span few few' all some = by (goes_across straight) (goes_across turned) all some
  where
    by : (a b : Bool) → (a ≡ true → count < span) → (a ≡ false → turns < span) → choose a i (choose b n 0) < span
    by true b all some = omega (arith, all refl)
    by false true all some = omega (arith, some refl)
    by false false all some = omega (arith, some refl)

pub moves_none : (straight turned : Turn) → moves straight turned 0 0 ≡ 0
moves_none straight turned = by (goes_across straight) (goes_across turned)
  where
    by : (a b : Bool) → choose {A = ℕ} a 0 (choose b 0 0) ≡ 0
    by true b = refl
    by false true = refl
    by false false = refl

-- a step of a stroke that stays within its span
pub axis_step : (straight turned : Turn) (below : Bool) (x i n span low high : ℕ) → agrees straight turned ≡ true
    → Spans (goes_back turned) x span low high → moves straight turned (suc i) (n + choose below 0 1) < span
    → Stepped (choose below straight turned) (along (goes_back turned) x (moves straight turned i n))
    (along (goes_back turned) x (moves straight turned (suc i) (n + choose below 0 1)))
axis_step Stay Stay true x i n span low high same h less = refl
axis_step Stay Stay false x i n span low high same h less = refl
axis_step Stay Forth true x i n span low high same h less = omega arith
axis_step Stay Forth false x i n span low high same h less = omega arith
axis_step Stay Back true x i n span low high same h less = omega arith
axis_step Stay Back false x i n span low high same h less = omega (arith, h.0)
axis_step Forth Stay below x i n span low high same h less = absurd (false≢true same)
axis_step Forth Forth true x i n span low high same h less = omega arith
axis_step Forth Forth false x i n span low high same h less = omega arith
axis_step Forth Back below x i n span low high same h less = absurd (false≢true same)
axis_step Back Stay below x i n span low high same h less = absurd (false≢true same)
axis_step Back Forth below x i n span low high same h less = absurd (false≢true same)
axis_step Back Back true x i n span low high same h less = omega (arith, h.0)
axis_step Back Back false x i n span low high same h less = omega (arith, h.0)

-- the destination's pointer goes with it
pub circled_step : (t : Turn) (x x' : ℕ) → Stepped t x x' → x ≤ 6143 → x' ≤ 6143 → circled_by t 1 (pos x) ≡ pos x'
unfolding circled_by
circled_step Stay x x' e h h' = ap pos (sym e)
circled_step Forth x x' e h h' = circled_forth x 1 (omega arith) ∙ ap pos (sym e)
circled_step Back x x' e h h' = let same : x - 1 ≡ x' = omega arith in circled_back x 1 (omega arith) h ∙ ap pos same

-- ---- numbers of pixels

-- whether the number of a stride has come round
abbrev round : Turn → ℕ
round Stay = 0
round Forth = 0
round Back = 1

stride_on : (t : Turn) (y y' w : ℕ) → Stepped t y y' → w < 2 ^ 16 → y * (w + 1) + stride_by t w ≡ y' * (w + 1) + round t * 2 ^ 32
stride_on Stay y y' w e small = rw e (omega arith)
stride_on Forth y y' w e small = let more : (y + 1) * (w + 1) ≡ y * (w + 1) + (w + 1) = omega (arith, suc-mul y (w + 1)) in rw e (omega (arith, more))
stride_on Back y y' w e small = let more : (y' + 1) * (w + 1) ≡ y' * (w + 1) + (w + 1) = omega (arith, suc-mul y' (w + 1)) in rw e (omega (arith, more))

pub number_step : (map : Map) (step : Point Turn) (x y x' y' : ℕ) → Stepped step.x x x' → Stepped step.y y y' → map.width < 2 ^ 16
    → pixel_number map x' y' < 2 ^ 32 → (pixel_number map x y + stride_of map.width step) % 2 ^ 32 ≡ pixel_number map x' y'
number_step map step x y x' y' across down small fits =
    by (y * (map.width + 1)) (y' * (map.width + 1)) (stride_by step.x 0) (stride_by step.y map.width) (round step.x) (round step.y)
    (stride_on step.y y y' map.width down small) (stride_on step.x x x' 0 across (lit< tt)) fits
  where
    by : (A A' a b p q : ℕ) → A + b ≡ A' + q * 2 ^ 32 → x * 1 + a ≡ x' * 1 + p * 2 ^ 32 → A' + x' < 2 ^ 32 → (A + x + (a + b) % 2 ^ 32) % 2 ^ 32 ≡ A' + x'
    by A A' a b p q e e' fits = omega arith

-- the number of a pixel tells its column and row
pub number_column : (map : Map) (x y : ℕ) → x ≤ map.width → pixel_number map x y % (map.width + 1) ≡ x
number_column map x y h = rw (mul-add-mod_self_right) (mod-eq_of_lt (omega arith))

pub number_row : (map : Map) (x y : ℕ) → x ≤ map.width → pixel_number map x y / (map.width + 1) ≡ y
number_row map x y h =
    let some : 0 < map.width + 1 = omega arith in
    let less : x < map.width + 1 = omega arith in
    let short : x / (map.width + 1) ≡ 0 = div-eq_of_lt less in
    rw mul-add-div_right (rw short (add-zero y))

-- ---- error terms

pub below_nought : (w : ℕ) → lt_z (error_in w) (pos 0) ≡ ltb w 8192
below_nought w =
    sub_cases (λ (z : ℤ). lt_z z (pos 0) ≡ ltb w 8192) w 8192 (λ less. sym (lt-ltb w 8192 less))
    (λ more. le-ltb (w - 8192) 0 zero-le ∙ sym (le-ltb w 8192 more))

pub error_step : (w : ℕ) (k : ℤ) → circle 8192 16384 (error_in w +ℤ k) ≡ error_in ((w + residue 16384 k) % 16384)
unfolding circle forth
error_step w k =
    ap error_in
    (sum (residue 16384 (error_in w)) (residue 16384 k) (residue 16384 (error_in w +ℤ k)) (residue_add 16384 (lit< tt) (error_in w) k) (residue_sub 16384 (lit< tt) w 8192))
  where
    sum : (a b c : ℕ) → c ≡ (a + b) % 16384 → (a + 8192) % 16384 ≡ w % 16384 → (c + 8192) % 16384 ≡ (w + b) % 16384
    sum a b c e e' = omega arith

-- a term that is reduced is the one that its raised number stands for
pub raised_back : (e : ℤ) → term_reduced e ≡ true → error_in (raised e) ≡ e
unfolding term_reduced forth residue
raised_back (pos n) reduced =
    let less = ltb-true n 8192 (and_right (le_z (negsuc 8191) (pos n)) _ reduced) in
    sub_cases (λ (z : ℤ). z ≡ pos n) ((n % 16384 + 8192) % 16384) 8192 (λ below. absurd (omega arith))
    (λ above. let same : (n % 16384 + 8192) % 16384 - 8192 ≡ n = omega arith in ap pos same)
raised_back (negsuc n) reduced =
    let less : n ≤ 8191 = low n (and_left (le_z (negsuc 8191) (negsuc n)) _ reduced) in
    sub_cases (λ (z : ℤ). z ≡ negsuc n) ((16384 - 1 - n % 16384 + 8192) % 16384) 8192
    (λ below. let same : 8192 - suc ((16384 - 1 - n % 16384 + 8192) % 16384) ≡ n = omega arith in ap negsuc same) (λ above. absurd (omega arith))
  where
    low : (n : ℕ) → le_z (negsuc 8191) (negsuc n) ≡ true → n ≤ 8191
    low n h = leb-true n 8191 h
