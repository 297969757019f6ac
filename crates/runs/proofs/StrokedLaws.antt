-- What a drawing with strokes has, and a stroke of it: parts of one step, and small terms.
use Rattle.std.proofs.Common.{◌≡◌, ℕ, Bool, true, false, not, ◌&&◌, ℤ, pos, refl, mod-lt, lit<, Some, None}
use lib.Signed.{lt_z}
use borrow.Author.Tests.{not-true}
use Rattle.numbers.specs.Choose.{choose}
use Rattle.numbers.specs.Circles.{forth}
use Rattle.numbers.proofs.CircleLaws.{residue_lt}
use Rattle.numbers.proofs.Choices.{and_left, and_right}
use Rattle.pixels.specs.declared.Map.{Map}
use Rattle.rows.specs.Inner.{Termed}
use Rattle.parts.specs.declared.drawing.Drawing.{Drawing}
use Rattle.parts.specs.declared.drawing.Drawing.TheVariants.{Nothing, Line, Codes, Block}
use Rattle.parts.specs.Reduced.{term_reduced}
use Rattle.rules.specs.Codes.{only_moves, code_at}
use Rattle.moves.specs.declared.Travel.{Travel}
use Rattle.runs.specs.declared.strokes.Stroke.{Stroke}
use Rattle.moves.specs.declared.Turn.{Turn}
use Rattle.moves.specs.declared.Turn.TheVariants.{Stay, Forth, Back}
use Rattle.moves.specs.Steps.{code_step}
use Rattle.places.specs.declared.Mode.TheVariants.{AllPixels}
use Rattle.places.specs.declared.Setup.{Setup}
use Rattle.places.specs.Places.{named_mode}
use Rattle.places.proofs.ModeLaws.{all_lem}
use Rattle.runs.specs.Inner.{agrees, is_plain, is_blended, is_straight, has_strokes}
use Rattle.runs.specs.Inner.{line_drawn, code_drawn, line_stroke, code_stroke, stroke_of, trail_from}
use Rattle.runs.proofs.PlainLaws.{Plained, plained}

-- ---- what a drawing with strokes has

pub record Stroked (s : Setup) : Type 0 where
  pub plain : Plained s
  pub edge : lt_z s.brush.edge (pos 0) ≡ true
  pub write : s.travel.course.read ≡ false
  pub unmarked : s.travel.course.bounds ≡ false
  pub across : agrees s.travel.course.straight.x s.travel.course.x ≡ true
  pub down : agrees s.travel.course.straight.y s.travel.course.y ≡ true
  pub alone : s.travel.source.used ≡ false
  pub colour : s.brush.flow.foreground ≡ false
  pub mode : named_mode s.brush.flow.mode ≡ AllPixels

pub stroked : (s : Setup) → has_strokes s ≡ true → Stroked s
stroked s has =
    let alike = is_plain s && is_blended s in
    let ways = lt_z s.brush.edge (pos 0) && is_straight s.travel.course in
    let colour = not s.travel.source.used && not s.brush.flow.foreground in
    let first = and_left (alike && ways) _ has in
    let last = and_right (alike && ways) _ has in
    let plain = and_left alike ways first in
    let goes = and_right alike ways first in
    let straight = and_right (lt_z s.brush.edge (pos 0)) _ goes in
    let course = s.travel.course in
    let marks = not course.read && not course.bounds in
    let parts = and_right marks _ straight in
    record {
      plain = plained s (and_left (is_plain s) (is_blended s) plain) (and_right (is_plain s) (is_blended s) plain);
      edge = and_left (lt_z s.brush.edge (pos 0)) _ goes;
      write = not-true _ (and_left (not course.read) _ (and_left marks _ straight));
      unmarked = not-true _ (and_right (not course.read) _ (and_left marks _ straight));
      across = and_left (agrees course.straight.x course.x) _ parts;
      down = and_right (agrees course.straight.x course.x) _ parts;
      alone = not-true _ (and_left (not s.travel.source.used) _ (and_left colour _ last));
      colour = not-true _ (and_right (not s.travel.source.used) _ (and_left colour _ last));
      mode = all_lem _ (and_right colour _ last);
    }

agrees_self : (t : Turn) → agrees t t ≡ true
agrees_self Stay = refl
agrees_self Forth = refl
agrees_self Back = refl

pub same_choice : {A : Type 0} (t : Bool) (a : A) → choose t a a ≡ a
same_choice true a = refl
same_choice false a = refl

-- a stroke is that of a line, or that of a code
pub of_line : (s : Travel) (e : ℤ) (done : ℕ) (k : Stroke) → line_stroke s e done ≡ Some k → (term_reduced e ≡ true) × (k ≡ line_drawn s e done)
of_line s e done k = by (term_reduced e)
  where
    by : (t : Bool) → choose t (Some (line_drawn s e done)) None ≡ Some k → (t ≡ true) × (k ≡ line_drawn s e done)
    by true is = (refl, cc)
    by false is = absurd (cc)

pub of_code : (code done : ℕ) (k : Stroke) → code_stroke code done ≡ Some k → (only_moves code ≡ false) × (k ≡ code_drawn code done)
of_code code done k = by (only_moves code)
  where
    by : (t : Bool) → choose t None (Some (code_drawn code done)) ≡ Some k → (t ≡ false) × (k ≡ code_drawn code done)
    by true is = absurd (cc)
    by false is = (refl, cc)

pub stroke_agrees : (s : Setup) → Stroked s → (e : ℤ) (d : Drawing) (k : Stroke) → stroke_of s.travel e d ≡ Some k →
    (agrees k.straight.x k.turned.x ≡ true) × (agrees k.straight.y k.turned.y ≡ true)
stroke_agrees s has e (Nothing stopped) k is = absurd (cc)
stroke_agrees s has e (Line rose done) k is = rw (of_line s.travel e done k is).1 (has.across, has.down)
stroke_agrees s has e (Codes count code done) k is =
    let step = code_step (code_at s.travel.figure.steps count code) in
    rw (of_code (code_at s.travel.figure.steps count code) done k is).1 (agrees_self step.x, agrees_self step.y)
stroke_agrees s has e (Block inside column row) k is = absurd (cc)

-- the terms of a stroke are small
pub stroke_termed : (s : Setup) (e : ℤ) (d : Drawing) (k : Stroke) (map : Map) (x y : ℕ) → stroke_of s.travel e d ≡ Some k → Termed (trail_from map k x y)
unfolding forth
stroke_termed s e (Nothing stopped) k map x y is = absurd (cc)
stroke_termed s e (Line rose done) k map x y is =
    rw (of_line s.travel e done k is).1 (mod-lt _ (lit< tt), residue_lt 16384 (lit< tt) s.travel.k1, residue_lt 16384 (lit< tt) s.travel.k2)
stroke_termed s e (Codes count code done) k map x y is =
    rw (of_code (code_at s.travel.figure.steps count code) done k is).1 (lit< tt, lit< tt, lit< tt)
stroke_termed s e (Block inside column row) k map x y is = absurd (cc)
