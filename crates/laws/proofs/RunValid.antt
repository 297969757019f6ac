-- A run leaves a valid record valid: what every move keeps, counters, pointers in their maps and places on their circles, is what validity asks of a pen.
use mathlib.Core.Path.{◌≡◌, refl, sym, ap, ◌∙◌}
use mathlib.Core.Bool.{Bool, true, false, not, ◌||◌, false≢true}
use mathlib.Core.List.{List}
use Prim.Native.Nat.{ℕ}
use native.Mathlib.Omega.{arith}
use lib.IntN.{ℤ}
use lib.Dec.{ltb}
use borrow.Author.Tests.{ltb-true, lt-ltb}
use Rattle.numbers.specs.Circles.{circle}
use Rattle.numbers.proofs.Choices.{by_test, and_left, and_right}
use Rattle.pixels.specs.declared.Map.{Map}
use Rattle.parts.specs.declared.shapes.Point.{Point}
use Rattle.parts.specs.declared.shapes.Figure.{Figure}
use Rattle.parts.specs.declared.drawing.Drawing.{Drawing}
use Rattle.parts.specs.declared.drawing.Drawing.TheVariants.{Nothing, Line, Codes, Block}
use Rattle.parts.specs.Drawings.{unfinished}
use Rattle.parts.specs.Refusals.{is_accepted}
use Rattle.parts.specs.Moved.{with_moved}
use Rattle.parts.specs.Reduced.{map_reduced, term_reduced, terms_reduced, colours_reduced, point_reduced, figure_reduced, destination_reduced, spot_reduced, pointers_reduced, registers_reduced}
use Rattle.parts.proofs.ReducedLaws.{term_circle_reduced, term_circle_fixed, destination_circle_reduced, destination_circle_fixed}
use Rattle.rules.specs.Maps.{is_inside}
use Rattle.rules.specs.Rules.{start_refusal}
use Rattle.rules.specs.Going.{counters_hold, pointers_hold}
use Rattle.rules.proofs.PointerLaws.{inside_x, inside_y}
use Rattle.moves.specs.declared.Travel.{Travel}
use Rattle.moves.specs.declared.Pen.{Pen}
use Rattle.moves.specs.Decoded.{course_of, travel_of}
use Rattle.places.specs.declared.Setup.{Setup}
use Rattle.places.specs.Decoded.{flow_of, brush_of}
use Rattle.moves.specs.Inner.{pointers_inside}
use Rattle.moves.specs.Moves.{pen_with, pen_stepped, row_passed, moved}
use Rattle.moves.proofs.Kept.{kept, pointers_moved, SpotOn, destination_moved, error_moved}
use Rattle.position.specs.Drawn.{crossed}
use Rattle.runs.specs.Runs.{Run, begun, positioned, after}
use Rattle.runs.proofs.AfterLaws.{after_idle}
use Rattle.runs.proofs.RunLaws.{kept_after, positioned_counted}
use Rattle.coprocessor.specs.declared.Coprocessor.{Coprocessor}
use Rattle.coprocessor.specs.Fresh.{size_holds}
use Rattle.coprocessor.specs.Valid.{start_refusal_of, reduced_of, goes_on, valid_of}
use Rattle.coprocessor.specs.Runs.{setup_of, pen_of, with_pen, ran_of, run_refusal, run_answer}
use Rattle.coprocessor.proofs.SafeLaws.{valid_going}
use Rattle.laws.proofs.ValidFields as valid

-- ---- another pen

pub setup_kept : (c : Coprocessor) (pen : Pen) → setup_of (with_pen c pen) ≡ setup_of c
unfolding setup_of travel_of with_pen with_moved
setup_kept c pen = refl

pub pen_kept : (c : Coprocessor) (pen : Pen) → pen_of (with_pen c pen) ≡ pen
unfolding pen_of with_pen with_moved
pen_kept c pen = refl

pub with_pen_twice : (c : Coprocessor) (p q : Pen) → with_pen (with_pen c p) q ≡ with_pen c q
unfolding with_pen with_moved
with_pen_twice c p q = refl

pub with_pen_own : (c : Coprocessor) → with_pen c (pen_of c) ≡ c
unfolding with_pen with_moved pen_of
with_pen_own c = refl

-- ---- pointers inside a reduced map

inside_reduced : (map : Map) (p : Point ℕ) → map_reduced map ≡ true → is_inside map p ≡ true → point_reduced p ≡ true
unfolding map_reduced point_reduced
inside_reduced map p r h =
    let across = inside_x map p h in
    let down = inside_y map p h in
    let wide = ltb-true map.width 4096 (search (r, and_left, and_right)) in
    let high = ltb-true map.height 4096 (search (r, and_left, and_right)) in
    rw (lt-ltb p.x 4096 (omega arith), lt-ltb p.y 4096 (omega arith))

-- an unused pointer stays
source_unused : (s : Travel) (pen : Pen) → s.source.used ≡ false → (moved s pen).pointers.source ≡ pen.pointers.source
unfolding pen_stepped row_passed pen_with
source_unused s pen unused =
    kept s (λ q. q.pointers.source ≡ pen.pointers.source) (λ from to e d q known h. simp unused h) (λ d q h. simp unused h) (λ d q h. h) pen refl

pattern_unused : (s : Travel) (pen : Pen) → s.pattern.used ≡ false → (moved s pen).pointers.pattern ≡ pen.pointers.pattern
unfolding pen_stepped row_passed pen_with
pattern_unused s pen unused =
    kept s (λ q. q.pointers.pattern ≡ pen.pointers.pattern) (λ from to e d q known h. simp unused h) (λ d q h. simp unused h) (λ d q h. h) pen refl

-- a pointer that is inside a reduced map where it is used, and stays where it is not, is reduced if it was
moved_reduced : (used : Bool) (map : Map) (p q : Point ℕ) → map_reduced map ≡ true → (not used || is_inside map q) ≡ true → (used ≡ false → q ≡ p)
    → point_reduced p ≡ true → point_reduced q ≡ true
moved_reduced true map p q r inside stays h = inside_reduced map q r inside
moved_reduced false map p q r inside stays h = rw (stays refl) h

-- ---- places on their circles

error_on : (e : ℤ) → circle 8192 16384 e ≡ e → term_reduced e ≡ true
error_on e on = ap term_reduced (sym on) ∙ term_circle_reduced e

spot_on : (p : Point ℤ) → spot_reduced p ≡ true → SpotOn p
unfolding spot_reduced
spot_on p h = (destination_circle_fixed p.x (search (h, and_left)), destination_circle_fixed p.y (search (h, and_right)))

spot_reduced_lem : (p : Point ℤ) → SpotOn p → spot_reduced p ≡ true
unfolding spot_reduced
spot_reduced_lem p on =
    let x = ap destination_reduced (sym on.0) ∙ destination_circle_reduced p.x in
    rw (x, ap destination_reduced (sym on.1) ∙ destination_circle_reduced p.y)

-- ---- what a run keeps

-- what validity asks of a pen with a drawing in hand, and every position keeps
pub record Sound (s : Travel) (pen : Pen) : Type 0 where
  pub source : point_reduced pen.pointers.source ≡ true
  pub pattern : point_reduced pen.pointers.pattern ≡ true
  pub destination : SpotOn pen.pointers.destination
  pub error : circle 8192 16384 pen.e ≡ pen.e
  pub counters : counters_hold s.figure pen.drawing ≡ true
  pub pointers : pointers_inside s pen ≡ true

module _ (s : Setup) (course : s.travel.course ≡ course_of s.travel.figure.operations) (flow : s.brush.flow ≡ flow_of s.travel.figure.operations)
    (maps : map_reduced s.travel.source.map ≡ true × map_reduced s.travel.pattern.map ≡ true) where
  sound_positioned : (t : Run) → unfinished t.pen.drawing ≡ true → Sound s.travel t.pen → Sound s.travel (positioned s t).pen
  unfolding positioned crossed pen_with
  sound_positioned t going h =
      let pen : Pen = crossed s t.memory t.pen in
      let next : Pen = moved s.travel pen in
      let from = s.travel.source in
      let by = s.travel.pattern in
      let inside = pointers_moved s.travel pen h.pointers in
      let source = not from.used || is_inside from.map next.pointers.source in
      let pattern = not by.used || is_inside by.map next.pointers.pattern in
      record {
        source = moved_reduced from.used from.map _ _ maps.0 (and_left source pattern inside) (source_unused s.travel pen) h.source;
        pattern = moved_reduced by.used by.map _ _ maps.1 (and_right source pattern inside) (pattern_unused s.travel pen) h.pattern;
        destination = destination_moved s.travel pen h.destination;
        error = error_moved s.travel pen h.error;
        counters = (positioned_counted s course flow t going h.counters).held;
        pointers = inside;
      }

  sound_after : (n : ℕ) (t : Run) → Sound s.travel t.pen → Sound s.travel (after s n t).pen
  sound_after n t h = kept_after s (λ u. Sound s.travel u.pen) sound_positioned n t h

-- ---- validity

either_true : (a b : Bool) → b ≡ true → (not a || b) ≡ true
either_true true b h = h
either_true false b h = refl

idle_counters : (f : Figure) (d : Drawing) → unfinished d ≡ false → counters_hold f d ≡ true
unfolding counters_hold
idle_counters f (Nothing stopped) e = refl
idle_counters f (Line rose done) e = absurd (false≢true (sym e))
idle_counters f (Codes count code done) e = absurd (false≢true (sym e))
idle_counters f (Block inside column row) e = absurd (false≢true (sym e))

-- the counters of a valid record hold, in hand or not
pub valid_counters : (c : Coprocessor) → valid_of c ≡ true → counters_hold c.registers.figure c.drawing ≡ true
valid_counters c v = by (unfinished c.drawing) refl
  where
    by : (t : Bool) → unfinished c.drawing ≡ t → counters_hold c.registers.figure c.drawing ≡ true
    by true e = (valid_going c v e).counters
    by false e = idle_counters c.registers.figure c.drawing e

valid_sound : (c : Coprocessor) → valid_of c ≡ true → unfinished c.drawing ≡ true → Sound (setup_of c).travel (pen_of c)
unfolding terms_reduced setup_of travel_of pen_of pointers_hold
valid_sound c v going =
    let g = valid_going c v going in
    let terms : terms_reduced c.registers.terms ≡ true = valid.terms_reduced_lem c v in
    record {
      source = valid.source_reduced c v;
      pattern = valid.pattern_reduced c v;
      destination = spot_on c.registers.pointers.destination (valid.destination_reduced_lem c v);
      error = term_circle_fixed c.registers.terms.e (search (terms, and_left, and_right));
      counters = g.counters;
      pointers = g.pointers;
    }

-- the registers with a sound pen are reduced
sound_reduced : (c : Coprocessor) (pen : Pen) → valid_of c ≡ true → Sound (setup_of c).travel pen → registers_reduced (with_pen c pen).registers ≡ true
unfolding with_pen with_moved terms_reduced pointers_reduced registers_reduced
sound_reduced c pen v h =
    let r = valid.registers_reduced_lem c v in
    let terms : terms_reduced c.registers.terms ≡ true = valid.terms_reduced_lem c v in
    let k1 : term_reduced c.registers.terms.k1 ≡ true = search (terms, and_left, and_right) in
    let k2 : term_reduced c.registers.terms.k2 ≡ true = search (terms, and_left, and_right) in
    let colours : colours_reduced c.registers.colours ≡ true = search (r, and_left, and_right) in
    let figure : figure_reduced c.registers.figure ≡ true = search (r, and_left, and_right) in
    let index : ltb c.registers.index 4 ≡ true = search (r, and_left, and_right) in
    rw (index, error_on pen.e h.error, k1, k2, colours, figure, h.source, h.pattern)
    (spot_reduced_lem pen.pointers.destination h.destination)

-- a record with a sound pen is valid
sound_valid : (c : Coprocessor) (pen : Pen) → valid_of c ≡ true → is_accepted (start_refusal_of c) ≡ true → Sound (setup_of c).travel pen
    → valid_of (with_pen c pen) ≡ true
unfolding valid_of reduced_of goes_on start_refusal start_refusal_of setup_of travel_of with_pen with_moved pointers_hold
sound_valid c pen v starts h =
    let size : size_holds c.size ≡ true = search (v, and_left, and_right) in
    rw (size, valid.maps_reduced_lem c v, sound_reduced c pen v h, h.counters, starts) (either_true (unfinished pen.drawing) _ h.pointers)

idle_pen : (c : Coprocessor) → unfinished c.drawing ≡ false → unfinished (pen_of c).drawing ≡ false
unfolding pen_of
idle_pen c idle = idle

source_and_pattern : (c : Coprocessor) → valid_of c ≡ true
    → map_reduced (setup_of c).travel.source.map ≡ true × map_reduced (setup_of c).travel.pattern.map ≡ true
unfolding setup_of travel_of
source_and_pattern c v = (valid.map_reduced_lem c v _, valid.map_reduced_lem c v _)

pub ran_valid : (c : Coprocessor) (memory : List ℕ) (n : ℕ) → valid_of c ≡ true → valid_of (with_pen c (ran_of c memory n).pen) ≡ true
unfolding ran_of begun setup_of travel_of brush_of
ran_valid c memory n v = by (unfinished c.drawing) refl
  where
    by : (t : Bool) → unfinished c.drawing ≡ t → valid_of (with_pen c (after (setup_of c) n (begun (pen_of c) memory)).pen) ≡ true
    by false e = rw (after_idle (setup_of c) n (begun (pen_of c) memory) (idle_pen c e), with_pen_own c) v
    by true e =
        sound_valid c _ v (valid_going c v e).starts
        (sound_after (setup_of c) refl refl (source_and_pattern c v) n (begun (pen_of c) memory) (valid_sound c v e))

pub run_valid : (c : Coprocessor) (memory : List ℕ) (n : ℕ) → valid_of c ≡ true → valid_of (run_answer c memory n).coprocessor ≡ true
unfolding run_answer
run_valid c memory n v =
    by_test (λ (d : Coprocessor). valid_of d ≡ true) (is_accepted (run_refusal c memory)) (λ accepted. ran_valid c memory n v) (λ refused. v)
