-- What a run does to memory and to the positions left, and that one run is two in a row: what each step keeps, the run keeps, by induction.
use Rattle.std.proofs.Common.{◌≡◌, ℕ, zero, suc, ◌+◌, ◌-◌, ◌<◌, ◌≤◌, min, Bool, true, false, ◌⊎◌, List, ◌++◌, length, get_or, sym, refl, ap, ◌∙◌, inl, inr, ⊎_elim, arith}
use mathlib.Core.Bool.{false≢true}
use Rattle.numbers.proofs.Choices.{and_left}
use Rattle.numbers.specs.Fields.{field}
use Rattle.pixels.specs.declared.Map.{Map}
use Rattle.pixels.specs.Maps.{bits_of, place_of, shift_of, Apart}
use Rattle.pixels.specs.Pixels.{byte_at, pixel_at}
use Rattle.parts.specs.declared.drawing.Drawing.{Drawing}
use Rattle.parts.specs.declared.drawing.Drawing.TheVariants.{Nothing, Line, Codes, Block}
use Rattle.parts.specs.Drawings.{unfinished}
use Rattle.rules.specs.Operations.{is_fill}
use Rattle.rules.specs.Going.{counters_hold}
use Rattle.rules.specs.Totals.{left_of}
use Rattle.rules.proofs.TotalLaws.{left_idle, left_some}
use Rattle.places.specs.declared.Setup.{Setup}
use Rattle.moves.specs.declared.Pen.{Pen}
use Rattle.moves.specs.Decoded.{course_of}
use Rattle.places.specs.Decoded.{flow_of}
use Rattle.places.specs.declared.Flow.{Flow}
use Rattle.moves.proofs.Counters.{Counted, moved_counted}
use Rattle.moves.specs.Moves.{moved}
use Rattle.position.specs.Drawn.{inside_at, crossed}
use Rattle.position.specs.Inner.{Safe}
use Rattle.position.specs.Within.{Within}
use Rattle.position.proofs.Behind.{crossed_append, drawn_append}
use Rattle.position.proofs.Safety.{safe_within, safe_moved, safe_crossed}
use Rattle.position.proofs.Writing.{length_drawn, drawn_other}
use Rattle.runs.specs.Runs.{Run, begun, positioned, stepped, after}
use Rattle.runs.proofs.AfterLaws.{stepped_idle, stepped_on, after_add}

-- ---- what each step keeps

-- one position, by its two cases
pub by_stepped : (s : Setup) (t : Run) (P : Run → Type 0) → (unfinished t.pen.drawing ≡ false → P t)
    → (unfinished t.pen.drawing ≡ true → P (positioned s t))
    → P (stepped s t)
by_stepped s t P idle on = by (unfinished t.pen.drawing) refl
  where
    by : (u : Bool) → unfinished t.pen.drawing ≡ u → P (stepped s t)
    by false e = rw (stepped_idle s t e) (idle e)
    by true e = rw (stepped_on s t e) (on e)

module _ (s : Setup) (P : Run → Type 0) (on : (t : Run) → unfinished t.pen.drawing ≡ true → P t → P (positioned s t)) where
  -- what a position keeps, a run keeps
  pub kept_after : (n : ℕ) (t : Run) → P t → P (after s n t)
  unfolding after
  kept_after zero t h = h
  kept_after (suc n) t h =
      let u : Run = after s n t in
      let held : P u = kept_after n t h in
      by_stepped s u P (λ idle. held) (λ going. on u going held)

-- ---- the memory

pub length_after : (s : Setup) (n : ℕ) (t : Run) → length (after s n t).memory ≡ length t.memory
unfolding positioned
length_after s n t =
    kept_after s (λ u. length u.memory ≡ length t.memory) (λ u going h. length_drawn s u.memory u.pen ∙ h) n t refl

-- a byte of no pixel of the destination map stays
pub bytes_after : (s : Setup) (j : ℕ) → let map = s.brush.destination in
    ((x y : ℕ) → x ≤ map.width → y ≤ map.height → j ≡ place_of map x y → ⊥)
    → (n : ℕ) (t : Run) → get_or (after s n t).memory j 0 ≡ get_or t.memory j 0
unfolding positioned
bytes_after s j ne n t =
    kept_after s (λ u. get_or u.memory j 0 ≡ get_or t.memory j 0) (λ u going h. drawn_other s u.memory u.pen j ne ∙ h) n t refl

-- so does every pixel of a map that shares no byte with it
pub pixels_after : (s : Setup) (map : Map) → Apart map s.brush.destination → (n : ℕ) (t : Run) (x y : ℕ) → x ≤ map.width → y ≤ map.height
    → pixel_at (after s n t).memory map x y ≡ pixel_at t.memory map x y
unfolding byte_at pixel_at Apart
pixels_after s map apart n t x y h v =
    ap (field (shift_of map x y) (bits_of map.format)) (bytes_after s (place_of map x y) (λ x' y' h' v'. apart x y x' y' h v h' v') n t)

-- every position of a safe drawing is safe
pub safe_after : (s : Setup) (size n : ℕ) (t : Run) → Safe s size t.pen → Safe s size (after s n t).pen
unfolding positioned
safe_after s size n t h =
    kept_after s (λ u. Safe s size u.pen)
    (λ u going held. safe_moved s size (crossed s u.memory u.pen) (safe_crossed s size u.memory u.pen held)) n t h

-- a run with more bytes behind its memory
unfoldable pub before : List ℕ → Run → Run
before rest t = record { pen = t.pen; memory = t.memory ++ rest; done = t.done }

-- a safe drawing neither sees nor changes them
pub behind_after : (s : Setup) (rest : List ℕ) (n : ℕ) (t : Run) → Safe s (length t.memory) t.pen → after s n (before rest t) ≡ before rest (after s n t)
unfolding after before positioned
behind_after s rest zero t safe = refl
behind_after s rest (suc n) t safe =
    let u : Run = after s n t in
    let held : Safe s (length u.memory) u.pen = rw (length_after s n t) (safe_after s _ n t safe) in
    let inside : Within s (length u.memory) u.pen = safe_within s _ _ held in
    rw (behind_after s rest n t safe)
    (by_stepped s u (λ v. stepped s (before rest u) ≡ before rest v) (λ idle. stepped_idle s (before rest u) idle)
    (λ going.
    stepped_on s (before rest u) going
    ∙ (λ i.
    record {
      pen = moved s.travel (crossed_append s u.memory rest u.pen inside held.crossing i);
      memory = drawn_append s u.memory rest u.pen inside i;
      done = u.done + 1;
    })))

-- ---- what came before

-- a run that had k positions done before
unfoldable pub since : ℕ → Run → Run
since k u = record { pen = u.pen; memory = u.memory; done = k + u.done }

pub since_begun : (t : Run) → since t.done (begun t.pen t.memory) ≡ t
unfolding since begun
since_begun t = let same : t.done + 0 ≡ t.done = omega arith in λ i. record { pen = t.pen; memory = t.memory; done = same i }

since_stepped : (s : Setup) (k : ℕ) (u : Run) → stepped s (since k u) ≡ since k (stepped s u)
unfolding since positioned
since_stepped s k u =
    by_stepped s u (λ v. stepped s (since k u) ≡ since k v) (λ idle. stepped_idle s (since k u) idle)
    (λ going.
    let more : k + u.done + 1 ≡ k + (u.done + 1) = omega arith in
    stepped_on s (since k u) going ∙ (λ i. record { pen = (positioned s u).pen; memory = (positioned s u).memory; done = more i }))

pub since_after : (s : Setup) (n k : ℕ) (u : Run) → after s n (since k u) ≡ since k (after s n u)
unfolding after
since_after s zero k u = refl
since_after s (suc n) k u = rw (since_after s n k u) (since_stepped s k (after s n u))

-- ---- two runs in a row

-- what a run is to the first of its positions and to those that follow
pub record Added (first second whole : Run) : Type 0 where
  pub pen : whole.pen ≡ second.pen
  pub memory : whole.memory ≡ second.memory
  pub done : whole.done ≡ first.done + second.done

-- the run of a + b positions is the run of a, and from where that ends the run of b
pub run_add : (s : Setup) (pen : Pen) (memory : List ℕ) (a b : ℕ)
    → let u : Run = after s a (begun pen memory) in
    Added u (after s b (begun u.pen u.memory)) (after s (a + b) (begun pen memory))
unfolding since
run_add s pen memory a b =
    let u : Run = after s a (begun pen memory) in
    let whole = after_add s a b (begun pen memory) ∙ ap (after s b) (sym (since_begun u)) ∙ since_after s b u.done (begun u.pen u.memory) in
    record { pen = ap (λ (v : Run). v.pen) whole; memory = ap (λ (v : Run). v.memory) whole; done = ap (λ (v : Run). v.done) whole }

-- more positions, from where the run was
pub after_more : (s : Setup) (j k : ℕ) (t : Run) (pen pen' : Pen) (memory memory' : List ℕ)
    → after s j t ≡ record { pen = pen; memory = memory; done = j }
    → after s k (begun pen memory) ≡ record { pen = pen'; memory = memory'; done = k }
    → after s (j + k) t ≡ record { pen = pen'; memory = memory'; done = j + k }
unfolding since
after_more s j k t pen pen' memory memory' e e' =
    let u : Run = record { pen = pen; memory = memory; done = j } in
    after_add s j k t
    ∙ ap (after s k) (e ∙ sym (since_begun u))
    ∙ since_after s k j (begun pen memory)
    ∙ ap (since j) e'

-- ---- the positions left

idle_left : (s : Setup) (d : Drawing) → unfinished d ≡ false → left_of s.travel.figure d ≡ 0
idle_left s (Nothing stopped) e = left_idle s.travel.figure stopped
idle_left s (Line rose done) e = absurd (false≢true (sym e))
idle_left s (Codes count code done) e = absurd (false≢true (sym e))
idle_left s (Block inside column row) e = absurd (false≢true (sym e))

-- no run does more positions than it may, and one that does fewer ends idle
pub reached : (s : Setup) (pen : Pen) (memory : List ℕ) (n : ℕ)
    → let u : Run = after s n (begun pen memory) in
    (u.done ≤ n) × ((u.done ≡ n) ⊎ (unfinished u.pen.drawing ≡ false))
unfolding after begun positioned
reached s pen memory zero = (omega arith, inl refl)
reached s pen memory (suc n) =
    let u : Run = after s n (begun pen memory) in
    let held = reached s pen memory n in
    let few : u.done ≤ n = held.0 in
    by_stepped s u (λ (v : Run). (v.done ≤ suc n) × ((v.done ≡ suc n) ⊎ (unfinished v.pen.drawing ≡ false)))
    (λ idle. (omega arith, inr idle))
    (λ going. (
      omega arith,
      ⊎_elim (λ (all : u.done ≡ n). inl (omega arith)) (λ idle. absurd (false≢true (sym idle ∙ going))) held.1,
    ))

-- a run is that of exactly the positions that it did, whatever more it was allowed
pub after_done : (s : Setup) (pen : Pen) (memory : List ℕ) (n : ℕ)
    → after s (after s n (begun pen memory)).done (begun pen memory) ≡ after s n (begun pen memory)
unfolding after begun positioned
after_done s pen memory zero = refl
after_done s pen memory (suc n) =
    let u : Run = after s n (begun pen memory) in
    by_stepped s u (λ (v : Run). after s v.done (begun pen memory) ≡ v)
    (λ idle. after_done s pen memory n)
    (λ going.
    ⊎_elim
    (λ (all : u.done ≡ n).
    let more : u.done + 1 ≡ suc n = omega arith in ap (λ k. after s k (begun pen memory)) more ∙ stepped_on s u going)
    (λ idle. absurd (false≢true (sym idle ∙ going)))
    (reached s pen memory n).1)

-- where one is left and one is allowed, some are done
pub done_some : (s : Setup) (pen : Pen) (memory : List ℕ) (n : ℕ) → unfinished pen.drawing ≡ true → 0 < n → 0 < (after s n (begun pen memory)).done
unfolding after begun positioned
done_some s pen memory n going some =
    let one : (after s 1 (begun pen memory)).done ≡ 1 = ap (λ (t : Run). t.done) (stepped_on s (begun pen memory) going) in
    let all : 1 + (n - 1) ≡ n = omega arith in
    let whole = rw all at (run_add s pen memory 1 (n - 1)).done in
    omega arith

module _ (s : Setup)
    (course : s.travel.course ≡ course_of s.travel.figure.operations) (flow : s.brush.flow ≡ flow_of s.travel.figure.operations) where
  abbrev holds : Pen → Bool
  holds pen = counters_hold s.travel.figure pen.drawing

  abbrev left : Pen → ℕ
  left pen = left_of s.travel.figure pen.drawing

  -- a position sets no bit but a fill's
  inside_fills : (memory : List ℕ) (pen : Pen) → inside_at s memory pen ≡ true → is_fill s.travel.figure.operations ≡ true
  unfolding inside_at flow_of
  inside_fills memory pen inside = ap (λ (f : Flow). f.fills) (sym flow) ∙ and_left s.brush.flow.fills _ inside

  -- one position fewer is left, and the counters hold
  pub positioned_counted : (t : Run) → unfinished t.pen.drawing ≡ true → holds t.pen ≡ true
      → Counted s.travel.figure t.pen.drawing (positioned s t).pen.drawing
  unfolding positioned crossed
  positioned_counted t going h =
      moved_counted s.travel t.pen (inside_at s t.memory t.pen) course h (inside_fills t.memory t.pen) going

  pub counters_after : (n : ℕ) (t : Run) → holds t.pen ≡ true → holds (after s n t).pen ≡ true
  counters_after n t h = kept_after s (λ u. holds u.pen ≡ true) (λ u going held. (positioned_counted u going held).held) n t h

  -- the positions done and those left are together the same
  pub sum_after : (n : ℕ) (t : Run) → holds t.pen ≡ true → left (after s n t).pen + (after s n t).done ≡ left t.pen + t.done
  unfolding positioned
  sum_after n t h =
      (kept_after s (λ u. (holds u.pen ≡ true) × (left u.pen + u.done ≡ left t.pen + t.done))
      (λ u going held.
      let counted = positioned_counted u going held.0 in
      let fewer = counted.left in
      let same = held.1 in
      (counted.held, omega arith)) n t (h, refl)).1

  module _ (pen : Pen) (memory : List ℕ) (n : ℕ) (h : holds pen ≡ true) where
    pub left_after : left (after s n (begun pen memory)).pen + (after s n (begun pen memory)).done ≡ left pen
    unfolding begun
    left_after = let sum = sum_after n (begun pen memory) h in omega arith

    pub done_after : (after s n (begun pen memory)).done ≡ min n (left pen)
    done_after =
        let u : Run = after s n (begun pen memory) in
        let sum : left u.pen + u.done ≡ left pen = left_after in
        let held = reached s pen memory n in
        let few : u.done ≤ n = held.0 in
        ⊎_elim (λ (all : u.done ≡ n). omega arith)
        (λ idle. let none : left u.pen ≡ 0 = idle_left s u.pen.drawing idle in omega arith) held.1

    -- a run ends idle exactly where none is left
    pub idle_after_all : (unfinished (after s n (begun pen memory)).pen.drawing ≡ false → left (after s n (begun pen memory)).pen ≡ 0)
        × (left (after s n (begun pen memory)).pen ≡ 0 → unfinished (after s n (begun pen memory)).pen.drawing ≡ false)
    unfolding begun
    idle_after_all =
        let d : Drawing = (after s n (begun pen memory)).pen.drawing in
        let held : counters_hold s.travel.figure d ≡ true = counters_after n (begun pen memory) h in
        (idle_left s d, λ none. by d (unfinished d) refl held none)
      where
        by : (d : Drawing) (t : Bool) → unfinished d ≡ t → counters_hold s.travel.figure d ≡ true
            → left_of s.travel.figure d ≡ 0 → unfinished d ≡ false
        by d false e held none = e
        by d true e held none = let some = left_some s.travel.figure d held e in absurd (omega arith)
