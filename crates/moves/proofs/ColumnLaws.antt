-- Columns passed one after another are those passed at once, and where none wraps each pointer is as many columns further.
use mathlib.Core.Path.{◌≡◌, refl, sym, ap, ◌∙◌}
use mathlib.Core.Bool.{Bool, true, false, not, ◌||◌}
use Prim.Native.Nat.{ℕ, suc, ◌+◌, ◌-◌, ◌%◌, ◌≤◌}
use native.Mathlib.Omega.{arith}
use lib.IntN.{ℤ, pos, sub_ℕ}
use Rattle.numbers.specs.Choose.{choose}
use Rattle.numbers.specs.Circles.{forth, back, residue, circle}
use Rattle.numbers.proofs.CircleLaws.{sub_cases, forth_inside}
use Rattle.numbers.proofs.Choices.{by_test, and_left, and_right, and_both}
use Rattle.pixels.specs.declared.Map.{Map}
use Rattle.parts.specs.declared.shapes.Point.{Point}
use Rattle.parts.specs.declared.drawing.Drawing.{Drawing}
use Rattle.rules.specs.Maps.{is_inside}
use Rattle.rules.proofs.PointerLaws.{inside_x}
use Rattle.moves.specs.declared.Turn.TheVariants.{Stay, Forth, Back}
use Rattle.moves.specs.declared.Travel.{Travel}
use Rattle.moves.specs.declared.Pen.{Pen}
use Rattle.moves.specs.Turns.{opposite, turned_by, circled_by, point_stepped, spot_stepped}
use Rattle.moves.specs.Moves.{pen_stepped, column_passed, row_point, row_spot, row_passed}
use Rattle.moves.specs.Inner.{pointers_inside, columns_passed, returned, row_returned}
use Rattle.moves.proofs.TurnLaws.{turned_none, turned_add, turned_return, turned_more, back_inside}
use Rattle.moves.proofs.CircledLaws.{OnCircle, circled_on, residue_circled, circled_none, circled_add, circled_return, circled_more, same_place_lem}
use Rattle.moves.proofs.Kept.{turned_inside, source_in, pattern_in}

-- ---- one after another

module _ (s : Travel) (pen : Pen) (on : OnCircle pen.pointers.destination.x) where
  -- one column more of a pointer that is used, or not
  column_more : (used : Bool) (k last : ℕ) (p : Point ℕ)
      → choose used (point_stepped (record { base = 0; width = last; height = 0; format = 0 }) (record { x = s.course.x; y = Stay })
      (record { x = choose used (turned_by s.course.x k last p.x) p.x; y = p.y }))
      (record { x = choose used (turned_by s.course.x k last p.x) p.x; y = p.y })
      ≡ record { x = choose used (turned_by s.course.x (suc k) last p.x) p.x; y = p.y }
  unfolding turned_by point_stepped
  column_more true k last p = λ i. record { x = turned_more last s.course.x k p.x i; y = p.y }
  column_more false k last p = refl

  pub columns_more : (k : ℕ) (d d' : Drawing) → column_passed s d' (columns_passed s k d pen) ≡ columns_passed s (suc k) d' pen
  unfolding turned_by circled_by point_stepped spot_stepped pen_stepped column_passed columns_passed
  columns_more k d d' = λ i.
      record {
        pointers = record {
          source = column_more s.source.used k s.source.map.width pen.pointers.source i;
          pattern = column_more s.pattern.used k s.pattern.map.width pen.pointers.pattern i;
          destination = record { x = circled_more s.course.x pen.pointers.destination.x on k i; y = pen.pointers.destination.y };
        };
        e = pen.e;
        drawing = d';
      }

  pub columns_none : pointers_inside s pen ≡ true → columns_passed s 0 pen.drawing pen ≡ pen
  unfolding columns_passed
  columns_none inside = λ i.
      record {
        pointers = record {
          source = record { x = source i; y = pen.pointers.source.y };
          pattern = record { x = pattern i; y = pen.pointers.pattern.y };
          destination = record { x = circled_none s.course.x pen.pointers.destination.x on i; y = pen.pointers.destination.y };
        };
        e = pen.e;
        drawing = pen.drawing;
      }
    where
      source : choose s.source.used (turned_by s.course.x 0 s.source.map.width pen.pointers.source.x) pen.pointers.source.x
          ≡ pen.pointers.source.x
      source =
          by_test (λ (x : ℕ). x ≡ pen.pointers.source.x) s.source.used
          (λ used. turned_none s.source.map.width s.course.x pen.pointers.source.x (inside_x _ _ (source_in s pen inside used))) (λ unused. refl)

      pattern : choose s.pattern.used (turned_by s.course.x 0 s.pattern.map.width pen.pointers.pattern.x) pen.pointers.pattern.x
          ≡ pen.pointers.pattern.x
      pattern =
          by_test (λ (x : ℕ). x ≡ pen.pointers.pattern.x) s.pattern.used
          (λ used. turned_none s.pattern.map.width s.course.x pen.pointers.pattern.x (inside_x _ _ (pattern_in s pen inside used))) (λ unused. refl)

-- used pointers stay in their maps
pub columns_inside : (s : Travel) (k : ℕ) (d : Drawing) (pen : Pen) → pointers_inside s pen ≡ true → pointers_inside s (columns_passed s k d pen) ≡ true
unfolding columns_passed turned_by
columns_inside s k d pen h =
    and_both (not s.source.used || is_inside s.source.map (columns_passed s k d pen).pointers.source) _
    (by s.source.used s.source.map pen.pointers.source (and_left (not s.source.used || is_inside s.source.map pen.pointers.source) _ h))
    (by s.pattern.used s.pattern.map pen.pointers.pattern (and_right (not s.source.used || is_inside s.source.map pen.pointers.source) _ h))
  where
    by : (used : Bool) (map : Map) (p : Point ℕ) → (not used || is_inside map p) ≡ true
        → (not used || is_inside map (record { x = choose used (turned_by s.course.x k map.width p.x) p.x; y = p.y })) ≡ true
    by true map p within = turned_inside map s.course.x Stay k 0 p within
    by false map p within = refl

-- ---- back to a row's start

module _ (s : Travel) (pen : Pen) (on : OnCircle pen.pointers.destination.x) (inside : pointers_inside s pen ≡ true) (k : ℕ)
    (few : k ≤ s.figure.dimensions.x) where
  abbrev last : ℕ
  last = s.figure.dimensions.x

  rest : last ≡ last - k + k
  rest = omega arith

  -- a pointer that is used, or not
  point_returned : (used : Bool) (map : Map) (p : Point ℕ) → (used ≡ true → p.x ≤ map.width)
      → let q : Point ℕ = record { x = choose used (turned_by s.course.x k map.width p.x) p.x; y = p.y } in
      choose used (row_point s map q) q ≡ returned s (last - k) used map p
  unfolding row_point
  point_returned true map p h =
      let t = s.course.x in
      let there = turned_by t k map.width p.x in
      let back = ap (λ (n : ℕ). turned_by (opposite t) n map.width there) rest
      ∙ turned_add map.width (opposite t) (last - k) k there
      ∙ ap (turned_by (opposite t) (last - k) map.width) (turned_return map.width t k p.x (h refl)) in
      λ i. record { x = back i; y = turned_by s.course.y 1 map.height p.y }
  point_returned false map p h = refl

  -- from k columns on, a row's end is reached and left at once
  pub row_returned_lem : (d d' : Drawing) → row_passed s d (columns_passed s k d' pen) ≡ row_returned s (last - k) d pen
  unfolding row_passed row_spot columns_passed row_returned
  row_returned_lem d d' =
      let t = s.course.x in
      let x = pen.pointers.destination.x in
      let across = ap (λ (n : ℕ). circled_by (opposite t) n (circled_by t k x)) rest
      ∙ circled_add (opposite t) (circled_by t k x) (circled_on t k x on) (last - k) k
      ∙ ap (circled_by (opposite t) (last - k)) (circled_return t x on k) in
      λ i.
      record {
        pointers = record {
          source = point_returned s.source.used s.source.map pen.pointers.source (λ used. inside_x _ _ (source_in s pen inside used)) i;
          pattern = point_returned s.pattern.used s.pattern.map pen.pointers.pattern (λ used. inside_x _ _ (pattern_in s pen inside used)) i;
          destination = record {
            x = across i;
            y = circled_by (choose s.course.inverts (opposite s.course.y) s.course.y) 1 pen.pointers.destination.y;
          };
        };
        e = pen.e;
        drawing = d;
      }

-- ---- where none wraps

-- a place on the destination's circle that is not below 0
pub pos_on : (n : ℕ) → n ≤ 6143 → OnCircle (pos n)
unfolding residue circle forth
pos_on n h =
    let raised : (n % 8192 + 2048) % 8192 ≡ n + 2048 = omega arith in
    ap (λ (a : ℕ). sub_ℕ a 2048) raised
    ∙ sub_cases (λ (z : ℤ). z ≡ pos n) (n + 2048) 2048 (λ less. absurd (omega arith)) (λ more. let same : n + 2048 - 2048 ≡ n = omega arith in ap pos same)

module _ (n j : ℕ) where
  pub circled_forth : n + j ≤ 6143 → circled_by Forth j (pos n) ≡ pos (n + j)
  unfolding residue turned_by forth
  circled_forth h =
      let there : (n % 8192 + j) % 8192 ≡ (n + j) % 8192 = omega arith in
      same_place_lem (circled_by Forth j (pos n)) (pos (n + j)) (circled_on Forth j (pos n) (pos_on n (omega arith))) (pos_on (n + j) h)
      (residue_circled Forth j (pos n) ∙ there)

  pub circled_back : j ≤ n → n ≤ 6143 → circled_by Back j (pos n) ≡ pos (n - j)
  unfolding residue turned_by
  circled_back less h =
      let here : n % 8192 ≡ n = omega arith in
      let there : (n - j) % 8192 ≡ n - j = omega arith in
      same_place_lem (circled_by Back j (pos n)) (pos (n - j)) (circled_on Back j (pos n) (pos_on n h)) (pos_on (n - j) (omega arith))
      (residue_circled Back j (pos n) ∙ ap (back 8192 j) here ∙ back_inside 8192 j n less (omega arith) ∙ sym there)

  pub turned_forth : (last : ℕ) → n + j ≤ last → turned_by Forth j last n ≡ n + j
  unfolding turned_by
  turned_forth last h = forth_inside (last + 1) j n (omega arith)

  pub turned_back : (last : ℕ) → j ≤ n → n ≤ last → turned_by Back j last n ≡ n - j
  unfolding turned_by
  turned_back last less h = back_inside (last + 1) j n less (omega arith)
