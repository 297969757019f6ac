-- A start leaves each used pointer in its map: a remainder by the map's size is at most the last column or row, and a pointer that lies there is its
-- own remainder.
use mathlib.Core.Path.{◌≡◌, refl}
use mathlib.Core.Bool.{Bool, true, false, not, ◌||◌}
use mathlib.Core.List.{List}
use Prim.Native.Nat.{ℕ, ◌+◌, ◌%◌, ◌≤◌, ◌<◌}
use native.Mathlib.Nat.{mod-lt, mod-le, mod-eq_of_lt, lt_of_le_of_lt}
use native.Mathlib.Omega.{arith}
use borrow.Author.Tests.{le-leb, lt-ltb, leb-true, ltb-true}
use Rattle.numbers.specs.Choose.{choose}
use Rattle.numbers.proofs.Choices.{choose_either, and_left, and_right}
use Rattle.pixels.specs.declared.Map.{Map}
use Rattle.parts.specs.declared.shapes.Point.{Point}
use Rattle.parts.specs.declared.shapes.Pointers.{Pointers}
use Rattle.parts.proofs.ReducedLaws.{both_kept}
use Rattle.parts.specs.Reduced.{point_reduced, pointers_reduced}
use Rattle.rules.specs.Operations.{source_field, pattern_field, uses_source, uses_pattern}
use Rattle.rules.specs.Maps.{map_at, is_inside}
use Rattle.rules.specs.Starts.{turned, pointers_started}
use Rattle.rules.specs.Going.{pointers_hold}

-- ---- one coordinate

remainder_le : (x last : ℕ) → x % (last + 1) ≤ last
remainder_le x last = let h : x % (last + 1) < last + 1 = mod-lt x (omega arith) in omega arith

remainder_self : (x last : ℕ) → x ≤ last → x % (last + 1) ≡ x
remainder_self x last h = mod-eq_of_lt (omega arith)

remainder_lt : (x last limit : ℕ) → x < limit → x % (last + 1) < limit
remainder_lt x last limit = lt_of_le_of_lt (mod-le x (last + 1))

-- ---- one pointer

module _ (map : Map) (p : Point ℕ) where
  pub inside_x : is_inside map p ≡ true → p.x ≤ map.width
  unfolding is_inside
  inside_x h = leb-true p.x map.width (search (h, and_left))

  pub inside_y : is_inside map p ≡ true → p.y ≤ map.height
  unfolding is_inside
  inside_y h = leb-true p.y map.height (search (h, and_right))

  pub inside_turned : is_inside map (turned map p) ≡ true
  unfolding is_inside turned
  inside_turned = rw (le-leb _ _ (remainder_le p.x map.width), le-leb _ _ (remainder_le p.y map.height))

  pub turned_inside : is_inside map p ≡ true → turned map p ≡ p
  unfolding turned
  turned_inside h =
      rw (remainder_self _ _ (inside_x h), remainder_self _ _ (inside_y h))

  pub turned_reduced : point_reduced p ≡ true → point_reduced (turned map p) ≡ true
  unfolding point_reduced turned
  turned_reduced h =
      rw (
        lt-ltb _ _ (remainder_lt p.x map.width 4096 (ltb-true _ _ (search (and_left, and_right)))),
        lt-ltb _ _ (remainder_lt p.y map.height 4096 (ltb-true _ _ (search (and_left, and_right)))),
      )

-- ---- the pointers at a start

-- what is chosen where it is asked for holds where it is asked for
chosen : {A : Type 0} (holds : A → Bool) (asked : Bool) (a b : A) → holds a ≡ true → (not asked || holds (choose asked a b)) ≡ true
chosen holds true a b h = h
chosen holds false a b h = refl

module _ (operations : ℕ) (maps : List Map) (p : Pointers) where
  pub pointers_started_reduced : pointers_reduced p ≡ true → pointers_reduced (pointers_started operations maps p) ≡ true
  unfolding pointers_reduced pointers_started
  pointers_started_reduced =
      both_kept
      (both_kept
      (λ h. choose_either (λ (q : Point ℕ). point_reduced q ≡ true) (uses_source operations) (turned_reduced (map_at maps (source_field operations)) p.source h) h)
      (λ h. choose_either (λ (q : Point ℕ). point_reduced q ≡ true) (uses_pattern operations)
      (turned_reduced (map_at maps (pattern_field operations)) p.pattern h) h))
      (λ h. h)

  pub pointers_started_lem : pointers_hold operations maps (pointers_started operations maps p) ≡ true
  unfolding pointers_hold pointers_started
  pointers_started_lem =
      let source = map_at maps (source_field operations) in
      let pattern = map_at maps (pattern_field operations) in
      rw (chosen (is_inside source) (uses_source operations) _ p.source (inside_turned source p.source))
      (chosen (is_inside pattern) (uses_pattern operations) _ p.pattern (inside_turned pattern p.pattern))
