-- What validity says of a record's fields: the conjuncts of its tests, as bounds.
use mathlib.Core.Path.{◌≡◌}
use mathlib.Core.Bool.{true}
use Prim.Native.Nat.{ℕ, ◌^◌, ◌<◌}
use native.Mathlib.Omega.{arith}
use lib.Dec.{lit<, lit≤}
use lib.IntN.{ℤ}
use mir.Syntax.{w16, w32}
use mir.Val.{SFits}
use borrow.Author.Tests.{leb-true, ltb-true}
use Rattle.pixels.specs.declared.Map.{Map}
use Rattle.parts.specs.declared.shapes.Point.{Point}
use Rattle.parts.specs.Drawings.{unfinished}
use Rattle.parts.specs.Reduced.{map_reduced, term_reduced, terms_reduced, colours_reduced, point_reduced, figure_reduced, destination_reduced, spot_reduced, pointers_reduced, registers_reduced}
use Rattle.rules.specs.Maps.{map_at}
use Rattle.rules.specs.Going.{counters_hold}
use Rattle.coprocessor.specs.declared.Coprocessor.{Coprocessor}
use Rattle.coprocessor.specs.Fresh.{size_holds}
use Rattle.coprocessor.specs.Valid.{maps_reduced, reduced_of, goes_on, valid_of}
use Rattle.numbers.proofs.SignedBytes.{between_fits}
use Rattle.numbers.proofs.Choices.{and_left, and_right}
use Rattle.laws.proofs.MapsLaws.{each_reduced}

-- ---- the bounds of a reduced part

pub record MapBounds (m : Map) : Type 0 where
  pub width : m.width < 4096
  pub height : m.height < 4096
  pub format : m.format < 16

pub map_bounds : (m : Map) → map_reduced m ≡ true → MapBounds m
unfolding map_reduced
map_bounds m e =
    record {
      width = ltb-true _ _ (search (and_left, and_right));
      height = ltb-true _ _ (search (and_left, and_right));
      format = ltb-true _ _ (search and_right);
    }

pub record PointBounds (p : Point ℕ) : Type 0 where
  pub x : p.x < 4096
  pub y : p.y < 4096

pub point_bounds : (p : Point ℕ) → point_reduced p ≡ true → PointBounds p
unfolding point_reduced
point_bounds p e = record { x = ltb-true _ _ (search and_left); y = ltb-true _ _ (search and_right) }

pub term_fits : (z : ℤ) → term_reduced z ≡ true → SFits w32 z
unfolding term_reduced
term_fits z e = between_fits w32 8191 8192 (lit< tt) (lit≤ tt) z e

pub destination_fits : (z : ℤ) → destination_reduced z ≡ true → SFits w16 z
unfolding destination_reduced
destination_fits z e = between_fits w16 2047 6144 (lit< tt) (lit≤ tt) z e

-- ---- the conjuncts of validity

module _ (c : Coprocessor) (valid : valid_of c ≡ true) where
  pub maps_reduced_lem : maps_reduced c.maps ≡ true
  unfolding valid_of reduced_of
  maps_reduced_lem = search (valid, and_left, and_right)

  pub registers_reduced_lem : registers_reduced c.registers ≡ true
  unfolding valid_of reduced_of
  registers_reduced_lem = search (valid, and_left, and_right)

  pub size_lt : c.size < 2 ^ 32
  unfolding valid_of size_holds
  size_lt = omega (arith, leb-true c.size 1048576 (search (valid, and_left, and_right)))

  pub map_reduced_lem : (field : ℕ) → map_reduced (map_at c.maps field) ≡ true
  map_reduced_lem = each_reduced c.maps maps_reduced_lem

  pub index_lt : c.registers.index < 4
  unfolding registers_reduced
  index_lt = let r = registers_reduced_lem in ltb-true _ _ (search (r, and_left, and_right))

  pub terms_reduced_lem : terms_reduced c.registers.terms ≡ true
  unfolding registers_reduced
  terms_reduced_lem = let r = registers_reduced_lem in search (r, and_left, and_right)

  pub condition_lt : c.registers.colours.compare.condition < 8
  unfolding registers_reduced colours_reduced
  condition_lt = let r = registers_reduced_lem in ltb-true _ _ (search (r, and_left, and_right))

  figure_reduced_lem : figure_reduced c.registers.figure ≡ true
  unfolding registers_reduced
  figure_reduced_lem = let r = registers_reduced_lem in search (r, and_left, and_right)

  pub pointers_reduced_lem : pointers_reduced c.registers.pointers ≡ true
  unfolding registers_reduced
  pointers_reduced_lem = let r = registers_reduced_lem in search (r, and_right)

  pub dimensions_reduced : point_reduced c.registers.figure.dimensions ≡ true
  unfolding figure_reduced
  dimensions_reduced = let r = figure_reduced_lem in search (r, and_left)

  pub origin_reduced : point_reduced c.registers.figure.origin ≡ true
  unfolding figure_reduced
  origin_reduced = let r = figure_reduced_lem in search (r, and_right)

  pub source_reduced : point_reduced c.registers.pointers.source ≡ true
  unfolding pointers_reduced
  source_reduced = let r = pointers_reduced_lem in search (r, and_left, and_right)

  pub pattern_reduced : point_reduced c.registers.pointers.pattern ≡ true
  unfolding pointers_reduced
  pattern_reduced = let r = pointers_reduced_lem in search (r, and_left, and_right)

  pub destination_reduced_lem : spot_reduced c.registers.pointers.destination ≡ true
  unfolding pointers_reduced
  destination_reduced_lem = let r = pointers_reduced_lem in search (r, and_right)

  pub counters_going : unfinished c.drawing ≡ true → counters_hold c.registers.figure c.drawing ≡ true
  unfolding valid_of goes_on
  counters_going e =
      let going : goes_on c ≡ true = search (valid, and_right) in
      let r = rw e at going in
      search (r, and_left)
