-- A read of a whole register shows what the record stores for it: its bytes stand at its offset of the bank, and give back a number that fits them.
use mathlib.Core.Path.{◌≡◌, ap, sym, ◌∙◌}
use mathlib.Core.Bool.{true}
use mathlib.Core.List.{List, [], ◌∷◌, map}
use Prim.Native.Nat.{ℕ, ◌^◌, ◌<◌}
use native.Mathlib.Omega.{arith}
use lib.Dec.{lit<}
use lib.IntN.{ℤ}
use lib.ListN.{get_or, get_or-map}
use Rattle.numbers.specs.Bytes.{le, number_of}
use Rattle.numbers.specs.Circles.{residue}
use Rattle.numbers.proofs.CircleLaws.{residue_lt}
use Rattle.parts.specs.declared.shapes.Point.{Point}
use Rattle.parts.specs.Registers.{selected, others, registers, whole}
use Rattle.parts.specs.Reduced.{point_reduced}
use Rattle.rules.specs.Maps.{map_at}
use Rattle.image.specs.Bank.{map_values, other_values, values_of, laid_at, bank_of, read_from}
use Rattle.coprocessor.specs.declared.Coprocessor.{Coprocessor}
use Rattle.coprocessor.specs.Valid.{valid_of}
use Rattle.coprocessor.specs.Reads.{value_at}
use Rattle.laws.specs.Held.{Held}
use Rattle.laws.specs.ReadBack.{register_at, shown}
use Rattle.laws.proofs.ImageLaws.{number_whole}
use Rattle.laws.proofs.ValidFields as valid

-- what the registers of a record read back, in the table's order
abbrev pub stored_of : Coprocessor → List ℕ
stored_of c = values_of c.maps c.registers

-- the two numbers of a pair
pair_x : (p : Point ℕ) → point_reduced p ≡ true → p.x < 256 ^ 2
pair_x p e = let b = valid.point_bounds p e in omega arith

pair_y : (p : Point ℕ) → point_reduced p ≡ true → p.y < 256 ^ 2
pair_y p e = let b = valid.point_bounds p e in omega arith

-- a signed register as it reads back
term_lt : (z : ℤ) → residue (2 ^ 32) z < 256 ^ 4
term_lt z = residue_lt (2 ^ 32) (lit< tt) z

coordinate_lt : (z : ℤ) → residue (2 ^ 16) z < 256 ^ 2
coordinate_lt z = residue_lt (2 ^ 16) (lit< tt) z

module _ (c : Coprocessor) (held : Held c) (v : valid_of c ≡ true) where
  values_stored : map (shown c) registers ≡ stored_of c
  unfolding selected others registers value_at read_from bank_of laid_at values_of map_values other_values le
  values_stored =
      let r = c.registers in
      let m = map_at c.maps r.index in
      let bounds = valid.map_bounds m (valid.map_reduced_lem c v r.index) in
      let index = number_whole 1 r.index (omega (arith, valid.index_lt c v)) in
      let width = number_whole 2 m.width (omega arith) in
      let height = number_whole 2 m.height (omega arith) in
      let format = number_whole 1 m.format (omega arith) in
      let condition = number_whole 1 r.colours.compare.condition (omega (arith, valid.condition_lt c v)) in
      let dimensions = valid.dimensions_reduced c v in
      let origin = valid.origin_reduced c v in
      let source = valid.source_reduced c v in
      let pattern = valid.pattern_reduced c v in
      λ i.
      index i
      ∷ number_whole 4 m.base (held.bases r.index) i
      ∷ width i
      ∷ height i
      ∷ format i
      ∷ number_whole 4 _ (term_lt r.terms.e) i
      ∷ number_whole 4 _ (term_lt r.terms.k1) i
      ∷ number_whole 4 _ (term_lt r.terms.k2) i
      ∷ number_whole 4 _ held.figure.steps i
      ∷ number_whole 1 _ held.colours.foreground_mix i
      ∷ number_whole 1 _ held.colours.background_mix i
      ∷ condition i
      ∷ number_whole 4 _ held.colours.compare_value i
      ∷ number_whole 4 _ held.colours.planes i
      ∷ number_whole 4 _ held.colours.carries i
      ∷ number_whole 4 _ held.colours.foreground_colour i
      ∷ number_whole 4 _ held.colours.background_colour i
      ∷ number_whole 2 _ (pair_x r.figure.dimensions dimensions) i
      ∷ number_whole 2 _ (pair_y r.figure.dimensions dimensions) i
      ∷ number_whole 2 _ (pair_x r.figure.origin origin) i
      ∷ number_whole 2 _ (pair_y r.figure.origin origin) i
      ∷ number_whole 2 _ (pair_x r.pointers.source source) i
      ∷ number_whole 2 _ (pair_y r.pointers.source source) i
      ∷ number_whole 2 _ (pair_x r.pointers.pattern pattern) i
      ∷ number_whole 2 _ (pair_y r.pointers.pattern pattern) i
      ∷ number_whole 2 _ (coordinate_lt r.pointers.destination.x) i
      ∷ number_whole 2 _ (coordinate_lt r.pointers.destination.y) i
      ∷ number_whole 4 _ held.figure.operations i
      ∷ []

  pub value_stored : (i : ℕ) → shown c (register_at i) ≡ get_or (stored_of c) i 0
  unfolding register_at value_at read_from number_of
  value_stored i = sym (get_or-map (shown c) registers i (whole 0 0)) ∙ ap (λ (l : List ℕ). get_or l i 0) values_stored
