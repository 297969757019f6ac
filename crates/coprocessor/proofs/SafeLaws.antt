-- A valid record with a drawing in hand is safe: the start rules hold of it, so used maps end within the memory and used pointers lie in them.
use Rattle.std.proofs.Common.{Ok}
use mathlib.Core.Path.{◌≡◌, refl}
use mathlib.Core.Bool.{true, not, ◌&&◌}
use mathlib.Core.List.{List}
use Prim.Native.Nat.{ℕ}
use lib.ListN.{length}
use lib.Dec.{eqb}
use borrow.Author.Tests.{eqb-true, eq-eqb, not-false}
use Rattle.numbers.proofs.Choices.{asked, and_left, and_right}
use Rattle.pixels.proofs.Maps.{bits_le}
use Rattle.mixes.proofs.Depths.{depth_cut}
use Rattle.parts.specs.Drawings.{unfinished}
use Rattle.parts.specs.Refusals.{is_accepted}
use Rattle.parts.proofs.RefusalLaws.{passed}
use Rattle.rules.specs.Operations.{is_fill, source_is_colour, uses_source, uses_pattern, uses_mask}
use Rattle.rules.specs.Rules.{fill_holds, fields_hold, used_maps, ends_hold}
use Rattle.rules.specs.Going.{counters_hold, pointers_hold}
use Rattle.rules.proofs.RefusalLaws.{accepted_holds}
use Rattle.moves.specs.Decoded.{travel_of}
use Rattle.places.specs.Decoded.{flow_of, brush_of}
use Rattle.places.proofs.ModeLaws.{enabled_by}
use Rattle.position.specs.Inner.{Safe}
use Rattle.coprocessor.specs.declared.Coprocessor.{Coprocessor}
use Rattle.coprocessor.specs.Fresh.{size_holds}
use Rattle.coprocessor.specs.Valid.{start_refusal_of, reduced_of, goes_on, valid_of}
use Rattle.coprocessor.specs.Runs.{setup_of, pen_of, run_refusal}

-- what validity says of a drawing in hand
pub record Going (c : Coprocessor) : Type 0 where
  pub counters : counters_hold c.registers.figure c.drawing ≡ true
  pub starts : is_accepted (start_refusal_of c) ≡ true
  pub pointers : pointers_hold c.registers.figure.operations c.maps c.registers.pointers ≡ true

pub valid_going : (c : Coprocessor) → valid_of c ≡ true → unfinished c.drawing ≡ true → Going c
unfolding valid_of goes_on
valid_going c v going =
    let both = asked (unfinished c.drawing) _ (and_right (size_holds c.size && reduced_of c) (goes_on c) v) going in
    record {
      counters = search (both, and_left, and_right);
      starts = search (both, and_left, and_right);
      pointers = search (both, and_left, and_right);
    }

pub valid_safe : (c : Coprocessor) → valid_of c ≡ true → unfinished c.drawing ≡ true → Safe (setup_of c) c.size (pen_of c)
unfolding start_refusal_of fill_holds fields_hold ends_hold used_maps uses_mask uses_source source_is_colour pointers_hold setup_of pen_of travel_of brush_of flow_of
valid_safe c v going =
    let g = valid_going c v going in
    let ends = (accepted_holds _ _ _ g.starts).ends in
    let fields = (accepted_holds _ _ _ g.starts).fields in
    let operations = c.registers.figure.operations in
    record {
      destination = search (ends, and_left);
      mask = λ used. asked (uses_mask operations) _ (search (ends, and_right)) (enabled_by _ used);
      source = λ used. asked (uses_source operations) _ (search (ends, and_left, and_right)) used;
      pattern = λ used. asked (uses_pattern operations) _ (search (ends, and_left, and_right)) used;
      used = λ read. read;
      crossing =
          λ fills.
          and_left (uses_pattern operations) _
          (asked (is_fill operations) (fill_holds operations) (search (fields, and_right)) fills);
      depth = depth_cut _ _ (bits_le _);
      pointers = g.pointers;
    }

-- an accepted run is of a valid record, over a memory of its size
pub run_allowed : (c : Coprocessor) (memory : List ℕ) → is_accepted (run_refusal c memory) ≡ true → (length memory ≡ c.size) × (valid_of c ≡ true)
unfolding run_refusal
run_allowed c memory e =
    let size = passed (not (eqb (length memory) c.size)) _ _ (λ t. refl) e in
    let valid = passed (not (valid_of c)) _ _ (λ t. refl) size.1 in
    (eqb-true _ _ (not-false _ size.0), not-false _ valid.0)

-- and the other way
pub run_accepted : (c : Coprocessor) (memory : List ℕ) → length memory ≡ c.size → valid_of c ≡ true → run_refusal c memory ≡ Ok tt
unfolding run_refusal
run_accepted c memory size v = rw (eq-eqb _ _ size, v)

-- so its drawing is safe
pub known_safe : (c : Coprocessor) (memory : List ℕ) → length memory ≡ c.size → valid_of c ≡ true → unfinished (pen_of c).drawing ≡ true
    → Safe (setup_of c) (length memory) (pen_of c)
unfolding pen_of
known_safe c memory size v going = rw size (valid_safe c v going)

pub run_safe : (c : Coprocessor) (memory : List ℕ) → is_accepted (run_refusal c memory) ≡ true → unfinished (pen_of c).drawing ≡ true
    → Safe (setup_of c) (length memory) (pen_of c)
run_safe c memory e = let allowed = run_allowed c memory e in known_safe c memory allowed.0 allowed.1
