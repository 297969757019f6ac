-- What is known of a run of a valid record over a memory of its size: it is accepted, its destination's map ends within the memory, and its pointers are on their circle.
use mathlib.Core.Path.{◌≡◌, ap, ◌∙◌}
use mathlib.Core.Bool.{true}
use mathlib.Core.List.{List}
use Prim.Native.Nat.{ℕ, ◌+◌, ◌≤◌, ◌<◌}
use native.Mathlib.Omega.{arith}
use lib.ListN.{length}
use borrow.Author.Tests.{leb-true}
use Rattle.numbers.proofs.Choices.{choose_true, and_left, and_right}
use Rattle.pixels.specs.declared.Map.{Map}
use Rattle.pixels.specs.Maps.{place_of, needed_of}
use Rattle.pixels.proofs.Maps.{place_lt}
use Rattle.parts.specs.Drawings.{unfinished}
use Rattle.parts.specs.Refusals.{is_accepted}
use Rattle.parts.specs.Reduced.{spot_reduced, pointers_reduced, registers_reduced}
use Rattle.parts.proofs.ReducedLaws.{destination_circle_fixed}
use Rattle.rules.specs.Operations.{destination_field}
use Rattle.rules.specs.Maps.{map_at, end_holds}
use Rattle.moves.proofs.CircledLaws.{OnCircle}
use Rattle.places.specs.Decoded.{brush_of}
use Rattle.runs.specs.Runs.{begun}
use Rattle.runs.proofs.RunLaws.{length_after}
use Rattle.coprocessor.specs.declared.Coprocessor.{Coprocessor}
use Rattle.coprocessor.specs.Valid.{reduced_of, valid_of}
use Rattle.coprocessor.specs.Runs.{setup_of, pen_of, ran_of, run_memory}
use Rattle.coprocessor.proofs.SafeLaws.{valid_safe, run_accepted}

module _ (c : Coprocessor) (valid : valid_of c ≡ true) where
  pub registers_reduced_lem : registers_reduced c.registers ≡ true
  unfolding valid_of reduced_of
  registers_reduced_lem = search (valid, and_left, and_right)

  pub destination_on : OnCircle c.registers.pointers.destination.x × OnCircle c.registers.pointers.destination.y
  unfolding registers_reduced pointers_reduced spot_reduced
  destination_on =
      let r = registers_reduced_lem in (
        destination_circle_fixed c.registers.pointers.destination.x (search (r, and_left, and_right)),
        destination_circle_fixed c.registers.pointers.destination.y (search (r, and_left, and_right)),
      )

  pub destination_held : unfinished c.drawing ≡ true → (x y : ℕ)
      → let map : Map = map_at c.maps (destination_field c.registers.figure.operations) in
      x ≤ map.width → y ≤ map.height → place_of map x y < c.size
  unfolding setup_of brush_of end_holds
  destination_held going x y across down =
      let map : Map = map_at c.maps (destination_field c.registers.figure.operations) in
      let ends = (valid_safe c valid going).destination in
      omega (arith, place_lt map x y across down, leb-true (map.base + needed_of map) c.size ends)

  module _ (memory : List ℕ) (whole : length memory ≡ c.size) (n : ℕ) where
    pub run_memory_lem : run_memory c memory n ≡ (ran_of c memory n).memory
    unfolding run_memory
    run_memory_lem = choose_true _ _ (ap is_accepted (run_accepted c memory whole valid))

    pub run_length : length (run_memory c memory n) ≡ length memory
    unfolding ran_of begun
    run_length = ap length run_memory_lem ∙ length_after (setup_of c) n (begun (pen_of c) memory)
