-- A copy's registers set it up as one: the start rules of a valid record hold its maps to one size and its pointers inside them.
use mathlib.Core.Path.{◌≡◌, refl, ap, ◌∙◌}
use mathlib.Core.Bool.{true}
use mathlib.Core.List.{List}
use Prim.Native.Nat.{ℕ, ◌/◌, ◌%◌, ◌≤◌, ◌<◌}
use native.Mathlib.Omega.{arith}
use lib.ListN.{length, get_or}
use borrow.Author.Tests.{ltb-true, eqb-true}
use Rattle.numbers.proofs.Choices.{asked, and_left, and_right}
use Rattle.pixels.specs.Maps.{bits_of, place_of}
use Rattle.pixels.specs.Pixels.{pixel_at}
use Rattle.mixes.specs.Mixes.{depth_of}
use Rattle.parts.specs.Drawings.{unfinished}
use Rattle.parts.specs.Reduced.{point_reduced, figure_reduced, registers_reduced}
use Rattle.rules.specs.Operations.{octant_of, is_map, is_fill, is_block, mode_of, source_is_colour, uses_source, uses_pattern}
use Rattle.rules.specs.Rules.{formats_hold}
use Rattle.rules.specs.Going.{pointers_hold}
use Rattle.rules.specs.Totals.{total_of}
use Rattle.rules.proofs.RefusalLaws.{accepted_holds}
use Rattle.moves.specs.Decoded.{course_of, travel_of}
use Rattle.places.specs.Places.{is_within, column_of, named_mask}
use Rattle.places.specs.Decoded.{edge_of, flow_of, brush_of}
use Rattle.position.proofs.Writing.{drawn_bytes}
use Rattle.runs.specs.Runs.{Run, begun, positioned}
use Rattle.runs.proofs.RunLaws.{kept_after, bytes_after, pixels_after}
use Rattle.coprocessor.specs.declared.Coprocessor.{Coprocessor}
use Rattle.coprocessor.specs.Valid.{start_refusal_of}
use Rattle.coprocessor.specs.Runs.{setup_of, pen_of, ran_of, whole_of, position_at, run_memory}
use Rattle.coprocessor.proofs.SafeLaws.{Going, valid_going}
use Rattle.coprocessor.proofs.KnownRuns.{registers_reduced_lem, destination_on, destination_held, run_memory_lem}
use Rattle.copies.specs.Copies.{from_map, to_map, Copy, from_place, to_place}
use Rattle.copies.proofs.Positions.{Blocks}
use Rattle.copies.proofs.Copying.{Copies, copied_after, nothing_changed}

module _ (c : Coprocessor) (copy : Copy c) where
  abbrev operations : ℕ
  operations = c.registers.figure.operations

  -- ---- how it is set up

  going : Going c
  going = valid_going c copy.valid (ap unfinished copy.start)

  colours : source_is_colour operations ≡ true
  unfolding source_is_colour
  colours = rw copy.source

  uses : uses_source operations ≡ true
  unfolding uses_source
  uses = rw colours

  -- source and destination are of one size
  one_size : bits_of (from_map c).format ≡ bits_of (to_map c).format
  unfolding start_refusal_of formats_hold
  one_size =
      let formats = (accepted_holds _ _ _ going.starts).formats in
      eqb-true _ _ (asked (source_is_colour operations) _ (search (formats, and_left, and_right)) colours)

  copy_setup : Copies (setup_of c)
  unfolding setup_of travel_of brush_of flow_of edge_of depth_of mode_of is_block is_fill uses_pattern is_map
  copy_setup =
      record {
        edge = rw copy.function;
        mask = ap named_mask copy.mask;
        condition = copy.condition;
        pattern = rw copy.pattern;
        derived = rw copy.pattern;
        source = rw copy.source;
        mix = copy.mix;
        size = one_size;
        depth = refl;
        planes = copy.planes;
        apart = copy.apart;
      }

  copy_blocks : Blocks (setup_of c) c.registers.pointers
  unfolding setup_of travel_of brush_of flow_of course_of is_fill pointers_hold
  copy_blocks =
      let inside = going.pointers in
      record {
        fills = rw copy.function;
        used = uses;
        inverts = rw copy.function;
        inside = asked (uses_source operations) _ (search (inside, and_left)) uses;
        across = (destination_on c copy.valid).0;
        down = (destination_on c copy.valid).1;
      }

  pub columns_few : c.registers.figure.dimensions.x < 4096
  unfolding registers_reduced figure_reduced point_reduced
  columns_few = let r = registers_reduced_lem c copy.valid in ltb-true _ 4096 (search (r, and_left, and_right))

  pub rows_few : c.registers.figure.dimensions.y < 4096
  unfolding registers_reduced figure_reduced point_reduced
  rows_few = let r = registers_reduced_lem c copy.valid in ltb-true _ 4096 (search (r, and_left, and_right))

  -- ---- its run

  module _ (memory : List ℕ) (whole : length memory ≡ c.size) where
    -- the run is accepted
    ran : (n : ℕ) → run_memory c memory n ≡ (ran_of c memory n).memory
    ran = run_memory_lem c copy.valid memory whole

    -- 02, 101: of a copy's positions that are done each has left its source pixel in its destination pixel, if that lies in the map, whatever the two orders
    pub block_copied : (column row : ℕ) → column ≤ c.registers.figure.dimensions.x → row ≤ c.registers.figure.dimensions.y
        → is_within (to_map c).width (to_place c column row).x ≡ true → is_within (to_map c).height (to_place c column row).y ≡ true
        → (n : ℕ) → position_at c column row < n → n ≤ whole_of c
        → pixel_at (run_memory c memory n) (to_map c) (column_of (to_place c column row).x) (column_of (to_place c column row).y)
        ≡ pixel_at memory (from_map c) (from_place c column row).x (from_place c column row).y
    unfolding ran_of setup_of pen_of travel_of brush_of course_of begun total_of from_place to_place
    block_copied column row h v across down n less all =
        ap (λ (m : List ℕ). pixel_at m (to_map c) (column_of (to_place c column row).x) (column_of (to_place c column row).y)) (ran n)
        ∙ copied_after (setup_of c) c.registers.pointers copy_setup copy_blocks (octant_of operations / 4 % 2) (octant_of operations / 2 % 2) refl refl
        (omega (arith, columns_few)) (omega (arith, rows_few)) (begun (pen_of c) memory) copy.start refl
        (λ x y a d. rw whole (destination_held c copy.valid (ap unfinished copy.start) x y a d)) column row (omega arith) v across down n less (rw copy.start at all)

    -- a copy whose destination pixels already are its source pixels changes no byte
    pub block_unchanged : ((column row : ℕ) → column ≤ c.registers.figure.dimensions.x → row ≤ c.registers.figure.dimensions.y
        → pixel_at memory (from_map c) (from_place c column row).x (from_place c column row).y
        ≡ pixel_at memory (to_map c) (column_of (to_place c column row).x) (column_of (to_place c column row).y))
        → (n : ℕ) → n ≤ whole_of c → run_memory c memory n ≡ memory
    unfolding ran_of setup_of pen_of travel_of brush_of course_of begun total_of from_place to_place
    block_unchanged agrees n all =
        ran n
        ∙ nothing_changed (setup_of c) c.registers.pointers copy_setup copy_blocks (octant_of operations / 4 % 2) (octant_of operations / 2 % 2) refl refl
        (omega (arith, columns_few)) (omega (arith, rows_few)) (begun (pen_of c) memory) copy.start refl
        (λ x y a d. rw whole (destination_held c copy.valid (ap unfinished copy.start) x y a d)) (λ column row h v. agrees column row (omega arith) v) n (rw copy.start at all)

    -- bytes stay bytes
    pub run_bytes_lem : ((j : ℕ) → get_or memory j 0 < 256) → (n j : ℕ) → get_or (run_memory c memory n) j 0 < 256
    unfolding ran_of begun positioned
    run_bytes_lem bytes n j =
        rw (ran n)
        (kept_after (setup_of c) (λ (u : Run). (i : ℕ) → get_or u.memory i 0 < 256)
        (λ u going held. drawn_bytes (setup_of c) u.memory u.pen held) n (begun (pen_of c) memory) bytes j)

    -- the source's pixels stay
    pub run_source : (n x y : ℕ) → x ≤ (from_map c).width → y ≤ (from_map c).height → pixel_at (run_memory c memory n) (from_map c) x y ≡ pixel_at memory (from_map c) x y
    unfolding ran_of setup_of brush_of begun
    run_source n x y h v =
        ap (λ (m : List ℕ). pixel_at m (from_map c) x y) (ran n)
        ∙ pixels_after (setup_of c) (from_map c) copy.apart n (begun (pen_of c) memory) x y h v

    -- a byte of no pixel of the destination's map stays
    pub run_other : (j : ℕ) → ((x y : ℕ) → x ≤ (to_map c).width → y ≤ (to_map c).height → j ≡ place_of (to_map c) x y → ⊥)
        → (n : ℕ) → get_or (run_memory c memory n) j 0 ≡ get_or memory j 0
    unfolding ran_of setup_of brush_of begun
    run_other j none n = ap (λ (m : List ℕ). get_or m j 0) (ran n) ∙ bytes_after (setup_of c) j none n (begun (pen_of c) memory)
