-- The parity of an outline: each of its strokes is set up to turn pixels, so all of them together turn a pixel as often as they cross there.
use mathlib.Core.Path.{◌≡◌, sym, ap, subst, ◌∙◌}
use mathlib.Core.Bool.{true}
use mathlib.Core.List.{List}
use Prim.Native.Nat.{ℕ, ◌+◌, ◌%◌, ◌^◌, ◌≤◌, ◌<◌}
use native.Mathlib.Omega.{arith}
use lib.ListN.{length}
use borrow.Author.Tests.{eq-eqb}
use Rattle.numbers.proofs.Choices.{choose_true, choose_false}
use Rattle.pixels.specs.declared.Map.{Map}
use Rattle.pixels.specs.Maps.{bits_of, place_of}
use Rattle.pixels.specs.Pixels.{pixel_at}
use Rattle.pixels.proofs.Pixels.{pixel_lt}
use Rattle.parts.specs.Drawings.{unfinished}
use Rattle.rules.specs.Operations.{function_of, is_map, is_fill, is_block, mode_of, uses_pattern}
use Rattle.mixes.specs.Mixes.{depth_of}
use Rattle.moves.specs.Decoded.{course_of, travel_of}
use Rattle.places.specs.Places.{named_mask, named_mode}
use Rattle.places.specs.Decoded.{edge_of, flow_of, brush_of}
use Rattle.coprocessor.specs.declared.Coprocessor.{Coprocessor}
use Rattle.coprocessor.specs.Runs.{setup_of, pen_of, ran_of, whole_of, run_memory}
use Rattle.coprocessor.proofs.KnownRuns.{destination_on, destination_held, run_memory_lem, run_length}
use Rattle.areas.specs.Crossings.{crossings}
use Rattle.areas.specs.Outlines.{Stroke, Strokes, none, more, outlined, crossings_of}
use Rattle.areas.proofs.DrawnByRows.{writes, bounding}
use Rattle.areas.proofs.Toggles.{Toggles}
use Rattle.areas.proofs.Strokes.{toggled_after}

-- ---- how a stroke is set up

module _ (map : Map) (size : ℕ) (c : Coprocessor) (stroke : Stroke map size c) where
  stroke_toggles : bits_of map.format ≡ 1 → Toggles (setup_of c)
  unfolding setup_of travel_of brush_of flow_of course_of edge_of depth_of mode_of is_block is_fill uses_pattern is_map
  stroke_toggles one =
      let w = writes (function_of c.registers.figure.operations) stroke.function in
      let mode : mode_of c.registers.figure.operations ≡ 3 = choose_false _ _ w.block ∙ stroke.mode in
      let bits = ap (λ (m : Map). bits_of m.format) stroke.destination ∙ one in
      let plane : c.registers.colours.planes % 2 ^ 1 % 2 ≡ 1 = omega (arith, stroke.plane) in
      record {
        bits = bits;
        depth = bits;
        write = w.read;
        mode = ap named_mode mode;
        bounds = bounding c mode;
        edge = choose_true _ _ (eq-eqb _ 3 mode);
        mask = ap named_mask stroke.mask;
        pattern = rw stroke.pattern;
        derived = rw stroke.pattern;
        source = rw stroke.source;
        mix = stroke.mix;
        colour = stroke.colour;
        condition = stroke.condition;
        plane = ap (λ (n : ℕ). c.registers.colours.planes % 2 ^ n % 2) bits ∙ plane;
      }

  -- ---- its run

  run_toggles : bits_of map.format ≡ 1 → (memory : List ℕ) → length memory ≡ size → (x y : ℕ) → x ≤ map.width → y ≤ map.height → (n : ℕ)
      → pixel_at (run_memory c memory n) map x y ≡ (pixel_at memory map x y + crossings (setup_of c).travel (pen_of c) x y n) % 2
  unfolding ran_of setup_of pen_of brush_of
  run_toggles one memory same x y across down n =
      ap (λ (m : List ℕ). pixel_at m map x y) (run_memory_lem c stroke.valid memory (same ∙ sym stroke.memory) n)
      ∙ subst
      (λ (m : Map).
      x ≤ m.width → y ≤ m.height → (unfinished c.drawing ≡ true → place_of m x y < length memory)
      → pixel_at (ran_of c memory n).memory m x y ≡ (pixel_at memory m x y + crossings (setup_of c).travel (pen_of c) x y n) % 2) stroke.destination
      (λ a d h. toggled_after (setup_of c) (stroke_toggles one) (pen_of c) stroke.start (destination_on c stroke.valid).1 memory x y a d h n)
      across down (λ going. rw (stroke.destination, stroke.memory, ← same) at (destination_held c stroke.valid going x y) across down)

-- ---- all strokes

module _ (map : Map) (size : ℕ) (one : bits_of map.format ≡ 1) (x y : ℕ) (across : x ≤ map.width) (down : y ≤ map.height) where
  outline_toggles : {cs : List Coprocessor} → Strokes map size cs → (memory : List ℕ) → length memory ≡ size
      → pixel_at (outlined cs memory) map x y ≡ (pixel_at memory map x y + crossings_of cs x y) % 2
  unfolding outlined crossings_of
  outline_toggles none memory same = omega (arith, rw one at (pixel_lt memory map x y))
  outline_toggles (more {c} {cs} stroke strokes) memory same =
      let first = run_toggles map size c stroke one memory same x y across down (whole_of c) in
      outline_toggles strokes (run_memory c memory (whole_of c)) (run_length c stroke.valid memory (same ∙ sym stroke.memory) (whole_of c) ∙ same) ∙ omega arith

-- 02, 102: drawn into a map of zeros an outline leaves 1 where it crosses an odd number of times, and 0 elsewhere
pub outline_parity : (map : Map) (size : ℕ) (cs : List Coprocessor) (memory : List ℕ)
    → Strokes map size cs → bits_of map.format ≡ 1 → length memory ≡ size
    → ((x y : ℕ) → x ≤ map.width → y ≤ map.height → pixel_at memory map x y ≡ 0)
    → (x y : ℕ) → x ≤ map.width → y ≤ map.height
    → pixel_at (outlined cs memory) map x y ≡ crossings_of cs x y % 2
outline_parity map size cs memory strokes one same clear x y across down =
    let toggles = outline_toggles map size one x y across down strokes memory same in
    let none = clear x y across down in
    omega arith
