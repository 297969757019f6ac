-- Whether a record is the one that its own image loads to: the image rules, on the record.
use Rattle.std.specs.Prelude.{Bool, not, ◌&&◌, ◌||◌, List, Result}
use Rattle.pixels.specs.declared.Map.{Map}
use Rattle.parts.specs.declared.refusals.Refusal.{Refusal}
use Rattle.parts.specs.Refusals.{is_accepted}
use Rattle.parts.specs.Drawings.{unfinished}
use Rattle.parts.specs.Reduced.{map_reduced, registers_reduced}
use Rattle.rules.specs.Maps.{map_at}
use Rattle.rules.specs.Rules.{start_refusal}
use Rattle.rules.specs.Going.{counters_hold, pointers_hold}
use Rattle.coprocessor.specs.declared.Coprocessor.{Coprocessor}
use Rattle.coprocessor.specs.Fresh.{size_holds}

-- 01, refusals 5 to 8, on the record's registers
unfoldable pub start_refusal_of : Coprocessor → Result Unit Refusal
start_refusal_of c = start_refusal c.size c.maps c.registers

-- 01, State image: the reductions of all four maps
unfoldable pub maps_reduced : List Map → Bool
maps_reduced maps =
    map_reduced (map_at maps 0) && map_reduced (map_at maps 1) && map_reduced (map_at maps 2) && map_reduced (map_at maps 3)

-- 01, State image: every reduction holds
unfoldable pub reduced_of : Coprocessor → Bool
reduced_of c = maps_reduced c.maps && registers_reduced c.registers

-- 01, State image: if a drawing is in hand, the start rules hold for a function that draws, a position remains at its counters, and used pointers lie
-- in their maps
unfoldable pub goes_on : Coprocessor → Bool
goes_on c =
    not (unfinished c.drawing)
    || (counters_hold c.registers.figure c.drawing
    && is_accepted (start_refusal_of c)
    && pointers_hold c.registers.figure.operations c.maps c.registers.pointers)

-- 01, refusal 10, on a record; that its own image loads to it exactly then is `own_image` in laws/proofs/LoadedLaws.antt
unfoldable pub valid_of : Coprocessor → Bool
valid_of c = size_holds c.size && reduced_of c && goes_on c
