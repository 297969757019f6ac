-- What the registers say of a drawing's moves, decoded once.
use Rattle.std.specs.Prelude.{ℕ, ◌/◌, ◌%◌, ◌||◌, List, eqb}
use Rattle.numbers.specs.Choose.{choose}
use Rattle.pixels.specs.declared.Map.{Map}
use Rattle.parts.specs.declared.shapes.Figure.{Figure}
use Rattle.parts.specs.declared.shapes.Terms.{Terms}
use Rattle.rules.specs.Operations.{function_of, source_field, pattern_field, mode_of, octant_of, uses_source, uses_pattern}
use Rattle.rules.specs.Maps.{map_at}
use Rattle.moves.specs.declared.Turn.{Turn}
use Rattle.moves.specs.declared.Turn.TheVariants.{Stay, Forth, Back}
use Rattle.parts.specs.declared.shapes.Point.{Point}
use Rattle.moves.specs.declared.Course.{Course}
use Rattle.moves.specs.declared.Travel.{Travel}

-- 01, The functions: a sign bit: 1 is negative
unfoldable pub sign_of : ℕ → Turn
sign_of bit = choose (eqb bit 1) Back Forth

-- 01, The functions, Line: octant bit 0 is Y major: a step of the major axis alone
unfoldable pub straight_of : ℕ → Point Turn
straight_of octant =
    choose (eqb (octant % 2) 1) (record { x = Stay; y = sign_of (octant / 2 % 2) }) (record { x = sign_of (octant / 4 % 2); y = Stay })

-- 01, The functions: octant bit 2 is negative X, bit 1 negative Y; 003: functions 2 and 3 read, function 9 inverts,
-- drawing mode 11 draws an area boundary
unfoldable pub course_of : ℕ → Course
course_of operations =
    record {
      x = sign_of (octant_of operations / 4 % 2);
      y = sign_of (octant_of operations / 2 % 2);
      straight = straight_of (octant_of operations);
      read = eqb (function_of operations) 2 || eqb (function_of operations) 3;
      inverts = eqb (function_of operations) 9;
      bounds = eqb (mode_of operations) 3;
    }

-- 01, Registers, 7C: what the moves need: the fields choose the maps of the source and pattern pointers
unfoldable pub travel_of : Figure → List Map → Terms → Travel
travel_of f maps terms =
    record {
      course = course_of f.operations;
      source = record { used = uses_source f.operations; map = map_at maps (source_field f.operations) };
      pattern = record { used = uses_pattern f.operations; map = map_at maps (pattern_field f.operations) };
      figure = f;
      k1 = terms.k1;
      k2 = terms.k2;
    }
