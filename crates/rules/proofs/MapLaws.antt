-- The map that a field names is one of the four, so no default is ever read; and no map takes more than 65,536 rows of 65,536 bytes.
use mathlib.Core.Path.{◌≡◌}
use mathlib.Core.List.{List}
use Prim.Native.Nat.{ℕ, ◌+◌, ◌*◌, ◌%◌, ◌≤◌, ◌<◌}
use native.Mathlib.Nat.{mul-le-mul}
use native.Mathlib.Omega.{arith}
use lib.ListN.{length, get_or}
use Rattle.std.proofs.lemmas.List.{get_or_default}
use Rattle.pixels.specs.declared.Map.{Map}
use Rattle.pixels.specs.Maps.{needed_of}
use Rattle.pixels.proofs.Maps.{bits_le}
use Rattle.rules.specs.Maps.{fresh_map, map_at}

pub map_at_lem : (maps : List Map) (field : ℕ) (d : Map) → length maps ≡ 4 → map_at maps field ≡ get_or maps (field % 4) d
unfolding map_at
map_at_lem maps field d four = get_or_default maps (field % 4) fresh_map d (omega arith)

pub needed_le : (map : Map) → map.width < 65536 → map.height < 65536 → needed_of map ≤ 65536 * 65536
unfolding needed_of
needed_le map w h =
    let pixels : (map.width + 1) * (map.height + 1) ≤ 65536 * 65536 = mul-le-mul {n₂ = 65536} {m₂ = 65536} (omega arith) (omega arith) in
    omega (arith, mul-le-mul {m₂ = 8} pixels (bits_le map.format))
