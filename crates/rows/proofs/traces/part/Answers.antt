-- `rows::traces::part` mends the one byte, in the field that is the pixel, with what the blend makes of it.
use Rattle.std.proofs.Common.{◌<◌, get_or, set, ap, ◌∙◌, rules}
use Rattle.numbers.specs.Fields.{field, with_field}
use Rattle.pixels.specs.Inner.{place_at}
use Rattle.pixels.proofs.Maps.{shift_in_byte}
use Rattle.rows.specs.Inner.{wholly}
use Rattle.rows.proofs.TraceLaws.{dot_made}
use Rattle.rows.proofs.traces.part.Goals as goal

pub mend-requires : goal.mend-requires
mend-requires c =
    let start = c in
    rw (c.place_at.ensures, c.shift_at.ensures, c.bits_of.ensures)
    (start.requires, shift_in_byte start.args.format start.args.n)

pub returns : goal.returns
returns c = λ op alike.
    let a = c.args in
    let m = a.memory.now in
    let P = place_at a.format a.base a.n in
    let place = c.place_at.ensures in
    let up = c.shift_at.ensures in
    let size = c.bits_of.ensures in
    let byte : get_or m P 0 < 256 = search rules in
    c.mend.ensures
    ∙ (λ i. set m (place i) (with_field (up i) (size i) (field (up i) (size i) (wholly a.whole 0 (get_or m (place i) 0))) (get_or m (place i) 0)))
    ∙ ap (set m P) (dot_made op (wholly a.whole) a.format a.n (get_or m P 0) alike byte)
