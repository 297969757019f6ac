-- `value_at` is the asked part of the word in which a placed read lies, whose bytes are the bank's.
use Prim.Native.Nat.{◌<◌}
use lib.ListN.{length}
use mathlib.Core.Path.{◌≡◌, ◌∙◌}
use Prim.Native.Nat.{◌+◌, ◌*◌, ◌/◌, ◌%◌}
use native.Mathlib.Omega.{arith}
use Rattle.image.specs.Bank.{read_from}
use Rattle.image.proofs.WordLaws.{part_bytes}
use Rattle.coprocessor.specs.Reads.{value_at}
use Rattle.coprocessor.proofs.PlaceLaws.{placed_known}
use Rattle.coprocessor.proofs.Coprocessor.value_at.Goals as goal

pub bounds-words-i : goal.bounds-words-i
bounds-words-i c = let p = placed_known _ _ c.requires in omega (arith, p.low)

pub part-requires : goal.part-requires
part-requires c = (placed_known _ _ c.requires).within

pub returns : goal.returns
unfolding value_at read_from
returns c =
    let start = c in
    let a = start.args in
    let p = placed_known _ _ start.requires in
    let there : a.offset / 4 < length c.bank-words.result = omega (arith, p.low) in
    let whole : 4 * (a.offset / 4) + a.offset % 4 ≡ a.offset = omega arith in
    c.part.ensures ∙ part_bytes c.bank-words.result (a.offset / 4) (a.offset % 4) a.length there p.within ∙ rw (whole, c.bank-words.ensures)
