-- `memory_text` lays byte after byte of the memory in hex: those laid and those left make the whole.
use Rattle.std.proofs.Common.{sym, ◌∙◌, arith}
use Rattle.console.proofs.TextLaws.{memory_begins, memory_on, memory_ends}
use Rattle.console.proofs.texts.memory_text.Goals as goal

pub loop-i-init : goal.loop-i-init
loop-i-init c = (c.told-out, memory_begins _ _ (omega (arith, c.told-out, c.told-memory)))

pub loop-i-preserved : goal.loop-i-preserved
loop-i-preserved c =
    let l = c.loop-i in let p = c.put in
    (p.auto.out ∙ l.invariant.0, rw (p.ensures.1, c.byte_text.ensures) (sym (memory_on _ _ _ (omega (arith, c.told-memory, c.loop-i-test.true))) ∙ l.invariant.1))

pub returns : goal.returns
returns c = record { out_after = sym (memory_ends _ _ _ (omega (arith, c.told-memory, c.loop-i-test.false))) ∙ c.loop-i.invariant.1; value = sym c.loop-i.invariant.0 }
