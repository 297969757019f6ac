-- `put_numbered` lays three pieces, each from the end of the one before.
use Rattle.std.proofs.Common.{◌≡◌, ◌≤◌, length, arith, sym, ◌∙◌}
use lib.Seq.{length-take-le}
use Rattle.console.specs.Texts.{decimal}
use Rattle.console.proofs.TextLaws.{decimal_written, numbered_laid, numbered_length}
use Rattle.console.proofs.texts.put_numbered.Goals as goal

pub returns-clause-value : goal.returns-clause-value
returns-clause-value c =
    let first = c.put-first.ensures in let second = c.put-second.ensures in let f = c.format.ensures in
    let digits : c.as_bytes.result.now ≡ decimal 20 c.args.n =
    c.as_bytes.ensures.value ∙ f.text ∙ sym (decimal_written c.args.n (omega arith) (let fits = f.fits in rw f.text at fits)) in
    rw (c.put.ensures.0, c.put.ensures.1, second.1, second.0, digits, first.1, first.0) (sym (numbered_length _ _ _), numbered_laid _ _ _ _)

pub returns-clause-counted : goal.returns-clause-counted
returns-clause-counted c =
    let within : c.put.result ≤ length c.put.new.out =
    omega (arith, c.put.ensures.0, c.put.auto.out, c.put-second.auto.out, c.put-first.auto.out, c.put-second.ensures.0, c.put-first.ensures.0, c.requires, c.format.ensures.fits) in
    (within, sym (length-take-le _ _ within))
