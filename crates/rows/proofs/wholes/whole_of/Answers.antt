-- `rows::wholes::whole_of` repeats each mask, and a blend of the repeated masks is alike in every pixel.
use Rattle.rows.proofs.WholeLaws.{whole_alike}
use Rattle.rows.proofs.wholes.whole_of.Goals as goal

pub returns : goal.returns
returns c =
    whole_alike _ _ _
    (record {
      always = c.repeated.ensures;
      source = c.repeated-2.ensures;
      destination = c.repeated-3.ensures;
      both = c.repeated-4.ensures;
    })
