-- Where the map is used, `turned` turns a pointer that lies in it.
use Rattle.numbers.proofs.Choices.{asked}
use Rattle.rules.proofs.PointerLaws.{inside_x, inside_y}
use Rattle.moves.proofs.Ground.turned.Goals as goal

pub by-requires : goal.by-requires
by-requires c = inside_x _ _ (asked c.args.self.used _ c.requires c.if-self.true)

pub by-requires-then-self : goal.by-requires-then-self
by-requires-then-self c = inside_y _ _ (asked c.args.self.used _ c.requires c.if-self.true)
