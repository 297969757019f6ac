-- `pattern_read` is the definition: the pixel at the pattern pointer lies in the memory where its map is used, and without that map there is no fill.
use mathlib.Core.Path.{◌≡◌, sym}
use mathlib.Core.Bool.{true}
use borrow.Author.Tests.{not-true, not-false}
use Rattle.position.specs.Drawn.{is_one, inside_at}
use Rattle.position.specs.Inner.{pattern_read}
use Rattle.position.proofs.Safety.{pattern_unread}
use Rattle.position.proofs.look.pattern_read.Goals as goal
use Rattle.position.proofs.look.pattern_read.Goals.{Else-not-setup}

uses : (c : Else-not-setup) → c.args.setup.travel.pattern.used ≡ true
uses c = not-false _ c.if-not-setup.false

pub returns-then-not-setup : goal.returns-then-not-setup
returns-then-not-setup c = let start = c in
    sym (pattern_unread _ _ _ start.requires.0 (not-true start.args.setup.travel.pattern.used c.if-not-setup.true))

pub returns-then-setup : goal.returns-then-setup
unfolding pattern_read inside_at is_one
returns-then-setup c = let used = uses (goal.at.returns-then-setup c).Else-not-setup in
    rw (used, c.if-setup.true, c.inside_after-inside.ensures, c.get-pixel.ensures)

pub returns-else-setup : goal.returns-else-setup
unfolding pattern_read inside_at is_one
returns-else-setup c = let used = uses (goal.at.returns-else-setup c).Else-not-setup in
    rw (used, c.if-setup.false, c.get-pixel.ensures)
