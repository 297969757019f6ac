-- `foresee` is the definition: its tests are those of the definition in their order, and at each return those before have failed.
use mathlib.Core.Path.{◌≡◌, ◌∙◌, sym, ap}
use mathlib.Core.Bool.{false, not}
use lib.IntN.{ℤ}
use Rattle.std.specs.Prelude.{Ok, Err}
use mir.Syntax.{w32}
use mir.ValLaws.{to_z-of_z}
use Rattle.numbers.specs.Choose.{choose}
use Rattle.places.specs.Places.{on_map, in_mask, is_move, nulled_by, is_nulled}
use Rattle.places.proofs.ModeLaws.{moves_by_lem}
use Rattle.moves.specs.declared.Pen.{Pen}
use Rattle.places.specs.declared.Setup.{Setup}
use Rattle.position.specs.declared.Fate.TheVariants.{OutsideMap, OutsideMask}
use Rattle.position.specs.Inner.{foreseen_of}
use borrow.Author.Rules.{rules}
use Rattle.position.proofs.judge.foresee.Goals as goal
use Rattle.position.proofs.judge.foresee.Goals.{After-is_move, After-is_nulled}

moves : (c : After-is_move) → let a = c.args in is_move a.setup.travel a.pen.drawing ≡ c.is_move.result
moves c = sym (c.is_move.ensures ∙ moves_by_lem _ _ c.code_in-code.ensures)

nulled : (c : After-is_nulled) → let a = c.args in is_nulled a.setup a.pen ≡ c.is_nulled.result
unfolding is_nulled
nulled c =
    let a = c.args in
    sym (c.is_nulled.ensures
    ∙ ap (λ (z : ℤ). nulled_by a.setup z a.pen.drawing) (to_z-of_z w32 a.pen.e (search rules)))

-- where nothing holds it back, the map and the mask boundary tell
clear : (setup : Setup) (pen : Pen) → is_move setup.travel pen.drawing ≡ false → is_nulled setup pen ≡ false
    → foreseen_of setup pen ≡ choose (not (on_map setup.brush pen)) (Err OutsideMap) (choose (not (in_mask setup.brush pen)) (Err OutsideMask) (Ok tt))
unfolding foreseen_of
clear setup pen drawn plain = rw (drawn, plain)

pub returns-then-is_move : goal.returns-then-is_move
unfolding foreseen_of
returns-then-is_move c = rw (moves (goal.at.returns-then-is_move c).After-is_move ∙ c.if-is_move.true)

pub returns-then-is_nulled : goal.returns-then-is_nulled
unfolding foreseen_of
returns-then-is_nulled c = rw (moves (goal.at.returns-then-is_nulled c).After-is_move ∙ c.if-is_move.false, nulled (goal.at.returns-then-is_nulled c).After-is_nulled ∙ c.if-is_nulled.true)

pub returns-then-not-on_map : goal.returns-then-not-on_map
returns-then-not-on_map c =
    rw (
      clear _ _ (moves (goal.at.returns-then-not-on_map c).After-is_move ∙ c.if-is_move.false) (nulled (goal.at.returns-then-not-on_map c).After-is_nulled ∙ c.if-is_nulled.false),
      sym c.on_map.ensures ∙ c.if-not-on_map.true,
    )

pub returns-then-not-in_mask : goal.returns-then-not-in_mask
returns-then-not-in_mask c =
    rw (
      clear _ _ (moves (goal.at.returns-then-not-in_mask c).After-is_move ∙ c.if-is_move.false) (nulled (goal.at.returns-then-not-in_mask c).After-is_nulled ∙ c.if-is_nulled.false),
      sym c.on_map.ensures ∙ c.if-not-on_map.false,
      sym c.in_mask.ensures ∙ c.if-not-in_mask.true,
    )

pub returns : goal.returns
returns c =
    rw (
      clear _ _ (moves (goal.at.returns c).After-is_move ∙ c.if-is_move.false) (nulled (goal.at.returns c).After-is_nulled ∙ c.if-is_nulled.false),
      sym c.on_map.ensures ∙ c.if-not-on_map.false,
      sym c.in_mask.ensures ∙ c.if-not-in_mask.false,
    )
