-- `draw` leaves what is drawn: the fate judged of what is found is the position's, and only a painted position is written.
use Rattle.std.proofs.Common.{◌≡◌, ℕ, List, true, false, Result, Ok, Err, refl, sym, ap, ◌∙◌, subst, rules}
use Rattle.moves.specs.declared.Pen.{Pen}
use Rattle.places.specs.declared.Setup.{Setup}
use Rattle.position.specs.declared.Target.{Target}
use Rattle.pixels.proofs.Pixels.{cell_in_byte, cell_in_memory}
use Rattle.position.specs.declared.Pattern.{Pattern}
use Rattle.position.specs.declared.Fate.{Fate}
use Rattle.position.specs.declared.Fate.TheVariants.{Moved, Nulled, OutsideMap, OutsideMask, MaskZero, Compared, Painted}
use Rattle.position.specs.Fates.{fate_of}
use Rattle.position.specs.Drawn.{inside_at, drawn}
use Rattle.position.specs.Inner.{is_painted, pattern_read, Aimed, Found}
use Rattle.position.proofs.Writing.{drawn_by_lem}
use Rattle.position.proofs.drawn.draw.Goals as goal
use Rattle.position.proofs.drawn.draw.Goals.{After-look-sight, In-Ok, Then-eq, in_default-via-in-Err-1, in_default-via-in-Ok+else-eq}

-- the bit that is found is the fill's
inside : (c : After-look-sight) → let a = c.args in c.look-sight.result.pattern.inside ≡ inside_at a.setup a.memory.now a.pen
unfolding pattern_read
inside c = ap (λ (p : Pattern). p.inside) c.look-sight.ensures.pattern

-- the target that is found is the position's
aimed : (c : In-Ok) → let a = c.args in Aimed a.setup a.memory.now a.pen c.in-Ok.target
aimed c = let a = c.args in subst (Found a.setup a.memory.now a.pen) c.in-Ok.is c.look-sight.ensures.target

-- so a position is painted that is judged so, and no other
painted : (c : Then-eq) → let a = c.args in Aimed a.setup a.memory.now a.pen c.in-Ok.target → is_painted (fate_of a.setup a.memory.now a.pen) ≡ true
painted c at = let judged : c.judge.result ≡ Painted = search rules in
    ap is_painted (sym (c.judge.ensures _ _ at) ∙ judged)

unpainted : (f : Fate) → (f ≡ Painted → ⊥) → is_painted f ≡ false
unpainted Painted ne = absurd (ne refl)
unpainted Moved ne = refl
unpainted Nulled ne = refl
unpainted OutsideMap ne = refl
unpainted OutsideMask ne = refl
unpainted MaskZero ne = refl
unpainted Compared ne = refl

held : (s : Setup) (memory : List ℕ) (pen : Pen) (r : Result Target Fate) → Found s memory pen r
    → ((t : Target) → r ≡ Ok t → is_painted (fate_of s memory pen) ≡ false)
    → is_painted (fate_of s memory pen) ≡ false
held s memory pen (Ok t) found judged = judged t refl
held s memory pen (Err f) found judged = rw (← found.0) found.1

pub write-requires : goal.write-requires
write-requires c =
    let at = aimed (goal.at.write-requires c).In-Ok in
    rw at.cell (c.requires.1, c.requires.2, cell_in_byte _ _ _ _, cell_in_memory _ _ _ _ (c.requires.3.destination at.on at.inside))

pub returns-then-eq : goal.returns-then-eq
returns-then-eq c =
    let at = aimed (goal.at.returns-then-eq c).In-Ok in
    (inside (goal.at.returns-then-eq c).After-look-sight, c.write.ensures _ c.look-sight.ensures.pattern at (painted (goal.at.returns-then-eq c).Then-eq at))

pub returns-in_default : goal.returns-in_default
unfolding drawn
returns-in_default c = (inside (goal.at.returns-in_default c).After-look-sight, sym (rw (drawn_by_lem _ _ _ _, not_painted)))
  where
    not_painted : is_painted (fate_of c.args.setup c.args.memory.now c.args.pen) ≡ false
    not_painted = held _ _ _ _ c.look-sight.ensures.target (λ t is.
        elim c.in_default.branch [
          | in_default-via-in-Err-1 w ↦ absurd (cc)
          | in_default-via-in-Ok+else-eq w ↦
              let at = subst (Found c.args.setup c.args.memory.now c.args.pen) w.in-Ok.is c.look-sight.ensures.target in
              let ne : w.judge.result ≡ Painted → ⊥ = search rules in
              ap is_painted (sym (w.judge.ensures _ _ at)) ∙ unpainted _ ne
        ])
