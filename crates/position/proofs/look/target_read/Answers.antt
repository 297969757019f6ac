-- `target_read` finds the destination and the source where nothing keeps the position back, and otherwise the fate.
use Rattle.std.proofs.Common.{◌≡◌, ℕ, List, Result, Ok, Err, true, length, refl, sym, ◌∙◌, subst}
use Rattle.std.specs.Result.{IsErrAnd}
use Rattle.pixels.specs.Pixels.{pixel_at}
use Rattle.pixels.specs.Inner.{cell_at}
use Rattle.pixels.proofs.Pixels.{cell_in_byte}
use Rattle.moves.specs.declared.Pen.{Pen}
use Rattle.places.specs.declared.Setup.{Setup}
use Rattle.places.specs.Places.{on_map, in_mask}
use Rattle.position.specs.declared.Fate.{Fate}
use Rattle.position.specs.declared.Target.{Target}
use Rattle.position.specs.Fates.{destination_pixel, fate_of}
use Rattle.position.specs.Inner.{Found}
use Rattle.position.specs.Within.{Within}
use Rattle.position.proofs.Writing.{judged, free, kept_back}
use Rattle.position.proofs.look.target_read.Goals as goal
use Rattle.position.proofs.look.target_read.Goals.{In_ok-foresee}

-- a position that nothing keeps back is inside its map and the mask boundary, and judged
clear : (c : In_ok-foresee) → let a = c.args in
    (on_map a.setup.brush a.pen ≡ true) × (in_mask a.setup.brush a.pen ≡ true) × (fate_of a.setup a.memory.now a.pen ≡ judged a.setup a.memory.now a.pen)
clear c = free _ _ _ (sym c.foresee.ensures ∙ c.in_ok-foresee.was)

inside : (c : In_ok-foresee) → let a = c.args in
    Within a.setup (length a.memory.now) a.pen × (on_map a.setup.brush a.pen ≡ true) × (in_mask a.setup.brush a.pen ≡ true)
inside c = (c.requires, (clear c).0, (clear c).1)

-- a fate that is handed on stays
handed_on : (s : Setup) (memory : List ℕ) (pen : Pen) (r : Result Target Fate) (f : Fate) → IsErrAnd r (λ e. e ≡ f) → Found s memory pen (Err f) → Found s memory pen r
handed_on s memory pen (Ok _) f same found = elim same [ ]
handed_on s memory pen (Err e) f same found = subst (λ (g : Fate). Found s memory pen (Err g)) (sym same) found

pub returns-in_err-foresee : goal.returns-in_err-foresee
returns-in_err-foresee c =
    let back = kept_back c.args.setup c.args.memory.now c.args.pen _ (sym c.foresee.ensures ∙ c.in_err-foresee.was) in
    handed_on _ _ _ _ _ c.from_residual.ensures.1 back

pub is_on_zero-requires : goal.is_on_zero-requires
is_on_zero-requires c = inside (goal.at.is_on_zero-requires c).In_ok-foresee

pub returns-then-is_on_zero : goal.returns-then-is_on_zero
returns-then-is_on_zero c = (sym (rw ((clear (goal.at.returns-then-is_on_zero c).In_ok-foresee).2, ← c.is_on_zero.ensures, c.if-is_on_zero.true)), refl)

pub destination_cell-cell-requires : goal.destination_cell-cell-requires
destination_cell-cell-requires c = inside (goal.at.destination_cell-cell-requires c).In_ok-foresee

pub value-requires : goal.value-requires
value-requires c = rw c.destination_cell-cell.ensures (cell_in_byte _ _ _ _)

pub returns : goal.returns
unfolding cell_at pixel_at destination_pixel
returns c = let at = clear (goal.at.returns c).In_ok-foresee in
    record {
      on = at.0;
      inside = at.1;
      fate = rw (at.2, ← c.is_on_zero.ensures, c.if-is_on_zero.false);
      cell = c.destination_cell-cell.ensures;
      pixel = rw (c.value.ensures, c.destination_cell-cell.ensures);
      source = c.source_read.ensures;
    }
