-- `is_nulled` is the definition: a block is left out by no drawing mode.
use mathlib.Core.Path.{sym}
use mathlib.Core.Logic.{⊎_elim}
use Rattle.places.specs.Places.{is_first, is_last, on_boundary, named_mode, nulled_by}
use Rattle.places.proofs.ModeLaws.{none_left}
use Rattle.places.proofs.modes.is_nulled.Goals as goal

pub returns-in-Nothing : goal.returns-in-Nothing
unfolding is_first is_last on_boundary nulled_by
returns-in-Nothing c =
    let mode = named_mode c.args.setup.brush.flow.mode in
    ⊎_elim (λ none. rw none.1 (sym (none_left mode))) (λ block. rw block.3 (sym (none_left mode))) c.in-Nothing.is
