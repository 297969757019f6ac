-- `none_stopped` asks the codes one by one, as many as there are.
use mathlib.Core.Path.{refl, ◌∙◌}
use mathlib.Core.Bool.{not}
use native.Mathlib.Nat.{zero-add}
use native.Mathlib.Omega.{arith}
use borrow.Author.Rules.{rules}
use borrow.Author.Tests.{tests}
use Rattle.std.proofs.lemmas.Iterator.{YieldsList-from_range}
use Rattle.std.proofs.lemmas.Iterator.Search.{all_from_yields_List}
use Rattle.rules.specs.Codes.{stops, code_at, none_stopped}
use Rattle.rules.proofs.CodeLaws.{all_going}
use Rattle.rules.proofs.codes.none_stopped.Goals as goal

pub returns : goal.returns
unfolding none_stopped
returns c =
    let args = c.args in
    all_from_yields_List (λ i. not (stops (code_at args.steps args.count i))) _ _ _ c.all.ensures.ran (YieldsList-from_range 0 args.n args.n refl (omega arith))
    (λ x b q k. search (rules, tests))
    ∙ rw zero-add at (all_going args.steps args.count 0 args.n)
