-- That a promise leaves one answer, and one content of what its caller lent.
use Rattle.std.specs.Prelude.{◌≡◌}
use seplogic.Ra.Ura.{Ura}
use base.Logic.{ent, sep}
use contract.Monad.{fact}
use contract.Lifetimes.{Lfts}
use denote.Triple.Entry.{Args, Res}
use denote.Triple.Clauses.{Ended, Clauses, Lasts, at_exit}

-- 01, How tight the promises are: whatever the arguments, two answers that both meet the promise, and two contents of lent memory at the end, are the same
abbrev pub One : {M : Type 1} (𝓤 : Ura M) (call : Ended) → Clauses 𝓤 call → Type 1
One 𝓤 call promise =
    (κs : Lfts call.signature.lifetimes) (a : Args call.signature κs) (g : (promise κs a).ghost) (r s : Res call.signature κs) (m n : Lasts call κs a)
    → ent 𝓤 (sep 𝓤 ((promise κs a).ensures g r (at_exit call κs a m)) ((promise κs a).ensures g s (at_exit call κs a n))) (fact 𝓤 ((r ≡ s) × (m ≡ n)))
