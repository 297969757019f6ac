-- `latch_terms` is the terms after the write: each field is its register's, read as it was stored, and terms that the write does not reach stay.
use mathlib.Core.Path.{sym, ◌∙◌}
use mir.Syntax.{w32}
use Rattle.parts.specs.Registers.{error_term, first_constant, second_constant}
use Rattle.parts.specs.Takes.{taken_onto}
use Rattle.parts.specs.Latches.{terms_latched}
use Rattle.parts.proofs.SignedFields.{field_answer}
use Rattle.parts.proofs.LatchLaws.{terms_untouched}
use borrow.Author.Rules.{rules}
use Rattle.parts.proofs.latches.latch_terms.Goals as goal

pub returns-then-touches : goal.returns-then-touches
unfolding terms_latched
returns-then-touches c =
    let first = c in
    let second = c in
    let a = c.args in
    let e = field_answer w32 (taken_onto error_term a.w) a.terms.e _ (search rules) (record { sfits = first.take_term.type_inv })
    first.take_term.ensures in
    let k1 = field_answer w32 (taken_onto first_constant a.w) a.terms.k1 _ (search rules) (record { sfits = second.take_term-then-touches.type_inv })
    second.take_term-then-touches.ensures in
    let k2 = field_answer w32 (taken_onto second_constant a.w) a.terms.k2 _ (search rules) (record { sfits = c.take_term-then-touches-2.type_inv })
    c.take_term-then-touches-2.ensures in
    λ i. record { e = e i; k1 = k1 i; k2 = k2 i }

pub returns-else-touches : goal.returns-else-touches
returns-else-touches c = sym (terms_untouched _ _ (sym c.touches.ensures ∙ c.if-touches.false))
