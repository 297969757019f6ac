-- `number` takes digit after digit into the number: with those that follow it stays the word's.
use Rattle.std.proofs.Common.{◌≡◌, ◌≤◌, ◌<◌, get_or, arith, tests, sym, ◌∙◌}
use Rattle.console.specs.Digits.{digit_of}
use Rattle.console.proofs.DigitLaws.{fitted_lt, number_end, number_stray, number_on, number_begins, digit_none, digit_some}
use Rattle.console.proofs.digits.number.Goals as goal

pub loop-byte-init : goal.loop-byte-init
loop-byte-init c = (omega arith, number_begins _ _ _ (grind (arith, tests)))

pub returns-in_err-digit : goal.returns-in_err-digit
returns-in_err-digit c =
    let none : 16 ≤ digit_of (get_or c.args.word.now c.loop-byte.byte-index 0) =
    rw (← c.from.ensures) (digit_none c.from.result 16 (omega arith) (grind (arith, c.in_err-digit.ensures.value))) in
    let stray : c.args.base ≤ digit_of (get_or c.args.word.now c.loop-byte.byte-index 0) = omega (arith, c.requires.1, none) in
    c.from_residual.ensures ∙ sym (number_stray _ _ _ _ _ c.loop-byte-test.true stray) ∙ c.loop-byte.invariant.1

pub returns-then-base-digit : goal.returns-then-base-digit
returns-then-base-digit c =
    let d = c.in_ok-digit.ensures.value in
    let same : digit_of (get_or c.args.word.now c.loop-byte.byte-index 0) ≡ c.in_ok-digit.digit =
    rw (← c.from.ensures, d.1) (digit_some c.from.result 16 (omega arith) d.0) in
    let stray : c.args.base ≤ digit_of (get_or c.args.word.now c.loop-byte.byte-index 0) = omega (arith, c.if-base-digit.true, same) in
    sym (number_stray _ _ _ _ _ c.loop-byte-test.true stray) ∙ c.loop-byte.invariant.1

pub loop-byte-preserved : goal.loop-byte-preserved
loop-byte-preserved c =
    let d = c.in_ok-digit.ensures.value in
    let same : digit_of (get_or c.args.word.now c.loop-byte.byte-index 0) ≡ c.in_ok-digit.digit =
    rw (← c.from.ensures, d.1) (digit_some c.from.result 16 (omega arith) d.0) in
    let fine : digit_of (get_or c.args.word.now c.loop-byte.byte-index 0) < c.args.base = omega (arith, c.if-base-digit.false, same) in (
      rw c.fit-n.ensures (fitted_lt _ _),
      rw (c.fit-n.ensures, c.from-in-loop-byte.ensures, c.from-in-loop-byte-2.ensures, ← same)
          (sym (number_on _ _ _ _ _ (omega (arith, c.requires.0)) c.loop-byte-test.true fine) ∙ c.loop-byte.invariant.1),
    )

pub returns : goal.returns
returns c = sym (number_end _ _ _ _ _ c.loop-byte-test.false c.loop-byte.invariant.0) ∙ c.loop-byte.invariant.1
