-- `next` finds where the first word begins and ends.
use Rattle.std.proofs.Common.{rules, arith, ◌≡◌, ◌<◌, ◌∙◌, ap, ◌∷◌, length, not}
use Rattle.std.proofs.lemmas.Iterator.{YieldsList-from_slice}
use Rattle.std.proofs.lemmas.Iterator.Search.{position_from_yields_List}
use borrow.Author.Tests.{tests}
use Rattle.console.specs.Words.{is_blank, line_words}
use Rattle.console.proofs.WordLaws.{words_none, end_of, start_of, words_some, end_within, found_none, found_some, found_or}
use Rattle.console.proofs.words.WordsIterator.next.Goals as goal

pub returns-in_err-start-clause-steps : goal.returns-in_err-start-clause-steps
returns-in_err-start-clause-steps c =
    let s = c.args.self.now.0.now in
    let start = position_from_yields_List (λ b. not (is_blank b)) _ _ _ c.position.ensures.ran (YieldsList-from_slice s cc) (λ x b q k. search (rules, tests)) in
    let none = words_none s (found_none _ _ _ start c.in_err-start.was) in
    rw c.from_residual.ensures (none, none)

-- what is left begins with the first word, and the rest stays
parted : (c : goal.After-rest-2-1) → line_words c.args.self.now.0.now ≡ c.split_at-2.result.0.now ∷ line_words c.split_at-2.result.1.now
parted c =
    let s = c.args.self.now.0.now in let line = c.split_at.result.1.now in
    let start = position_from_yields_List (λ b. not (is_blank b)) _ _ _ c.position.ensures.ran (YieldsList-from_slice s cc) (λ x b q k. search (rules, tests)) in
    let stop = position_from_yields_List is_blank _ _ _ c.position-2.ensures.ran (YieldsList-from_slice line cc) (λ x b q k. search (rules, tests)) in
    let first : (start_of s < length s) × (c.in_ok-start.start ≡ start_of s) = found_some _ _ _ _ start c.in_ok-start.was in
    let end : c.unwrap_or-end.result ≡ end_of line = c.unwrap_or-end.ensures ∙ found_or _ _ _ stop (end_within line) in
    cc (words_some s first.0, first.1, end, c.split_at.ensures.back, c.split_at-2.ensures.front, c.split_at-2.ensures.back)

pub returns-clause-steps : goal.returns-clause-steps
returns-clause-steps c = parted c

pub returns-clause-goes : goal.returns-clause-goes
returns-clause-goes c = record { on = λ _. (tt, tt, omega (arith, ap length (parted c))); keeps = tt; rests = λ _. tt }
