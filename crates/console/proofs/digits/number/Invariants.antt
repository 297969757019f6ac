-- `number` takes digit after digit into the number: with those that follow it stays the word's.
use Rattle.std.proofs.Common.{◌≡◌, ◌<◌, ◌^◌, drop}
use Rattle.console.specs.Digits.{number_from, word_number}
use Rattle.console.proofs.digits.number.Given as goal

abbrev pub invariant-loop-byte : goal.invariant-loop-byte
invariant-loop-byte l = (l.n < 2 ^ 32) × (number_from l.wide l.base l.n (drop l.byte-index l.word) ≡ word_number l.wide l.base l.word)
