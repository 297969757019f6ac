-- `bank` has the bytes of every register at its offset: word by word those of its registers.
use borrow.Author.Rules.{rules}
use Rattle.numbers.specs.Bytes.{le}
use Rattle.parts.specs.Registers.{selected, others, registers}
use Rattle.image.specs.Bank.{map_values, other_values, values_of, laid_at, bank_of}
use Rattle.image.specs.Inner.{mix_bytes, word_bytes}
use Rattle.image.proofs.words.bank.Goals as goal

pub returns : goal.returns
unfolding le word_bytes mix_bytes selected others registers map_values other_values values_of laid_at bank_of
returns c = search rules
