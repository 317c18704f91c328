-- The bank of the declared words, which say what is declared.
use Rattle.lending.proofs.Indirect.{bank_is}
use Rattle.lending.proofs.bank_into.Goals as goal

pub returns : goal.returns
returns c = bank_is _ _ _ _ _ _ c.declared_words-bits.ensures c.gather_into.ensures
