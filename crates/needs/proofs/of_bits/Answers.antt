-- A word of 32 bits.
use Rattle.needs.proofs.Outputs.{word_of_bits}
use Rattle.needs.proofs.of_bits.Goals as goal

pub returns : goal.returns
returns c = word_of_bits _ c.ranges.word.fits
