-- The bits from first on, below i, are set.
use Rattle.std.proofs.Common.{◌≡◌}
use Rattle.words.specs.Word.{bit_in}
use Rattle.registers.proofs.Bits.{below}
use Rattle.registers.proofs.sets.set_bits.Given as goal

abbrev pub invariant-loop-i : goal.invariant-loop-i
invariant-loop-i l = bit_in l.words ≡ below (bit_in l.initial.words) l.first l.i
