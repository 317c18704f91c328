-- Words that are 0 have no bit set.
use Rattle.std.proofs.Common.{refl}
use Rattle.registers.proofs.Files.{no_bits}
use Rattle.registers.proofs.sets.empty.Goals as goal

pub returns : goal.returns
returns c = no_bits _ refl refl refl refl refl refl
