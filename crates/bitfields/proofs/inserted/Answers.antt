-- The parts fit the word.
use Rattle.std.proofs.Common.{rules}
use Rattle.bitfields.proofs.Fields.{inserted_fits, upper_fits}
use Rattle.bitfields.proofs.inserted.Goals as goal

pub joined-requires-2 : goal.joined-requires-2
joined-requires-2 c = search (rules, upper_fits 32)

pub overflow_cast-result : goal.overflow_cast-result
overflow_cast-result c = record { fits = search (rules, inserted_fits 32) }
