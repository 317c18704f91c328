-- The ones above a field whose sign bit is set.
use Rattle.std.proofs.Common.{refl, rules}
use Rattle.bitfields.proofs.Fields.{extended_high}
use Rattle.bitfields.proofs.extended.Goals as goal

pub returns-else-part-power : goal.returns-else-part-power
returns-else-part-power c = search (rules, extended_high 32 refl)
