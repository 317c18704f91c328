-- The bits of a negative word that differ from its sign bit are those that its complement has set.
use Rattle.std.proofs.Common.{leb-false, leb-true, refl, rules}
use Rattle.bits.proofs.Counts.{imsb_high, imsb_low}
use Rattle.bits.proofs.imsb32.Goals as goal

pub returns-then-is_negative : goal.returns-then-is_negative
returns-then-is_negative c = search (rules, leb-true, imsb_high 32 refl)

pub returns-else-is_negative : goal.returns-else-is_negative
returns-else-is_negative c = search (rules, leb-false, imsb_low 32 refl)
