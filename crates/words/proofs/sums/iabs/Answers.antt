-- A negative word's magnitude is its negative, the least number's too.
use Rattle.std.proofs.Common.{leb-false, leb-true, rules}
use Rattle.words.proofs.Signed.{iabs_high, iabs_low}
use Rattle.words.proofs.sums.iabs.Goals as goal

pub returns-then-is_negative : goal.returns-then-is_negative
returns-then-is_negative g c = search (rules, leb-true, iabs_high _ g.met.W.Word.halves)

pub returns-else-is_negative : goal.returns-else-is_negative
returns-else-is_negative g c = search (rules, leb-false, iabs_low _ g.met.W.Word.halves)
