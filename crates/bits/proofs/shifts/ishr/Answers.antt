-- A negative word is shifted through its complement.
use Rattle.std.proofs.Common.{leb-false, leb-true, rules}
use Rattle.words.proofs.Signed.{ishr_high, ishr_low}
use Rattle.bits.proofs.shifts.ishr.Goals as goal

pub returns-then-is_negative : goal.returns-then-is_negative
returns-then-is_negative g c = search (rules, leb-true, g.met.W.Word.complement, ishr_high _ g.met.W.Word.halves)

pub returns-else-is_negative : goal.returns-else-is_negative
returns-else-is_negative g c = search (rules, leb-false, ishr_low _ g.met.W.Word.halves)
