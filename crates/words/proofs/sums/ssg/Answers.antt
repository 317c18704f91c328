-- The three signs, by the tests of the word.
use Rattle.std.proofs.Common.{eqb-true, leb-false, leb-true, rules}
use Rattle.std.proofs.lemmas.Bool.{eqb-false}
use Rattle.words.proofs.Signed.{ssg_high, ssg_low, ssg_zero}
use Rattle.words.proofs.sums.ssg.Goals as goal

pub returns-then-is_zero : goal.returns-then-is_zero
returns-then-is_zero g c = search (rules, eqb-true, ssg_zero _ g.met.W.Word.halves)

pub returns-then-is_negative : goal.returns-then-is_negative
returns-then-is_negative g c = search (rules, leb-true, g.met.W.Word.from, g.met.W.Word.complement, ssg_high _ g.met.W.Word.halves)

pub returns-else-is_negative : goal.returns-else-is_negative
returns-else-is_negative g c = search (rules, eqb-false, leb-false, g.met.W.Word.from, ssg_low _ g.met.W.Word.halves)
