-- The remainder of the magnitudes, negated where the dividend is negative.
use Rattle.std.proofs.Common.{rules}
use Rattle.std.proofs.lemmas.Bool.{eqb-false}
use Rattle.division.proofs.Quotients.{divisor_pos, srem_kept, srem_negated}
use Rattle.division.proofs.srem.Goals as goal

pub rem-m-requires : goal.rem-m-requires
rem-m-requires g c = search (rules, eqb-false, g.met.W.Word.can_take_out, divisor_pos _ g.met.W.Word.halves)

pub returns-then-is_negative : goal.returns-then-is_negative
returns-then-is_negative g c = search (rules, eqb-false, g.met.W.Word.remainder, srem_negated _ g.met.W.Word.halves)

pub returns-else-is_negative : goal.returns-else-is_negative
returns-else-is_negative g c = search (rules, eqb-false, g.met.W.Word.remainder, srem_kept _ g.met.W.Word.halves)
