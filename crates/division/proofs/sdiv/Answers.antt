-- The quotient of the magnitudes, negated where the signs differ.
use Rattle.std.proofs.Common.{rules}
use Rattle.std.proofs.lemmas.Bool.{eqb-false}
use Rattle.division.proofs.Quotients.{divisor_pos, sdiv_other, sdiv_same}
use Rattle.division.proofs.sdiv.Goals as goal

pub div-q-requires : goal.div-q-requires
div-q-requires g c = search (rules, eqb-false, g.met.W.Word.can_divide, divisor_pos _ g.met.W.Word.halves)

pub returns-then-same_sign : goal.returns-then-same_sign
returns-then-same_sign g c = search (rules, eqb-false, g.met.W.Word.quotient, sdiv_same _ g.met.W.Word.halves)

pub returns-else-same_sign : goal.returns-else-same_sign
returns-else-same_sign g c = search (rules, eqb-false, g.met.W.Word.quotient, sdiv_other _ g.met.W.Word.halves)
