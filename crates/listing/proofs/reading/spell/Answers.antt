-- A line more, a malformed one, and the end.
-- Assumes nothing.
use Rattle.std.proofs.Common.{rules}
use Rattle.listing.proofs.Texts.{text_start, text_cut, text_malformed, text_next, text_done}
use Rattle.listing.proofs.reading.spell.Goals as goal

pub loop-at-init : goal.loop-at-init
loop-at-init c = search (rules, text_start)

pub loop-at-preserved : goal.loop-at-preserved
loop-at-preserved c = search (rules, text_next)

pub returns-then-line-rest-clause-spelt : goal.returns-then-line-rest-clause-spelt
returns-then-line-rest-clause-spelt c = search (rules, text_cut)

pub returns-in_default-clause-spelt : goal.returns-in_default-clause-spelt
returns-in_default-clause-spelt c =
    text_malformed _ _ _ _ c.loop-at.invariant _ _ c.rest_from-rest.ensures c.first_part-line.ensures c.if-line-rest.false c.in_default.ensures.size

pub returns-clause-spelt : goal.returns-clause-spelt
returns-clause-spelt c = search (rules, text_done)
