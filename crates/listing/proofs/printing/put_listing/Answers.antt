-- A line more, and the end.
-- Assumes nothing.
use Rattle.std.proofs.Common.{arith, rules}
use Rattle.records.proofs.Walk.{size_fits_by}
use Rattle.listing.proofs.Listed.{lines_start, lines_next, lines_put, lines_length}
use Rattle.listing.proofs.printing.put_listing.Goals as goal

pub loop-at-init : goal.loop-at-init
loop-at-init c = search (rules, lines_start)

pub overflow_add-at : goal.overflow_add-at
overflow_add-at c = omega (arith, size_fits_by _ _ _ c.loop-at.invariant.within c.size_at-size.ensures)

pub loop-at-smaller : goal.loop-at-smaller
loop-at-smaller c = omega (arith, size_fits_by _ _ _ c.loop-at.invariant.within c.size_at-size.ensures)

pub loop-at-preserved : goal.loop-at-preserved
loop-at-preserved c = search (rules, lines_next)

pub returns-then-size-eq0-clause-put : goal.returns-then-size-eq0-clause-put
returns-then-size-eq0-clause-put c = search (rules, lines_put)

pub returns-then-size-eq0-clause-length : goal.returns-then-size-eq0-clause-length
returns-then-size-eq0-clause-length c = search (rules, lines_length)
