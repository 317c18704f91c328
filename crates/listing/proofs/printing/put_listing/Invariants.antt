-- The lines left to put, over the output so far, make the whole.
-- Assumes nothing.
use Rattle.std.proofs.Common.{◌-◌, length}
use Rattle.listing.proofs.Listed.{LinesLeft}
use Rattle.listing.proofs.printing.put_listing.Given as goal

abbrev pub invariant-loop-at : goal.invariant-loop-at
invariant-loop-at l = LinesLeft l.file l.fn.output l.output l.at l.to

abbrev pub decreases-loop-at : goal.decreases-loop-at
decreases-loop-at l = length l.file - l.at
