-- What the rest of the text gives, after the file so far, makes the whole.
-- Assumes nothing.
use Rattle.std.proofs.Common.{◌-◌, length}
use Rattle.listing.proofs.Texts.{TextLeft}
use Rattle.listing.proofs.reading.spell.Given as goal

abbrev pub invariant-loop-at : goal.invariant-loop-at
invariant-loop-at l = TextLeft l.text l.file l.at l.count

abbrev pub decreases-loop-at : goal.decreases-loop-at
decreases-loop-at l = length l.text - l.at
