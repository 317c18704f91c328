-- What was read lies within the array.
-- Assumes nothing.
use Rattle.std.proofs.Common.{sym}
use Rattle.std.proofs.lemmas.List.{length-take-le}
use Rattle.listing.proofs.Within.{read_within}
use Rattle.tgsi_read.proofs.read.Goals as goal

pub slice_bounds-file-end : goal.slice_bounds-file-end
slice_bounds-file-end c = read_within _ _ _ _ _ c.read.ensures c.in_ok-n.ensures

pub slice_bounds-save-end : goal.slice_bounds-save-end
slice_bounds-save-end c = sym (length-take-le _ _ (read_within _ _ _ _ _ c.read.ensures c.in_ok-n.ensures))
