-- What was printed lies within the array.
-- Assumes nothing.
use Rattle.std.proofs.Common.{sym}
use Rattle.std.proofs.lemmas.List.{length-take-le}
use Rattle.listing.proofs.Within.{print_within}
use Rattle.tgsi_list.proofs.list.Goals as goal

pub slice_bounds-listing-end : goal.slice_bounds-listing-end
slice_bounds-listing-end c = print_within _ _ _ _ _ c.print.ensures.printed c.in_ok-n.ensures

pub slice_bounds-write_all-end : goal.slice_bounds-write_all-end
slice_bounds-write_all-end c = sym (length-take-le _ _ (print_within _ _ _ _ _ c.print.ensures.printed c.in_ok-n.ensures))
