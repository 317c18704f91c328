-- The bounds by the walk: at each turn, and where it ends.
use Rattle.std.proofs.Common.{rules}
use Rattle.records.proofs.Walk.{bounds_long, bounds_none, bounds_found, start_place, size_fits_by, walk_fits, place_step}
use Rattle.records.proofs.record_bounds.Goals as goal

pub returns-then-file-gt-LONGEST : goal.returns-then-file-gt-LONGEST
returns-then-file-gt-LONGEST c = search (rules, bounds_long)

pub loop-init : goal.loop-init
loop-init c = search (rules, start_place)

pub returns-then-size-eq0 : goal.returns-then-size-eq0
returns-then-size-eq0 c = search (rules, bounds_none)

pub overflow_add-at : goal.overflow_add-at
overflow_add-at c = search (rules, walk_fits)

pub loop-preserved : goal.loop-preserved
loop-preserved c = search (rules, place_step, size_fits_by)

pub returns-then-size-eq0-2 : goal.returns-then-size-eq0-2
returns-then-size-eq0-2 c = search (rules, bounds_none)

pub returns : goal.returns
returns c = search (rules, bounds_found)
