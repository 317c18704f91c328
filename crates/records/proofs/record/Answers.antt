-- The part of the file between the bounds of record n.
use Rattle.std.proofs.Common.{rules, arith}
use Rattle.records.proofs.Walk.{part_fits, part_bytes, part_place}
use Rattle.records.proofs.record.Goals as goal

pub overflow_add-end : goal.overflow_add-end
overflow_add-end c = omega (arith, part_fits _ _ _ c.record_bounds-bounds.ensures)

pub slice_bounds-result-end : goal.slice_bounds-result-end
slice_bounds-result-end c = omega (arith, part_fits _ _ _ c.record_bounds-bounds.ensures)

pub returns-clause-bytes : goal.returns-clause-bytes
returns-clause-bytes c = search (rules, part_bytes)

pub returns-clause-place : goal.returns-clause-place
returns-clause-place c = search (rules, part_place)
