-- After so many records the walk stands where the definition does.
use Rattle.std.proofs.Common.{◌≡◌, ◌≤◌, length}
use Rattle.format.specs.Records.{place_from}
use Rattle.records.proofs.record_bounds.Given as goal

abbrev pub invariant-loop : goal.invariant-loop
invariant-loop l = (l.at ≤ length l.file) × (l.at ≡ place_from l.file 0 l.counter)
