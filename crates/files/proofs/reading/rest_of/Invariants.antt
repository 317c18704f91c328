-- Each read passes over at most 65,536 bytes.
-- Assumes nothing.
use Rattle.std.proofs.Common.{◌≤◌, ◌*◌}
use Rattle.files.proofs.reading.rest_of.Given as goal

abbrev pub invariant-loop : goal.invariant-loop
invariant-loop g l = l.bytes ≤ 65536 * l.counter
