use Rattle.std.proofs.Common.{◌≡◌}
use Rattle.destinations.specs.Destinations.{placed}
use Rattle.destinations.proofs.Writes.{masked_to}
use Rattle.destinations.proofs.write.Given as goal

abbrev pub invariant-loop-i : goal.invariant-loop-i
invariant-loop-i l = l.registers ≡ masked_to l.mask (placed l.first l.v) l.initial.registers l.i
